use Rattle.std.proofs.Common.{List, ap, ◌∙◌}
use Rattle.pascal_tree.specs.declared.decl.Decl.{Decl}
use Rattle.pascal_tree.specs.declared.decl.Routine.{Routine}
use Rattle.pascal_tree.specs.Naming.{decls_numbering, routines_numbering}
use Rattle.tree_names.proofs.Blocks.{block_by_parts, ok_same}
use Rattle.tree_names.proofs.naming.+number_block.Goals as goal

pub number_block-returns : goal.number_block-returns
number_block-returns t c =
    ok_same _ _ _
    (block_by_parts _ _ _ _ _ _ _ _ _ _ _ c.in_ok-first.ensures
    (c.in_ok-consts.ensures ∙ ap (λ (xs : List Decl). decls_numbering xs c.in_ok-first.first) c.as_slice.ensures)
    (c.in_ok-types.ensures ∙ ap (λ (xs : List Decl). decls_numbering xs c.in_ok-consts.last) c.as_slice-2.ensures)
    (c.in_ok-vars.ensures ∙ ap (λ (xs : List Decl). decls_numbering xs c.in_ok-types.last) c.as_slice-3.ensures)
    (c.in_ok-routines.ensures ∙ ap (λ (xs : List Routine). routines_numbering xs c.in_ok-vars.last) c.as_slice-4.ensures))
    c.number_ends.ensures
