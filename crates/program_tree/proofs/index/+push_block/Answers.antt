use Rattle.pascal_tree.specs.Rows.{decl_rows, routine_rows}
use Rattle.program_tree.proofs.Added.{adds_same, block_by_parts, on_ok}
use Rattle.program_tree.proofs.index.+push_block.Goals as goal

pub push_block-returns : goal.push_block-returns
push_block-returns t c =
    on_ok _
    (block_by_parts _ _ _ _ _ _ _ _ _ _ _ _ _ _ c.in_ok-consts.ensures
    (adds_same decl_rows _ _ _ _ _ _ _ c.as_slice.ensures c.in_ok-types.ensures)
    (adds_same decl_rows _ _ _ _ _ _ _ c.as_slice-2.ensures c.in_ok-vars.ensures)
    (adds_same decl_rows _ _ _ _ _ _ _ c.as_slice-3.ensures c.in_ok-routines.ensures)
    (adds_same routine_rows _ _ _ _ _ _ _ c.as_slice-4.ensures c.in_ok-body.ensures))
    c.push_part.ensures
