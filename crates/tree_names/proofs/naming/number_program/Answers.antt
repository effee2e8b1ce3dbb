use Rattle.std.proofs.Common.{ℕ, refl, sym, subst, rules}
use Rattle.pascal_tree.specs.declared.decl.Block.{Block}
use Rattle.pascal_tree.specs.Names.{Counts, block_names}
use Rattle.tree_names.proofs.BlockNames.{proper_block}
use Rattle.tree_names.proofs.naming.number_program.Goals as goal

pub returns : goal.returns
returns c = record {
  value = search rules;
  names = (refl, subst (λ (r : Block × ℕ). Counts 2 (block_names r.0) r.1) (sym c.in_ok-block.ensures) (proper_block _ 2));
}
