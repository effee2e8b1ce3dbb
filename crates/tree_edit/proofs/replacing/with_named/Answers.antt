use Rattle.std.proofs.Common.{arith}
use Rattle.tree_edit.proofs.NamedAfter.{named_after}
use Rattle.tree_edit.proofs.replacing.with_named.Goals as goal

pub with_stmt-requires : goal.with_stmt-requires
with_stmt-requires c =
    record {
      named = named_after c.args.path.now c.args.old.now c.args.named.now c.args.program.now c.args.next c.requires.place c.requires.name c.requires.counted (omega arith) c.tree-tree.ensures.invariant.named;
      formed = c.requires.formed;
    }
