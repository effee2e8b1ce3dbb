use Rattle.std.proofs.Common.{◌≡◌, drop}
use Rattle.pascal_tree.specs.Naming.{routines_numbering}
use Rattle.tree_names.proofs.Numbers.{with_front}
use Rattle.tree_names.proofs.naming.+number_block.Given as goal

abbrev pub invariant-number_routines-loop-routine : goal.invariant-number_routines-loop-routine
invariant-number_routines-loop-routine l = with_front l.all (routines_numbering (drop l.routine-index l.routines) l.next) ≡ routines_numbering l.routines l.fn.next
