use Rattle.std.proofs.Common.{◌≡◌, drop, map}
use Rattle.check_decl.specs.BlockRules.{block_for}
use Rattle.check_decl.specs.Blocks.{routine_judge, bodyless}
use Rattle.check_decl.proofs.routines.block_for.Given as goal

abbrev pub invariant-loop-routine : goal.invariant-loop-routine
invariant-loop-routine l =
    block_for l.heading (map (routine_judge bodyless) l.later)
    ≡ block_for l.heading (map (routine_judge bodyless) (drop l.routine-index l.later))
