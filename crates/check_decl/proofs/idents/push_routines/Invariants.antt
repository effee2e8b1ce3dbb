use Rattle.std.proofs.Common.{◌≡◌, ◌++◌, drop, map}
use Rattle.check_decl.specs.BlockRules.{routine_idents}
use Rattle.check_decl.specs.Blocks.{routine_judge, bodyless}
use Rattle.check_decl.proofs.idents.push_routines.Given as goal

abbrev pub invariant-loop-routine : goal.invariant-loop-routine
invariant-loop-routine l =
    l.fn.out ++ routine_idents (map (routine_judge bodyless) l.routines)
    ≡ l.out ++ routine_idents (map (routine_judge bodyless) (drop l.routine-index l.routines))
