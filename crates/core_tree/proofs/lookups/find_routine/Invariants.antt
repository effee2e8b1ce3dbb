use Rattle.std.proofs.Common.{◌≡◌, drop}
use Rattle.core_tree.specs.Lookups.{routine_of}
use Rattle.core_tree.proofs.lookups.find_routine.Given as goal

abbrev pub invariant-loop-routine : goal.invariant-loop-routine
invariant-loop-routine l = routine_of (drop l.routine-index l.routines) l.fn.name.0 ≡ routine_of l.routines l.fn.name.0
