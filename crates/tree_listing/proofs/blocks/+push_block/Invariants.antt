use Rattle.std.proofs.Common.{◌≡◌, ◌++◌, drop, map}
use Rattle.tree_listing.specs.Events.{child, ended, routine_events}
use Rattle.tree_listing.proofs.blocks.+push_block.Given as goal

abbrev pub invariant-push_routines-loop-routine : goal.invariant-push_routines-loop-routine
invariant-push_routines-loop-routine l = l.out ++ ended (map child (map routine_events (drop l.routine-index l.routines))) l.level ≡ l.fn.out ++ ended (map child (map routine_events l.routines)) l.level
