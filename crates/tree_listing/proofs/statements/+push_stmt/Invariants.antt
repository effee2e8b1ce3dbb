use Rattle.std.proofs.Common.{◌≡◌, ◌++◌, drop, map}
use Rattle.tree_listing.specs.Events.{child, more, stmt_events, arm_events}
use Rattle.tree_listing.proofs.statements.+push_stmt.Given as goal

abbrev pub invariant-push_sequence-loop-stmt : goal.invariant-push_sequence-loop-stmt
invariant-push_sequence-loop-stmt l = l.out ++ more (map child (map stmt_events (drop l.stmt-index l.rest))) l.level ≡ l.initial.out ++ more (map child (map stmt_events l.rest)) l.level

abbrev pub invariant-push_arms-loop-arm : goal.invariant-push_arms-loop-arm
invariant-push_arms-loop-arm l = l.out ++ more (map arm_events (drop l.arm-index l.rest)) l.level ≡ l.initial.out ++ more (map arm_events l.rest) l.level
