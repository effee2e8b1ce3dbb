use Rattle.std.proofs.Common.{◌≡◌, ◌++◌}
use Rattle.tree_listing.specs.Events.{said}
use Rattle.tree_listing.proofs.events.Events.push_tokens.Given as goal

abbrev pub invariant-loop-token : goal.invariant-loop-token
invariant-loop-token l = l.self ≡ l.fn.self ++ said l.yielded
