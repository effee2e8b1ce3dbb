use Rattle.std.proofs.Common.{◌≡◌, drop}
use Rattle.resolve_expr.specs.Nodes.{owner_in}
use Rattle.resolve_expr.proofs.places.owner_in.Given as goal

abbrev pub invariant-loop-owner : goal.invariant-loop-owner
invariant-loop-owner l = owner_in l.owners l.name ≡ owner_in (drop l.owner-index l.owners) l.name
