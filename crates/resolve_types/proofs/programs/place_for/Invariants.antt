use Rattle.std.proofs.Common.{◌≡◌, drop}
use Rattle.resolve_types.specs.Programs.{place_for}
use Rattle.resolve_types.proofs.programs.place_for.Given as goal

abbrev pub invariant-loop-place : goal.invariant-loop-place
invariant-loop-place l = place_for l.places l.name ≡ place_for (drop l.place-index l.places) l.name
