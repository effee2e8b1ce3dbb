use Rattle.std.proofs.Common.{◌≡◌, map, take}
use Rattle.resolve_types.specs.Resolved.{domain_shape}
use Rattle.resolve_types.proofs.shapes.domain_shapes.Given as goal

abbrev pub invariant-loop-declared : goal.invariant-loop-declared
invariant-loop-declared l = l.all ≡ map domain_shape (take l.declared-index l.domains)
