use Rattle.std.proofs.Common.{◌≡◌, map, take}
use Rattle.resolve_types.specs.Resolved.{heading_parameter}
use Rattle.resolve_types.proofs.headings.heading_parameters.Given as goal

abbrev pub invariant-loop-parameter : goal.invariant-loop-parameter
invariant-loop-parameter l = l.all ≡ map heading_parameter (take l.parameter-index l.parameters)
