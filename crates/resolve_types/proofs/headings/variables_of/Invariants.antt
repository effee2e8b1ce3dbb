use Rattle.std.proofs.Common.{◌≡◌, map, take}
use Rattle.resolve_types.specs.Resolved.{core_variable}
use Rattle.resolve_types.proofs.headings.variables_of.Given as goal

abbrev pub invariant-loop-row : goal.invariant-loop-row
invariant-loop-row l = l.all ≡ map core_variable (take l.row-index l.rows)
