use Rattle.std.proofs.Common.{◌≡◌, map, take}
use Rattle.core_tree.specs.Shapes.{trees_of}
use Rattle.resolve_types.specs.Forms.{parameter_over}
use Rattle.resolve_types.proofs.routines.parameters_of.Given as goal

abbrev pub invariant-loop-parameter : goal.invariant-loop-parameter
invariant-loop-parameter l = l.all ≡ map (parameter_over (trees_of l.table.entries)) (take l.parameter-index l.parameters)
