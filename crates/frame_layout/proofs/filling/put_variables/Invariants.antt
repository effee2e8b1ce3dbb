use Rattle.std.proofs.Common.{◌≡◌, drop, map}
use Rattle.frame_layout.specs.Slots.{frame_after, variable_slot}
use Rattle.frame_layout.proofs.filling.put_variables.Given as goal

abbrev pub invariant-loop-variable : goal.invariant-loop-variable
invariant-loop-variable l = frame_after l.fn.shapes.entries l.frame (map variable_slot (drop l.variable-index l.variables)) ≡ frame_after l.fn.shapes.entries l.fn.frame (map variable_slot l.variables)
