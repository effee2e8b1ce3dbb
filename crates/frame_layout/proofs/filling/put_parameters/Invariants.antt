use Rattle.std.proofs.Common.{◌≡◌, drop, map}
use Rattle.frame_layout.specs.Slots.{frame_after, parameter_slot}
use Rattle.frame_layout.proofs.filling.put_parameters.Given as goal

abbrev pub invariant-loop-parameter : goal.invariant-loop-parameter
invariant-loop-parameter l = frame_after l.fn.shapes.entries l.frame (map parameter_slot (drop l.parameter-index l.parameters)) ≡ frame_after l.fn.shapes.entries l.fn.frame (map parameter_slot l.parameters)
