use Rattle.std.proofs.Common.{◌≡◌, drop}
use Rattle.check_program.specs.Layouts.{frame_fault}
use Rattle.check_program.proofs.layouts.frame_fault.Given as goal

abbrev pub invariant-loop-layout : goal.invariant-loop-layout
invariant-loop-layout l = frame_fault l.layouts ≡ frame_fault (drop l.layout-index l.layouts)
