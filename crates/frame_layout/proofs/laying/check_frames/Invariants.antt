use Rattle.std.proofs.Common.{◌≡◌, drop}
use Rattle.frame_layout.specs.Layouts.{frame_fault}
use Rattle.frame_layout.proofs.laying.check_frames.Given as goal

abbrev pub invariant-loop-layout : goal.invariant-loop-layout
invariant-loop-layout l = frame_fault (drop l.layout-index l.layouts) ≡ frame_fault l.layouts
