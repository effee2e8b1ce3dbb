use Rattle.std.proofs.Common.{◌≡◌, drop}
use Rattle.frame_layout.specs.Layouts.{layout_found}
use Rattle.frame_layout.proofs.rows.Layouts.of.Given as goal

abbrev pub invariant-loop-layout : goal.invariant-loop-layout
invariant-loop-layout l = layout_found (drop l.layout-index l.layouts) l.fn.routine.0 ≡ layout_found l.layouts l.fn.routine.0
