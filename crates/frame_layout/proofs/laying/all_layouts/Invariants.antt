use Rattle.std.proofs.Common.{◌≡◌, ◌++◌, drop, map}
use Rattle.frame_layout.specs.Layouts.{layout_of}
use Rattle.frame_layout.proofs.laying.all_layouts.Given as goal

abbrev pub invariant-loop-routine : goal.invariant-loop-routine
invariant-loop-routine l = l.layouts ++ map (layout_of l.fn.shapes.entries) (drop l.routine-index l.routines) ≡ map (layout_of l.fn.shapes.entries) l.routines
