use Rattle.std.proofs.Common.{◌≡◌, drop}
use Rattle.resolve_types.specs.Programs.{layout_for}
use Rattle.resolve_types.proofs.programs.layout_for.Given as goal

abbrev pub invariant-loop-layout : goal.invariant-loop-layout
invariant-loop-layout l = layout_for l.layouts l.name ≡ layout_for (drop l.layout-index l.layouts) l.name
