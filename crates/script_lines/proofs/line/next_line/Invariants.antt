use Rattle.std.proofs.Common.{◌≡◌}
use Rattle.script_lines.proofs.Fronts.{SoFar}
use Rattle.script_lines.proofs.line.next_line.Given as goal

abbrev pub invariant-loop-byte : goal.invariant-loop-byte
invariant-loop-byte g l = record {
  so_far : SoFar l.line.items l.fn.room l.room (g.S.Source.left l.fn.source) (g.S.Source.left l.source);
  same : g.S.Source.faults l.source ≡ g.S.Source.faults l.fn.source;
}

abbrev pub decreases-loop-byte : goal.decreases-loop-byte
decreases-loop-byte g l = l.room
