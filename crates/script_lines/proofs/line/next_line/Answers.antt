use Rattle.std.proofs.Common.{◌∙◌}
use Rattle.script_lines.proofs.Fronts.{past-room, whole-line, kept-short, byte-more, byte-lost}
use Rattle.script_lines.proofs.line.next_line.Goals as goal

pub returns-then-room-eq0-clause-got : goal.returns-then-room-eq0-clause-got
returns-then-room-eq0-clause-got g c =
    past-room _ _ _ _ _ _ c.in-Some.byte c.loop-byte.invariant.so_far c.if-room-eq0.true (rw c.in-Some.is at c.in_ok-byte.ensures.bytes)

pub returns-then-byte-eq-LINE_FEED-clause-got : goal.returns-then-byte-eq-LINE_FEED-clause-got
returns-then-byte-eq-LINE_FEED-clause-got g c =
    whole-line _ _ _ _ _ _ c.in-Some.byte c.loop-byte.invariant.so_far c.if-room-eq0.false c.if-byte-eq-LINE_FEED.true (rw c.in-Some.is at c.in_ok-byte.ensures.bytes)

pub keep-requires : goal.keep-requires
keep-requires g c = kept-short _ _ _ _ _ c.loop-byte.invariant.so_far

pub loop-byte-preserved : goal.loop-byte-preserved
loop-byte-preserved g c = record {
  so_far = byte-more _ _ _ _ _ _ _ c.in-Some.byte c.loop-byte.invariant.so_far c.if-room-eq0.false c.if-byte-eq-LINE_FEED.false (rw c.in-Some.is at c.in_ok-byte.ensures.bytes) c.in_ok-keep.ensures;
  same = c.in_ok-byte.ensures.cause.same ∙ c.loop-byte.invariant.same;
}

pub returns-in_err-keep-clause-part : goal.returns-in_err-keep-clause-part
returns-in_err-keep-clause-part g c = λ e.
    byte-lost _ _ _ _ _ _ _ _ c.in-Some.byte c.loop-byte.invariant.so_far c.if-byte-eq-LINE_FEED.false (rw c.in-Some.is at c.in_ok-byte.ensures.bytes)
