use Rattle.std.proofs.Common.{ℕ, slice_index, ap, sym, ◌∙◌}
use Rattle.link_frames.specs.Frames.{reply_in, answer_frame}
use Rattle.link_frames.proofs.WriteBack.{answer-frame-written}
use Rattle.link_frames.proofs.read_frame.read_answer.Goals as goal

pub returns-in-Some-clause-written : goal.returns-in-Some-clause-written
returns-in-Some-clause-written c =
    let bs = c.args.frame.now in
    answer-frame-written bs c.in-Some.reply (λ k. (c.type_inv.frame k).fits) (sym c.is_whole.ensures.whole ∙ c.if-not-is_whole.false)
    (ap (reply_in (slice_index bs 1)) (sym c.after.ensures) ∙ sym c.reply_in.ensures ∙ c.in-Some.is)
    ∙ ap (λ (n : ℕ). answer_frame (record { number = n; reply = c.in-Some.reply })) (sym c.number_in-number.ensures)
