use Rattle.std.proofs.Common.{ℕ, slice_index, ap, sym, ◌∙◌}
use Rattle.link_frames.specs.Frames.{request_in, request_frame}
use Rattle.link_frames.proofs.WriteBack.{request-frame-written}
use Rattle.link_frames.proofs.read_frame.read_request.Goals as goal

pub returns-in-Some-clause-written : goal.returns-in-Some-clause-written
returns-in-Some-clause-written c =
    let bs = c.args.frame.now in
    request-frame-written bs c.in-Some.request (λ k. (c.type_inv.frame k).fits) (sym c.is_whole.ensures.whole ∙ c.if-not-is_whole.false)
    (ap (request_in (slice_index bs 1)) (sym c.after.ensures) ∙ sym c.request_in.ensures.request ∙ c.in-Some.is)
    ∙ ap (λ (n : ℕ). request_frame (record { number = n; request = c.in-Some.request })) (sym c.number_in-number.ensures)
