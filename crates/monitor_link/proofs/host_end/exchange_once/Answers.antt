use Rattle.std.proofs.Common.{ap, sym, ◌∙◌}
use Rattle.link_frames.specs.Frames.{answer_of}
use Rattle.monitor_link.proofs.Steps.{sender-step, sender-once, sender-reply, sender-down, heard-this, unheard-this}
use Rattle.monitor_link.proofs.host_end.exchange_once.Goals as goal

pub returns-in-Answer-clause-in_step : goal.returns-in-Answer-clause-in_step
returns-in-Answer-clause-in_step g c =
    rw c.exchange.ensures.frames
    (sender-step _ _ _ _ _ _ _ _ _ _ c.requires.says c.requires.in_step c.exchange.ensures.exchanged)

pub returns-in-Answer-clause-once : goal.returns-in-Answer-clause-once
returns-in-Answer-clause-once g c =
    sender-once c.args.number _ _ _ _ _ _ _ _ _ c.requires.says c.requires.in_step c.exchange.ensures.exchanged

pub returns-in-Answer-clause-answered : goal.returns-in-Answer-clause-answered
returns-in-Answer-clause-answered g c = λ came.
    let e = c.exchange.ensures.exchanged in
    let step = sender-step _ _ _ _ _ _ _ _ _ _ c.requires.says c.requires.in_step e in
    (sender-reply c.args.number c.args.frame.now c.exchange.new.got c.take_reply.new.reply _ _ _ c.ranges.number.fits c.requires.says step e.reads
    (e.heard_one c.exchange.new.got (heard-this _ _ c.in-Answer.is))
    (ap answer_of (sym c.as_slice.ensures.bytes) ∙ c.take_reply.ensures.found came)).0

pub returns-in-Answer-clause-reply : goal.returns-in-Answer-clause-reply
returns-in-Answer-clause-reply g c = λ came.
    let e = c.exchange.ensures.exchanged in
    let step = sender-step _ _ _ _ _ _ _ _ _ _ c.requires.says c.requires.in_step e in
    (sender-reply c.args.number c.args.frame.now c.exchange.new.got c.take_reply.new.reply _ _ _ c.ranges.number.fits c.requires.says step e.reads
    (e.heard_one c.exchange.new.got (heard-this _ _ c.in-Answer.is))
    (ap answer_of (sym c.as_slice.ensures.bytes) ∙ c.take_reply.ensures.found came)).1

pub returns-in-Answer-clause-down : goal.returns-in-Answer-clause-down
returns-in-Answer-clause-down g c = λ lost.
    sender-down c.args.number c.args.frame.now _ _ _ _ _ _ _ _ c.ranges.number.fits c.requires.says c.requires.in_step c.exchange.ensures.exchanged
    (unheard-this _ c.exchange.new.got c.args.number c.in-Answer.is
    (λ p read. c.take_reply.ensures.other lost p (ap answer_of c.as_slice.ensures.bytes ∙ read)))

pub returns-in-Silence-clause-in_step : goal.returns-in-Silence-clause-in_step
returns-in-Silence-clause-in_step g c =
    rw c.exchange.ensures.frames
    (sender-step _ _ _ _ _ _ _ _ _ _ c.requires.says c.requires.in_step c.exchange.ensures.exchanged)

pub returns-in-Silence-clause-once : goal.returns-in-Silence-clause-once
returns-in-Silence-clause-once g c =
    sender-once c.args.number _ _ _ _ _ _ _ _ _ c.requires.says c.requires.in_step c.exchange.ensures.exchanged
