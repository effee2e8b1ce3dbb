use Rattle.std.proofs.Common.{ap, ◌∙◌}
use Rattle.monitor_link.specs.Exchange.{frames_with}
use Rattle.monitor_link.specs.Carried.{WireState}
use Rattle.monitor_link.proofs.Wires.{wire-carried}
use Rattle.monitor_link.proofs.wire.WireLink.exchange.Goals as goal

pub returns-clause-exchanged : goal.returns-clause-exchanged
returns-clause-exchanged c =
    wire-carried c.args.self.now c.keep_frame.new.self c.next_fate-fate.result c.args.frame.now _ _ _ _
    (c.keep_frame.ensures
    ∙ ap (λ (w : WireState). record w { frames = frames_with c.args.frame.now w.frames }) c.next_fate-fate.ensures.wire)
    c.next_fate-fate.ensures.fate c.carry-heard.ensures.carried (ap (λ (w : WireState). w.faults) c.carry-heard.ensures.wire)
    c.promises.ensures.reads
