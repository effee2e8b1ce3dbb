use Rattle.std.proofs.Common.{◌+◌, arith}
use Rattle.monitor_link.proofs.Steps.{frame-says, says-waiting}
use Rattle.monitor_link.proofs.host_end.HostEnd.begin.Goals as goal

pub invariant_of-self : goal.invariant_of-self
invariant_of-self c =
    (c.args.request.now, frame-says _ _ _ c.write_request.ensures.reads (omega arith) (omega arith) c.write_request.ensures.frame)

pub returns-then-not-self-clause-waits : goal.returns-then-not-self-clause-waits
returns-then-not-self-clause-waits c =
    says-waiting _ (c.self.inside.number + 1) _
    (frame-says _ _ _ c.write_request.ensures.reads (omega arith) (omega arith) c.write_request.ensures.frame)
