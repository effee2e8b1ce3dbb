use Rattle.std.proofs.Common.{◌≡◌, ◌≤◌, ◌+◌, Some}
use Rattle.target_monitor.specs.declared.requests.Request.{Request}
use Rattle.monitor_link.specs.Target.{EndState}
use Rattle.monitor_link.specs.Host.{request_in_frame, sender, IsSynchronized, AtMostOnce}
use Rattle.monitor_link.proofs.host_end.exchange_often.Given as goal

abbrev pub invariant-loop-tried : goal.invariant-loop-tried
invariant-loop-tried g l = record {
  in_step : IsSynchronized (sender l.number l.frame) (g.L.Link.target l.link) (g.L.Link.frames l.link) (g.L.Link.answers l.link);
  once : (request : Request) (base : EndState) → request_in_frame l.frame ≡ Some request → base.last + 1 ≡ l.number
      → AtMostOnce base request (g.L.Link.target l.fn.link) → AtMostOnce base request (g.L.Link.target l.link);
  later : g.L.Link.faults l.fn.link ≤ g.L.Link.faults l.link;
  down : g.L.Link.faults l.fn.link + l._tried ≤ g.L.Link.faults l.link;
  reply : l.reply ≡ l.fn.reply;
  scheduled : g.L.Link.scheduled l.link ≡ g.L.Link.scheduled l.fn.link;
}
