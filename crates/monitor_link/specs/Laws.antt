-- Laws of the link, for the crates above.
use Rattle.std.proofs.Common.{[], None, refl, arith}
use Rattle.monitor_link.specs.Target.{fresh_end}
use Rattle.monitor_link.specs.Host.{IsSynchronized}

-- a host's end that asked nothing is in step with a fresh link
pub fresh-synchronized : IsSynchronized (record { number = 0; waits = None }) fresh_end [] []
fresh-synchronized = record {
  at = refl;
  sent = λ bytes h. absurd h;
  answered = λ bytes h. absurd h;
  counted = omega arith;
}
