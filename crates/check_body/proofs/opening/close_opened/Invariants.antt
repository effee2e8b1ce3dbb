use Rattle.std.proofs.Common.{◌≡◌, length, take}
use Rattle.check_body.proofs.opening.close_opened.Given as goal

abbrev pub invariant-loop-opened : goal.invariant-loop-opened
invariant-loop-opened l = take l.count l.opened ≡ take l.count l.fn.opened

abbrev pub decreases-loop-opened : goal.decreases-loop-opened
decreases-loop-opened l = length l.opened
