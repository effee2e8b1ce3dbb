use Rattle.std.proofs.Common.{◌-◌, length}
use Rattle.pascal_scanner.specs.Progress.{IsRead}
use Rattle.pascal_scanner.proofs.cut.scan.Given as goal

abbrev pub invariant-loop-at : goal.invariant-loop-at
invariant-loop-at l = IsRead l.text l.at l.tokens.items

abbrev pub decreases-loop-at : goal.decreases-loop-at
decreases-loop-at l = length l.text - l.at
