use Rattle.std.proofs.Common.{◌-◌, length}
use Rattle.pascal_scanner.proofs.Strings.{AreRead}
use Rattle.pascal_scanner.proofs.string.string_step.Given as goal

abbrev pub invariant-loop-character : goal.invariant-loop-character
invariant-loop-character l = AreRead l.text l.at l.characters

abbrev pub decreases-loop-character : goal.decreases-loop-character
decreases-loop-character l = length l.text - l.at
