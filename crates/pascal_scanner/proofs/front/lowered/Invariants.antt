use Rattle.std.proofs.Common.{◌≡◌, take, map}
use Rattle.dice_base.specs.Lexemes.{lower}
use Rattle.pascal_scanner.proofs.front.lowered.Given as goal

abbrev pub invariant-loop-byte : goal.invariant-loop-byte
invariant-loop-byte l = l.text ≡ map lower (take l.byte-index l.bytes)
