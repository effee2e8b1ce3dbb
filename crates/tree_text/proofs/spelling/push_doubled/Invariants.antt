use Rattle.std.proofs.Common.{◌≡◌, ◌++◌, drop}
use Rattle.dice_base.specs.Lexemes.{doubled_apostrophes}
use Rattle.tree_text.proofs.spelling.push_doubled.Given as goal

abbrev pub invariant-loop-byte : goal.invariant-loop-byte
invariant-loop-byte l = l.out ++ doubled_apostrophes (drop l.byte-index l.text) ≡ l.fn.out ++ doubled_apostrophes l.text
