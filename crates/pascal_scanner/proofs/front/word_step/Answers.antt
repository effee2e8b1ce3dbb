use Rattle.dice_base.specs.Lexemes.{word_byte}
use Rattle.pascal_scanner.proofs.Fronts.{front-fits}
use Rattle.pascal_scanner.proofs.Takes.{word_taken}
use Rattle.pascal_scanner.proofs.front.word_step.Goals as goal

pub slice_bounds-named-end : goal.slice_bounds-named-end
slice_bounds-named-end c = front-fits word_byte _ _ c.word_len-len.ensures

pub returns : goal.returns
returns c = rw c.in_ok-kind.ensures (word_taken _ _ c.requires.some c.requires.begins c.word_len-len.ensures)
