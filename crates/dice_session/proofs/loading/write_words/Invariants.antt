use Rattle.std.proofs.Common.{◌≡◌, ◌+◌, ◌*◌, drop}
use Rattle.dice_session.specs.Places.{with_words}
use Rattle.dice_session.proofs.loading.write_words.Given as goal

abbrev pub invariant-loop-word : goal.invariant-loop-word
invariant-loop-word l = record {
  rest : with_words l.machine (256 + l.word-index) (drop l.word-index l.words) ≡ with_words l.fn.machine 256 l.fn.words;
  at : l.place ≡ 512 + 2 * l.word-index;
}
