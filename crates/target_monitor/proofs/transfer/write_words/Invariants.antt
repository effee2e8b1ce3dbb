use Rattle.std.proofs.Common.{◌≡◌, ◌+◌, ◌*◌, drop}
use Rattle.target_monitor.specs.Served.{with_words}
use Rattle.target_monitor.proofs.transfer.write_words.Given as goal

abbrev pub invariant-loop-word : goal.invariant-loop-word
invariant-loop-word l = record {
  rest : with_words l.machine l.place (drop l.word-index l.words) ≡ with_words l.fn.machine l.first l.fn.words;
  at : l.place ≡ l.first + 2 * l.word-index;
}
