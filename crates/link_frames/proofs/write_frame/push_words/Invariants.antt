use Rattle.std.proofs.Common.{◌≡◌, ◌++◌, take}
use Rattle.link_frames.specs.Frames.{word_bytes}
use Rattle.link_frames.proofs.write_frame.push_words.Given as goal

abbrev pub invariant-loop-word : goal.invariant-loop-word
invariant-loop-word l = l.out ≡ l.fn.out ++ word_bytes (take l.word-index l.words)
