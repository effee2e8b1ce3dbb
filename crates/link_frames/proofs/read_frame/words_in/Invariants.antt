use Rattle.std.proofs.Common.{◌≡◌, ◌*◌, ◌++◌, length, drop}
use Rattle.link_frames.specs.Frames.{words_in}
use Rattle.link_frames.proofs.read_frame.words_in.Given as goal

abbrev pub invariant-loop-read : goal.invariant-loop-read
invariant-loop-read l = record {
  count : length l.words ≡ l.read;
  words : l.words ++ words_in (drop (2 * l.read) l.bytes) ≡ words_in l.bytes;
}
