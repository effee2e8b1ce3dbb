use Rattle.std.proofs.Common.{◌≡◌, ◌/◌, take, drop}
use Rattle.target_monitor.proofs.transfer.read_words.Given as goal

abbrev pub invariant-loop-read : goal.invariant-loop-read
invariant-loop-read l = l.words ≡ take l.read (drop (l.place / 2) l.machine.memory)
