use Rattle.std.proofs.Common.{◌≡◌, ℕ, ◌<◌, drop, None}
use Rattle.pascal_scanner.specs.Longest.{closing_len}
use Rattle.pascal_scanner.proofs.comment.closed_len.Given as goal

abbrev pub invariant-loop-at : goal.invariant-loop-at
invariant-loop-at l = (k : ℕ) → k < l.at → closing_len (drop k l.text) ≡ None
