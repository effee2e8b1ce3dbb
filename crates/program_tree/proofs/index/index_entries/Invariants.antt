use Rattle.std.proofs.Common.{◌≡◌, ℕ, length}
use Rattle.program_tree.specs.Entries.{path_in}
use Rattle.program_tree.proofs.Indexed.{found_in}
use Rattle.program_tree.proofs.index.index_entries.Given as goal

abbrev pub invariant-loop-entry : goal.invariant-loop-entry
invariant-loop-entry l = (n : ℕ) → found_in n l.entries l.index ≡ path_in n l.fn.entries

abbrev pub decreases-loop-entry : goal.decreases-loop-entry
decreases-loop-entry l = length l.entries
