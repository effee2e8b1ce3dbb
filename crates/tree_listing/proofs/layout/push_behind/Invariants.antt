use Rattle.std.proofs.Common.{◌≡◌, ◌++◌, drop}
use Rattle.tree_listing.specs.Listing.{spellings_after_blanks}
use Rattle.tree_listing.proofs.layout.push_behind.Given as goal

abbrev pub invariant-loop-token : goal.invariant-loop-token
invariant-loop-token l = l.out ++ spellings_after_blanks (drop l.token-index l.tokens) ≡ l.fn.out ++ spellings_after_blanks l.tokens
