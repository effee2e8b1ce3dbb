use Rattle.std.proofs.Common.{◌≡◌, ◌++◌}
use Rattle.tree_listing.specs.Listing.{blanks}
use Rattle.tree_listing.proofs.layout.push_blanks.Given as goal

abbrev pub invariant-loop-blank : goal.invariant-loop-blank
invariant-loop-blank l = l.out ≡ l.fn.out ++ blanks l._blank
