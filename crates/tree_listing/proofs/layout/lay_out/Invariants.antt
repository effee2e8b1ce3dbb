use Rattle.std.proofs.Common.{◌≡◌, length}
use Rattle.tree_listing.specs.Listing.{listing_lines, text_of_lines}
use Rattle.tree_listing.specs.Layout.{whole_with}
use Rattle.tree_listing.proofs.layout.lay_out.Given as goal

abbrev pub invariant-loop-event : goal.invariant-loop-event
invariant-loop-event l = whole_with l.layout l.events ≡ text_of_lines l.fn.names (listing_lines l.fn.events)

abbrev pub decreases-loop-event : goal.decreases-loop-event
decreases-loop-event l = length l.events
