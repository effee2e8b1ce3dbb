use Rattle.tree_listing.proofs.Laying.{begun}
use Rattle.tree_listing.proofs.layout.Layout.begin.Goals as goal

pub returns-clause-text : goal.returns-clause-text
returns-clause-text c = λ rest. begun _ _ _ _ _ rest _ _ c.in_ok-push_ended.ensures c.new.ensures
