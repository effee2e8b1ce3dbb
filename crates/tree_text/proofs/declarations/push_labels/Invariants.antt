use Rattle.std.proofs.Common.{◌≡◌, ◌++◌, drop, map}
use Rattle.dice_base.specs.Symbols.{comma_sign}
use Rattle.pascal_tree.specs.ExprTokens.{comma_list}
use Rattle.pascal_tree.specs.DeclTokens.{number_tokens}
use Rattle.tree_text.proofs.Rest.{still}
use Rattle.tree_text.proofs.declarations.push_labels.Given as goal

abbrev pub invariant-loop-label : goal.invariant-loop-label
invariant-loop-label l =
    l.out.items ++ still comma_sign number_tokens l.first (drop l.label-index l.labels) ≡ l.fn.out.items ++ comma_list (map number_tokens l.labels)
