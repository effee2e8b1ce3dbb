use Rattle.std.proofs.Common.{◌≡◌, ◌++◌, drop, map}
use Rattle.dice_base.specs.Symbols.{comma_sign}
use Rattle.pascal_tree.specs.ExprTokens.{comma_list, access_tokens}
use Rattle.tree_text.proofs.Rest.{still}
use Rattle.tree_text.proofs.expressions.push_accesses.Given as goal

abbrev pub invariant-loop-access : goal.invariant-loop-access
invariant-loop-access l =
    l.out.items ++ still comma_sign access_tokens l.first (drop l.access-index l.accesses) ≡ l.fn.out.items ++ comma_list (map access_tokens l.accesses)
