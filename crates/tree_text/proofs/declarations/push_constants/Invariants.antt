use Rattle.std.proofs.Common.{◌≡◌, ◌++◌, drop, map}
use Rattle.dice_base.specs.Symbols.{comma_sign}
use Rattle.pascal_tree.specs.ExprTokens.{comma_list}
use Rattle.pascal_tree.specs.DeclTokens.{constant_tokens}
use Rattle.tree_text.proofs.Rest.{still}
use Rattle.tree_text.proofs.declarations.push_constants.Given as goal

abbrev pub invariant-loop-constant : goal.invariant-loop-constant
invariant-loop-constant l =
    l.out.items ++ still comma_sign constant_tokens l.first (drop l.constant-index l.constants) ≡ l.fn.out.items ++ comma_list (map constant_tokens l.constants)
