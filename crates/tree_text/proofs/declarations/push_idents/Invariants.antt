use Rattle.std.proofs.Common.{◌≡◌, ◌++◌, drop, map}
use Rattle.dice_base.specs.Symbols.{comma_sign}
use Rattle.pascal_tree.specs.ExprTokens.{comma_list}
use Rattle.pascal_tree.specs.DeclTokens.{ident_tokens}
use Rattle.tree_text.proofs.Rest.{still}
use Rattle.tree_text.proofs.declarations.push_idents.Given as goal

abbrev pub invariant-loop-ident : goal.invariant-loop-ident
invariant-loop-ident l =
    l.out.items ++ still comma_sign ident_tokens l.first (drop l.ident-index l.idents) ≡ l.fn.out.items ++ comma_list (map ident_tokens l.idents)
