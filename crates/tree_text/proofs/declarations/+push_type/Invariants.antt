use Rattle.std.proofs.Common.{◌≡◌, [], ◌∷◌, ◌++◌, drop, map}
use Rattle.pascal_tree.specs.Joined.{join}
use Rattle.dice_base.specs.Symbols.{comma_sign, semicolon_sign}
use Rattle.pascal_tree.specs.ExprTokens.{comma_list}
use Rattle.pascal_tree.specs.DeclTokens.{type_tokens, field_tokens}
use Rattle.tree_text.proofs.Rest.{still}
use Rattle.tree_text.proofs.declarations.+push_type.Given as goal

abbrev pub invariant-push_types-loop-shape : goal.invariant-push_types-loop-shape
invariant-push_types-loop-shape l =
    l.out.items ++ still comma_sign type_tokens l.first (drop l.shape-index l.shapes) ≡ l.fn.out.items ++ comma_list (map type_tokens l.shapes)

abbrev pub invariant-push_fields-loop-field : goal.invariant-push_fields-loop-field
invariant-push_fields-loop-field l =
    l.out.items ++ still semicolon_sign field_tokens l.first (drop l.field-index l.fields) ≡ l.fn.out.items ++ join (semicolon_sign ∷ []) (map field_tokens l.fields)
