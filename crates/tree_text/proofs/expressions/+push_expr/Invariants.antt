use Rattle.std.proofs.Common.{◌≡◌, ◌++◌, drop, map}
use Rattle.pascal_tree.specs.Joined.{flat}
use Rattle.dice_base.specs.Symbols.{comma_sign}
use Rattle.pascal_tree.specs.ExprTokens.{comma_list, adding_tokens, multiplying_tokens, member_tokens, arg_tokens, part_tokens, expr_tokens}
use Rattle.tree_text.proofs.Rest.{still}
use Rattle.tree_text.proofs.expressions.+push_expr.Given as goal

abbrev pub invariant-push_adding_parts-loop-part : goal.invariant-push_adding_parts-loop-part
invariant-push_adding_parts-loop-part l =
    l.out.items ++ flat (map adding_tokens (drop l.part-index l.parts)) ≡ l.fn.out.items ++ flat (map adding_tokens l.parts)

abbrev pub invariant-push_multiplying_parts-loop-part : goal.invariant-push_multiplying_parts-loop-part
invariant-push_multiplying_parts-loop-part l =
    l.out.items ++ flat (map multiplying_tokens (drop l.part-index l.parts)) ≡ l.fn.out.items ++ flat (map multiplying_tokens l.parts)

abbrev pub invariant-push_access_parts-loop-part : goal.invariant-push_access_parts-loop-part
invariant-push_access_parts-loop-part l =
    l.out.items ++ flat (map part_tokens (drop l.part-index l.parts)) ≡ l.fn.out.items ++ flat (map part_tokens l.parts)

abbrev pub invariant-push_members-loop-member : goal.invariant-push_members-loop-member
invariant-push_members-loop-member l =
    l.out.items ++ still comma_sign member_tokens l.first (drop l.member-index l.members) ≡ l.fn.out.items ++ comma_list (map member_tokens l.members)

abbrev pub invariant-push_arg_list-loop-arg : goal.invariant-push_arg_list-loop-arg
invariant-push_arg_list-loop-arg l =
    l.out.items ++ still comma_sign arg_tokens l.first (drop l.arg-index l.args) ≡ l.fn.out.items ++ comma_list (map arg_tokens l.args)

abbrev pub invariant-push_exprs-loop-expr : goal.invariant-push_exprs-loop-expr
invariant-push_exprs-loop-expr l =
    l.out.items ++ still comma_sign expr_tokens l.first (drop l.expr-index l.exprs) ≡ l.fn.out.items ++ comma_list (map expr_tokens l.exprs)
