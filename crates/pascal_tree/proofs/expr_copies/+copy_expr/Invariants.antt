use Rattle.std.proofs.Common.{◌≡◌, take}
use Rattle.pascal_tree.proofs.expr_copies.+copy_expr.Given as goal

abbrev pub invariant-copy_add_parts-loop-part : goal.invariant-copy_add_parts-loop-part
invariant-copy_add_parts-loop-part l = l.all ≡ take l.part-index l.parts

abbrev pub invariant-copy_mul_parts-loop-part : goal.invariant-copy_mul_parts-loop-part
invariant-copy_mul_parts-loop-part l = l.all ≡ take l.part-index l.parts

abbrev pub invariant-copy_members-loop-member : goal.invariant-copy_members-loop-member
invariant-copy_members-loop-member l = l.all ≡ take l.member-index l.members

abbrev pub invariant-copy_args-loop-arg : goal.invariant-copy_args-loop-arg
invariant-copy_args-loop-arg l = l.all ≡ take l.arg-index l.args

abbrev pub invariant-copy_access_parts-loop-part : goal.invariant-copy_access_parts-loop-part
invariant-copy_access_parts-loop-part l = l.all ≡ take l.part-index l.parts

abbrev pub invariant-copy_exprs-loop-expr : goal.invariant-copy_exprs-loop-expr
invariant-copy_exprs-loop-expr l = l.all ≡ take l.expr-index l.exprs
