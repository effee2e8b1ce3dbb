use Rattle.std.proofs.Common.{◌≡◌, drop, max, map}
use Rattle.pascal_tree.specs.Depth.{most, add_part_depth, mul_part_depth, member_depth, arg_depth, access_part_depth, expr_depth}
use Rattle.tree_checks.proofs.depth.+expr_depth.Given as goal

abbrev pub invariant-add_parts_depth-loop-part : goal.invariant-add_parts_depth-loop-part
invariant-add_parts_depth-loop-part l = max l.most (most (map add_part_depth (drop l.part-index l.parts))) ≡ most (map add_part_depth l.parts)

abbrev pub invariant-mul_parts_depth-loop-part : goal.invariant-mul_parts_depth-loop-part
invariant-mul_parts_depth-loop-part l = max l.most (most (map mul_part_depth (drop l.part-index l.parts))) ≡ most (map mul_part_depth l.parts)

abbrev pub invariant-members_depth-loop-member : goal.invariant-members_depth-loop-member
invariant-members_depth-loop-member l = max l.most (most (map member_depth (drop l.member-index l.members))) ≡ most (map member_depth l.members)

abbrev pub invariant-args_depth-loop-arg : goal.invariant-args_depth-loop-arg
invariant-args_depth-loop-arg l = max l.most (most (map arg_depth (drop l.arg-index l.args))) ≡ most (map arg_depth l.args)

abbrev pub invariant-access_parts_depth-loop-part : goal.invariant-access_parts_depth-loop-part
invariant-access_parts_depth-loop-part l = max l.most (most (map access_part_depth (drop l.part-index l.parts))) ≡ most (map access_part_depth l.parts)

abbrev pub invariant-exprs_depth-loop-expr : goal.invariant-exprs_depth-loop-expr
invariant-exprs_depth-loop-expr l = max l.most (most (map expr_depth (drop l.expr-index l.exprs))) ≡ most (map expr_depth l.exprs)
