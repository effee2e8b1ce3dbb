use Rattle.std.proofs.Common.{ap, sym, ◌∙◌, length, arith}
use Rattle.expression_rules.specs.Accesses as accesses
use Rattle.resolve_expr.specs.Nodes as nodes
use Rattle.resolve_expr.specs.Expressions as folds
use Rattle.resolve_statements.specs.Forms as spec
use Rattle.resolve_statements.proofs.Targets.{whole_target, parted_target}
use Rattle.resolve_statements.proofs.assign.target_node.Goals as goal

pub returns-then-as_slice-lt1 : goal.returns-then-as_slice-lt1
returns-then-as_slice-lt1 c =
    c.target_of.ensures _ c.in_ok-place.ensures
    ∙ (ap (λ i. nodes.kept_node (spec.target_of c.args.context.now (folds.access_of c.args.context.now c.args.access.now).place (accesses.entity_at c.args.context.now.env i))) c.bytes.ensures
    ∙ ap nodes.kept_node (sym (whole_target c.args.context.now c.args.access.now (omega (arith, c.if-as_slice-lt1.true, ap length c.as_slice.ensures)))))

pub returns-else-as_slice-lt1 : goal.returns-else-as_slice-lt1
returns-else-as_slice-lt1 c =
    c.in_ok-place.ensures
    ∙ ap nodes.kept_node (sym (parted_target c.args.context.now c.args.access.now (omega (arith, c.if-as_slice-lt1.false, ap length c.as_slice.ensures))))
