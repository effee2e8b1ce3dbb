use Rattle.std.proofs.Common.{◌≡◌, map, ap, sym, ◌∙◌}
use Rattle.expression_rules.specs.Expressions.{judgement_of}
use Rattle.check_body.specs.StatementRules.{case_notes}
use Rattle.check_body.specs.Steps.{written_constants}
use Rattle.check_body.proofs.Changed.{kind_under}
use Rattle.check_body.proofs.Layers.{case_own}
use Rattle.check_body.proofs.own.own_kind.Goals as goal

pub returns-in-Case-clause-value : goal.returns-in-Case-clause-value
returns-in-Case-clause-value c =
    let env = c.args.env.now in
    kind_under c.case_kind.result _ _
    (case_own c.args.labels.now c.args.reach.now env c.args.kind.now c.in-Case.expr c.in-Case.arms c.in-Case.is
    ∙ ap (λ arms. (case_notes env (judgement_of env c.in-Case.expr) (map written_constants arms)).kind) (sym c.as_slice-in-Case.ensures))
    c.case_kind.ensures
