-- The labels and the constants of statements, which their judgements keep.
use Rattle.std.proofs.Common.{◌≡◌, List, [], ◌∷◌, ◌++◌, map, option_to_list, refl, ap, sym, ◌∙◌}
use Rattle.pascal_tree.specs.declared.expr.Expr.{Expr}
use Rattle.pascal_tree.specs.declared.stmt.StmtKind
use Rattle.pascal_tree.specs.declared.stmt.StmtKind.{StmtKind-F}
use Rattle.pascal_tree.specs.declared.stmt.StmtKind.TheVariants.{rolls-Case}
use Rattle.pascal_tree.specs.declared.stmt.Stmt.{Stmt, out-Stmt}
use Rattle.pascal_tree.specs.declared.stmt.Arm.{Arm, out-Arm}
use Rattle.pascal_tree.specs.declared.stmt.StmtKind.TheFolds.{fold_out-Stmt, fold_out-Arm, fold-roll-StmtKind}
use Rattle.body_labels.specs.Labels.{Numbers}
use Rattle.expression_rules.specs.declared.notes.Env.{Env}
use Rattle.expression_rules.specs.Expressions.{judgement_of}
use Rattle.check_body.specs.StatementRules.{Judge, KindJudge, ArmJudge, arm_constants, case_notes, labels_of}
use Rattle.check_body.specs.Statements.{in_kind, in_arm, in_stmt, judge_of, kind_judge_of, arm_judge_of}
use Rattle.check_body.specs.Steps.{written_constants, own_labels}

label_is : (labels : Numbers) (s : Stmt) → (judge_of labels s).label ≡ (out-Stmt s).label
unfolding judge_of
label_is labels s = ap (λ j. j.label) (fold_out-Stmt KindJudge ArmJudge Judge in_kind in_arm (in_stmt labels) s)

pub labels_are : (labels : Numbers) (ss : List Stmt) → labels_of (map (judge_of labels) ss) ≡ own_labels ss
labels_are labels [] = refl
labels_are labels (s ∷ ss) =
    ap (λ l. option_to_list l ++ labels_of (map (judge_of labels) ss)) (label_is labels s)
    ∙ ap (λ ls. option_to_list (out-Stmt s).label ++ ls) (labels_are labels ss)

constants_are : (labels : Numbers) (a : Arm) → (arm_judge_of labels a).constants ≡ written_constants a
unfolding arm_judge_of
constants_are labels a = ap (λ j. j.constants) (fold_out-Arm KindJudge ArmJudge Judge in_kind in_arm (in_stmt labels) a)

pub arms_are : (labels : Numbers) (arms : List Arm) → arm_constants (map (arm_judge_of labels) arms) ≡ map written_constants arms
arms_are labels [] = refl
arms_are labels (a ∷ arms) =
    ap (λ cs. cs ∷ arm_constants (map (arm_judge_of labels) arms)) (constants_are labels a)
    ∙ ap (λ css. written_constants a ∷ css) (arms_are labels arms)

-- a `case` says by itself what its selector and its constants say
pub case_own : (labels reach : Numbers) (env : Env) (k : StmtKind.StmtKind) (e : Expr) (arms : List Arm) → k ≡ StmtKind.Case e arms
    → (kind_judge_of labels k).own env reach ≡ (case_notes env (judgement_of env e) (map written_constants arms)).kind
unfolding judge_of kind_judge_of arm_judge_of
case_own labels reach env k e arms is =
    ap (λ x. (kind_judge_of labels x).own env reach) (is ∙ sym (rolls-Case e arms))
    ∙ ap (λ (j : KindJudge). j.own env reach)
    (fold-roll-StmtKind KindJudge ArmJudge Judge in_kind in_arm (in_stmt labels) (StmtKind-F.Case e arms))
    ∙ ap (λ css. (case_notes env (judgement_of env e) css).kind) (arms_are labels arms)
