-- The judgements of statements: the rules over the tree.
use Rattle.std.specs.Prelude.{ℕ, List, [], map, Option, Some, None}
use Rattle.pascal_tree.specs.declared.expr.Expr.{Expr}
use Rattle.pascal_tree.specs.declared.expr.Access.{Access}
use Rattle.pascal_tree.specs.declared.stmt.Stmt.{Stmt, Stmt-F, fold-Stmt}
use Rattle.pascal_tree.specs.declared.stmt.StmtKind.{StmtKind, StmtKind-F, fold-StmtKind}
use Rattle.pascal_tree.specs.declared.stmt.Arm.{Arm, Arm-F, fold-Arm}
use Rattle.expression_rules.specs.declared.notes.Env.{Env}
use Rattle.expression_rules.specs.Expressions.{judgement_of, access_of, argument_of}
use Rattle.body_labels.specs.Labels.{Numbers}
use Rattle.check_body.specs.StatementRules.{ValueJudge, AccessJudge, Judge, KindJudge, ArmJudge, empty_kind, assign_kind, call_kind, goto_kind, compound_kind, if_kind, case_kind, while_kind, repeat_kind, for_kind, with_kind, statement_judge}

abbrev pub value_judge : Expr → ValueJudge
value_judge e env = judgement_of env e

abbrev pub access_judge : Access → AccessJudge
access_judge a env = access_of env a

abbrev pub in_kind : StmtKind-F KindJudge ArmJudge Judge → KindJudge
in_kind StmtKind-F.Empty = empty_kind
in_kind (StmtKind-F.Assign a e) = assign_kind (access_judge a) (value_judge e)
in_kind (StmtKind-F.Call x args) = call_kind x (λ env. map (argument_of env) args)
in_kind (StmtKind-F.Goto label) = goto_kind label
in_kind (StmtKind-F.Compound ss) = compound_kind ss
in_kind (StmtKind-F.If e s other) = if_kind (value_judge e) s other
in_kind (StmtKind-F.Case e arms) = case_kind (value_judge e) arms
in_kind (StmtKind-F.While e s) = while_kind (value_judge e) s
in_kind (StmtKind-F.Repeat ss e) = repeat_kind ss (value_judge e)
in_kind (StmtKind-F.For x first down last s) = for_kind x (value_judge first) (value_judge last) s
in_kind (StmtKind-F.With records s) = with_kind (map access_judge records) s

abbrev pub in_arm : Arm-F KindJudge ArmJudge Judge → ArmJudge
in_arm a = record { constants = a.constants; body = a.body }

-- where the block declares these labels
module _ (labels : Numbers) where
  abbrev pub in_stmt : Stmt-F KindJudge ArmJudge Judge → Judge
  in_stmt s = statement_judge labels s.name s.label s.kind

  unfoldable pub judge_of : Stmt → Judge
  judge_of = fold-Stmt KindJudge ArmJudge Judge in_kind in_arm in_stmt

  unfoldable pub kind_judge_of : StmtKind → KindJudge
  kind_judge_of = fold-StmtKind KindJudge ArmJudge Judge in_kind in_arm in_stmt

  unfoldable pub arm_judge_of : Arm → ArmJudge
  arm_judge_of = fold-Arm KindJudge ArmJudge Judge in_kind in_arm in_stmt
