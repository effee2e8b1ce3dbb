-- The own forms of statements: the rules over the tree.
use Rattle.std.specs.Prelude.{Bool, true, false, ◌&&◌, not, if◌then◌else◌, List, [], ◌∷◌, map, Option, Some, None, is_some}
use Rattle.pascal_tree.specs.declared.expr.Arg.{Arg}
use Rattle.pascal_tree.specs.declared.stmt.Constant.{Constant as WrittenConstant}
use Rattle.pascal_tree.specs.declared.stmt.StmtKind.{StmtKind, StmtKind-F, out-StmtKind}
use Rattle.pascal_tree.specs.declared.stmt.Arm.{Arm, out-Arm}
use Rattle.pascal_tree.specs.declared.expr.Access.{Access}
use Rattle.check_rules.specs.declared.entity.StandardFile.{StandardFile}
use Rattle.check_rules.specs.declared.entity.StandardFile.TheVariants as file
use Rattle.check_rules.specs.declared.entity.Standard.{Standard}
use Rattle.check_rules.specs.declared.entity.Standard.TheVariants as standard
use Rattle.check_rules.specs.declared.entity.Entity.{Entity}
use Rattle.check_rules.specs.declared.entity.Entity.TheVariants.{RoutineOf, StandardOf}
use Rattle.check_rules.specs.Typing.{Text}
use Rattle.expression_rules.specs.declared.notes.Env.{Env}
use Rattle.expression_rules.specs.Values.{Argument as JudgedArgument}
use Rattle.expression_rules.specs.Accesses.{entity_at, is_file}
use Rattle.expression_rules.specs.Expressions.{argument_of as judged_argument}
use Rattle.core_tree.specs.declared.form.StatementForm.{StatementForm}
use Rattle.core_tree.specs.declared.form.StatementOp.TheVariants as stmt
use Rattle.resolve_expr.specs.declared.context.Context.{Context}
use Rattle.resolve_expr.specs.Expressions.{node_of, access_of, argument_of}
use Rattle.resolve_statements.specs.declared.calls.Transfer.{Transfer}
use Rattle.resolve_statements.specs.declared.calls.Transfer.TheVariants.{Reading, Writing}
use Rattle.resolve_statements.specs.Forms.{lost_form, target_node, assign_form, transfer_form, new_form, dispose_form, routine_form, value_form, case_form, for_form, AccessNode, with_form, form}

-- a first argument that is the file, and has no width, says from where or to where (6.9)
abbrev pub names_file : StandardFile → JudgedArgument → Bool
names_file b a = not (is_some a.width) && is_file b a

abbrev pub behind_file : Env → StandardFile → List Arg → List Arg
behind_file env b [] = []
behind_file env b (a ∷ args) = if names_file b (judged_argument env a) then args else a ∷ args

abbrev pub file_of : Transfer → StandardFile
file_of Reading = file.Input
file_of Writing = file.Output

abbrev pub transferred : Context → Transfer → Bool → List Arg → StatementForm
transferred c t line args = transfer_form c t line (map (argument_of c) (behind_file c.env (file_of t) args))

abbrev pub standard_form : Context → Standard → List Arg → StatementForm
standard_form c standard.Read args = transferred c Reading false args
standard_form c standard.Readln args = transferred c Reading true args
standard_form c standard.Write args = transferred c Writing false args
standard_form c standard.Writeln args = transferred c Writing true args
standard_form c standard.New args = new_form c (map (argument_of c) args)
standard_form c standard.Dispose args = dispose_form c (map (argument_of c) args)
standard_form c f args = lost_form c

abbrev pub call_form_of : Context → List Arg → Option Entity → StatementForm
call_form_of c args (Some (RoutineOf f)) = routine_form c f (map (argument_of c) args)
call_form_of c args (Some (StandardOf f)) = standard_form c f args
call_form_of c args e = lost_form c

abbrev pub call_form : Context → Text → List Arg → StatementForm
call_form c x args = call_form_of c args (entity_at c.env x)

abbrev pub access_node : Access → AccessNode
access_node a c = (access_of c a).place

-- where a statement stands, its form; a compound has none
abbrev pub FormRule : Type 0
FormRule = Context → Option StatementForm

-- where the constants of an arm are told from what it became
abbrev pub form_in : {K A S : Type 0} → (A → List WrittenConstant) → StmtKind-F K A S → FormRule
form_in constants StmtKind-F.Empty c = Some (form c stmt.Empty None [])
form_in constants (StmtKind-F.Assign a e) c = Some (assign_form c (target_node c (access_of c a)) (node_of c e))
form_in constants (StmtKind-F.Call x args) c = Some (call_form c x args)
form_in constants (StmtKind-F.Goto label) c = Some (form c (stmt.Goto label) None [])
form_in constants (StmtKind-F.Compound ss) c = None
form_in constants (StmtKind-F.If e s other) c = Some (value_form c (stmt.If (is_some other)) (node_of c e))
form_in constants (StmtKind-F.Case e arms) c = Some (case_form c (node_of c e) (map constants arms))
form_in constants (StmtKind-F.While e s) c = Some (value_form c stmt.While (node_of c e))
form_in constants (StmtKind-F.Repeat ss e) c = Some (value_form c stmt.Repeat (node_of c e))
form_in constants (StmtKind-F.For x first down last s) c = Some (for_form c x down (node_of c first) (node_of c last))
form_in constants (StmtKind-F.With records s) c = Some (with_form c (map access_node records))

abbrev pub arm_constants : Arm → List WrittenConstant
arm_constants a = (out-Arm a).constants

-- the own form of a statement of this kind
unfoldable pub own_form : StmtKind → FormRule
own_form k = form_in arm_constants (out-StmtKind k)
