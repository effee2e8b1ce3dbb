-- Programs put together from the rules of their forms, for worked cases: a form stands as its judgement.
use Rattle.std.specs.Prelude.{ℕ, Bool, true, false, List, [], ◌∷◌, ◌++◌, map, length, Option, Some, None, Result, Ok, Err, option_to_list}
use Rattle.dice_base.specs.declared.name.Name.{Name}
use Rattle.pascal_tree.specs.declared.expr.Prefix.{Prefix}
use Rattle.pascal_tree.specs.declared.expr.AddOp.{AddOp}
use Rattle.pascal_tree.specs.declared.expr.MulOp.{MulOp}
use Rattle.pascal_tree.specs.declared.expr.RelOp.{RelOp}
use Rattle.pascal_tree.specs.declared.expr.Factor.{Factor-F}
use Rattle.pascal_tree.specs.declared.expr.AccessPart.{AccessPart-F}
use Rattle.pascal_tree.specs.declared.stmt.Constant.{Constant as WrittenConstant}
use Rattle.pascal_tree.specs.declared.typing.TypeText.{TypeText-F}
use Rattle.pascal_tree.specs.declared.decl.Heading.{Heading}
use Rattle.pascal_tree.specs.declared.decl.Section.{Section}
use Rattle.check_rules.specs.declared.fault.CheckFault.{CheckFault}
use Rattle.check_rules.specs.Typing.{Text}
use Rattle.check_rules.specs.Regions.{Texts}
use Rattle.check_types.specs.TypeRules.{TypeReading, FieldJudge, TypeJudge, constants_in, constants_in_field, in_type, in_field}
use Rattle.expression_rules.specs.declared.notes.Env.{Env}
use Rattle.expression_rules.specs.Values.{Value, Reached, Argument}
use Rattle.expression_rules.specs.ExpressionRules.{Step, in_part, in_factor, in_access, in_adding, in_arg, in_expr, in_multiplying, in_relation, in_member, in_sum, in_term}
use Rattle.check_decl.specs.declared.place.Layout.{Layout}
use Rattle.body_labels.specs.Labels.{Numbers, all_labels}
use Rattle.check_decl.specs.BlockRules.{DeclJudge, constant_decl, type_decl, variable_decl, BlockJudge, RoutineJudge, block_of_parts, program_walk}
use Rattle.check_program.specs.declared.layouts.LayoutFault.{LayoutFault}
use Rattle.check_program.specs.Layouts.{layout_fault}
use Rattle.check_body.specs.StatementRules.{Judge, KindJudge, ArmJudge, empty_kind, assign_kind, call_kind, goto_kind, compound_kind, if_kind, case_kind, while_kind, repeat_kind, for_kind, with_kind, statement_judge}
use Rattle.check_program.specs.BodyRules.{body_outcome, layouts_in}

abbrev pub name_of : ℕ → Name
name_of n = record { 0 = n }

-- ---- expressions

abbrev pub Valued : Type 0
Valued = Env → Value

abbrev pub Accessed : Type 0
Accessed = Env → Reached

abbrev pub number : ℕ → Valued
number n env = in_factor env (Factor-F.Number n)

abbrev pub chars : Text → Valued
chars x env = in_factor env (Factor-F.Str x)

abbrev pub nil_value : Valued
nil_value env = in_factor env Factor-F.Nil

abbrev pub at_steps : List (Env → Step) → Env → List Step
at_steps ps env = map (λ (p : Env → Step). p env) ps

abbrev pub access : Text → List (Env → Step) → Accessed
access x ps env = in_access env (record { ident = x; parts = at_steps ps env })

abbrev pub at_values : List Valued → Env → List Value
at_values vs env = map (λ (v : Valued). v env) vs

abbrev pub index : List Valued → Env → Step
index vs env = in_part env (AccessPart-F.Index (at_values vs env))

abbrev pub field : Text → Env → Step
field x env = in_part env (AccessPart-F.Field x)

abbrev pub arrow : Env → Step
arrow env = in_part env AccessPart-F.Dereference

abbrev pub value : Accessed → Valued
value a env = in_factor env (Factor-F.Access (a env))

abbrev pub argument : Valued → Option Valued → Env → Argument
argument v None env = in_arg env (record { value = v env; width = None })
argument v (Some w) env = in_arg env (record { value = v env; width = Some (w env) })

abbrev pub at_arguments : List (Env → Argument) → Env → List Argument
at_arguments args env = map (λ (a : Env → Argument). a env) args

abbrev pub function_call : Text → List (Env → Argument) → Valued
function_call x args env = in_factor env (Factor-F.Call x (at_arguments args env))

abbrev pub set_of_values : List Valued → Valued
set_of_values vs env =
    in_factor env (Factor-F.Members (map (λ (v : Valued). in_member env (record { first = v env; last = None })) vs))

abbrev pub set_from_to : Valued → Valued → Valued
set_from_to v w env =
    in_factor env (Factor-F.Members (in_member env (record { first = v env; last = Some (w env) }) ∷ []))

abbrev pub paren : Valued → Valued
paren v env = in_factor env (Factor-F.Paren (v env))

abbrev pub negation_of : Valued → Valued
negation_of v env = in_factor env (Factor-F.Not (v env))

abbrev pub term : Valued → List (MulOp × Valued) → Valued
term v ms env = in_term env (record {
  first = v env;
  rest = map (λ (m : MulOp × Valued). in_multiplying env (record { op = m.0; right = m.1 env })) ms;
})

abbrev pub sum : Prefix → Valued → List (AddOp × Valued) → Valued
sum p v ms env = in_sum env (record {
  prefix = p;
  first = v env;
  rest = map (λ (m : AddOp × Valued). in_adding env (record { op = m.0; right = m.1 env })) ms;
})

abbrev pub relation : Valued → RelOp → Valued → Valued
relation v op w env = in_expr env (record {
  first = v env;
  rest = Some (in_relation env (record { op = op; right = w env }));
})

-- ---- types

abbrev pub named_type : Text → TypeReading
named_type x = record {
  constants = constants_in (TypeText-F.Named x);
  judge = (λ outer. in_type outer (TypeText-F.Named x));
}

abbrev pub enumeration : Texts → TypeReading
enumeration xs = record {
  constants = constants_in (TypeText-F.Enumeration xs);
  judge = (λ outer. in_type outer (TypeText-F.Enumeration xs));
}

abbrev pub range : WrittenConstant → WrittenConstant → TypeReading
range a b = record {
  constants = constants_in (TypeText-F.Range a b);
  judge = (λ outer. in_type outer (TypeText-F.Range a b));
}

abbrev pub pointer : Text → TypeReading
pointer x = record {
  constants = constants_in (TypeText-F.Pointer x);
  judge = (λ outer. in_type outer (TypeText-F.Pointer x));
}

abbrev pub array : Bool → List TypeReading → TypeReading → TypeReading
array packed is c = record {
  constants = constants_in (TypeText-F.Array packed (map (λ (t : TypeReading). t.constants) is) c.constants);
  judge = (λ outer. in_type outer (TypeText-F.Array packed (map (λ (t : TypeReading). t.judge outer) is) (c.judge outer)));
}

abbrev pub set : Bool → TypeReading → TypeReading
set packed t = record {
  constants = constants_in (TypeText-F.SetOf packed t.constants);
  judge = (λ outer. in_type outer (TypeText-F.SetOf packed (t.judge outer)));
}

abbrev pub record_type : Bool → List (Texts × TypeReading) → TypeReading
record_type packed fs = record {
  constants = constants_in (TypeText-F.RecordOf packed (map (λ (f : Texts × TypeReading). constants_in_field (record { idents = f.0; shape = f.1.constants })) fs));
  judge = (λ outer. in_type outer (TypeText-F.RecordOf packed (map (λ (f : Texts × TypeReading). in_field outer (record { idents = f.0; shape = f.1.judge outer })) fs)));
}

-- ---- statements: the labels in it, and its judgement where the block declares these labels

pub record Statement : Type 0 where
  pub labels : Numbers
  pub judge : Numbers → Judge

pub record Kind : Type 0 where
  pub labels : Numbers
  pub judge : Numbers → KindJudge

abbrev pub labels_in_all : List Statement → Numbers
labels_in_all ss = all_labels (map (λ (s : Statement). s.labels) ss)

abbrev pub judges_of : List Statement → Numbers → List Judge
judges_of ss ns = map (λ (s : Statement). s.judge ns) ss

abbrev pub at_name : ℕ → Kind → Statement
at_name n k = record { labels = k.labels; judge = (λ ns. statement_judge ns (name_of n) None (k.judge ns)) }

abbrev pub at_label : ℕ → ℕ → Kind → Statement
at_label n l k = record {
  labels = l ∷ k.labels;
  judge = (λ ns. statement_judge ns (name_of n) (Some l) (k.judge ns));
}

abbrev pub simple : KindJudge → Kind
simple k = record { labels = []; judge = (λ ns. k) }

abbrev pub empty : Kind
empty = simple empty_kind

abbrev pub assign : Accessed → Valued → Kind
assign a v = simple (assign_kind a (λ env. (v env).judged))

abbrev pub call : Text → List (Env → Argument) → Kind
call x args = simple (call_kind x (at_arguments args))

abbrev pub goto : ℕ → Kind
goto l = simple (goto_kind l)

abbrev pub compound : List Statement → Kind
compound ss = record { labels = labels_in_all ss; judge = (λ ns. compound_kind (judges_of ss ns)) }

abbrev pub judge_in : Option Statement → Numbers → Option Judge
judge_in None ns = None
judge_in (Some s) ns = Some (s.judge ns)

abbrev pub if_then : Valued → Statement → Option Statement → Kind
if_then v s other = record {
  labels = labels_in_all (s ∷ option_to_list other);
  judge = (λ ns. if_kind (λ env. (v env).judged) (s.judge ns) (judge_in other ns));
}

abbrev pub case_of : Valued → List (List WrittenConstant × Statement) → Kind
case_of v arms = record {
  labels = labels_in_all (map (λ (a : List WrittenConstant × Statement). a.1) arms);
  judge = (λ ns. case_kind (λ env. (v env).judged) (map (λ (a : List WrittenConstant × Statement). record { constants = a.0; body = a.1.judge ns }) arms));
}

abbrev pub while_do : Valued → Statement → Kind
while_do v s = record { labels = s.labels; judge = (λ ns. while_kind (λ env. (v env).judged) (s.judge ns)) }

abbrev pub repeat_until : List Statement → Valued → Kind
repeat_until ss v = record {
  labels = labels_in_all ss;
  judge = (λ ns. repeat_kind (judges_of ss ns) (λ env. (v env).judged));
}

abbrev pub for_do : Text → Valued → Valued → Statement → Kind
for_do x first last s = record {
  labels = s.labels;
  judge = (λ ns. for_kind x (λ env. (first env).judged) (λ env. (last env).judged) (s.judge ns));
}

abbrev pub with_do : List Accessed → Statement → Kind
with_do records s = record { labels = s.labels; judge = (λ ns. with_kind records (s.judge ns)) }

-- ---- declarations, blocks and programs

abbrev pub constant_at : ℕ → Text → WrittenConstant → DeclJudge
constant_at n x c = constant_decl (name_of n) x c

abbrev pub type_at : ℕ → Text → TypeReading → DeclJudge
type_at n x t = type_decl (name_of n) x t

abbrev pub variables_at : ℕ → Texts → TypeReading → DeclJudge
variables_at n xs t = variable_decl (name_of n) xs t

abbrev pub numbers_of : Option (Name × Numbers) → Numbers
numbers_of None = []
numbers_of (Some (name, ns)) = ns

abbrev pub block : Option (Name × Numbers) → List DeclJudge → List DeclJudge → List DeclJudge → List RoutineJudge → Statement → BlockJudge
block labels consts types vars routines body = block_of_parts (record {
  labels = labels;
  placed = body.labels;
  consts = consts;
  types = types;
  vars = vars;
  routines = routines;
  body = body_outcome (body.judge (numbers_of labels));
})

abbrev pub section : Bool → Texts → Text → Section
section by_place xs t = record { by_place = by_place; idents = xs; shape = t }

abbrev pub procedure : Text → List Section → Heading
procedure x sections = record { function = false; ident = x; sections = sections; result = None }

abbrev pub function : Text → List Section → Option Text → Heading
function x sections result = record { function = true; ident = x; sections = sections; result = result }

abbrev pub routine_at : ℕ → Heading → Option BlockJudge → RoutineJudge
routine_at n h b = record { name = name_of n; heading = h; block = b }

abbrev pub checked : Texts → BlockJudge → Result (List Layout) CheckFault
checked files b = layouts_in (program_walk files b)

-- ---- what a case shows

-- the kind and the name of the first fault; of a program without one, the words of each layout and the offsets in it
pub data Shown : Type 0 where
  Fault : ℕ → ℕ → Shown
  Layouts : List (ℕ × ℕ × List ℕ) → Shown

abbrev pub layout_shown : Layout → ℕ × ℕ × List ℕ
layout_shown l = (l.owner.0, l.words, map (λ r. r.offset) l.rows)

abbrev pub shown : Result (List Layout) CheckFault → Shown
shown (Err f) = Fault f.name.0 f.kind
shown (Ok ls) = Layouts (map layout_shown ls)

abbrev pub sizes : Result (List Layout) CheckFault → Option LayoutFault
sizes (Ok ls) = layout_fault ls
sizes (Err f) = None
