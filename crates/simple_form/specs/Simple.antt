-- Simple programs, and what their identifiers stand for (ISO 7185:1990, 6.2.2 scopes, 6.5.1 variables, 6.8.2.2
-- assignment, 6.9.4 writeln). Each function answers for one alternative of the grammar, and None where that is not
-- built.
use Rattle.std.specs.Prelude.{◌≡◌, ℕ, Bool, true, false, ◌&&◌, not, nat_le, if◌then◌else◌, List, [], ◌∷◌, ◌++◌, length, Option, Some, None, is_some, codes, bytes_eq, map}
use Rattle.dice_base.specs.Lexemes.{place_of}
use Rattle.pascal_tree.specs.declared.expr.Prefix.{Prefix}
use Rattle.pascal_tree.specs.declared.expr.Prefix.TheVariants.{Without}
use Rattle.pascal_tree.specs.declared.expr.AddOp.{AddOp}
use Rattle.pascal_tree.specs.declared.expr.AddOp.TheVariants as add
use Rattle.pascal_tree.specs.declared.expr.Expr.{Expr, out-Expr}
use Rattle.pascal_tree.specs.declared.expr.RelPart.{RelPart}
use Rattle.pascal_tree.specs.declared.expr.SetMember.{SetMember}
use Rattle.pascal_tree.specs.declared.expr.SumExpr.{SumExpr, out-SumExpr}
use Rattle.pascal_tree.specs.declared.expr.AddPart.{AddPart, out-AddPart}
use Rattle.pascal_tree.specs.declared.expr.Term.{Term, out-Term}
use Rattle.pascal_tree.specs.declared.expr.MulPart.{MulPart}
use Rattle.pascal_tree.specs.declared.expr.Factor.{Factor, Factor-F, out-Factor}
use Rattle.pascal_tree.specs.declared.expr.Access.{Access, out-Access}
use Rattle.pascal_tree.specs.declared.expr.AccessPart.{AccessPart}
use Rattle.pascal_tree.specs.declared.expr.Arg.{Arg, out-Arg}
use Rattle.pascal_tree.specs.declared.stmt.Stmt.{Stmt, Stmt-F, fold-Stmt}
use Rattle.pascal_tree.specs.declared.stmt.StmtKind.{StmtKind, StmtKind-F, fold-StmtKind}
use Rattle.pascal_tree.specs.declared.stmt.Arm.{Arm-F}
use Rattle.pascal_tree.specs.declared.typing.TypeText.{TypeText, TypeText-F, out-TypeText}
use Rattle.pascal_tree.specs.declared.typing.FieldText.{FieldText}
use Rattle.pascal_tree.specs.declared.decl.Decl.{Decl}
use Rattle.pascal_tree.specs.declared.decl.DeclKind.{DeclKind}
use Rattle.pascal_tree.specs.declared.decl.DeclKind.TheVariants.{VarDecl}
use Rattle.pascal_tree.specs.declared.decl.Block.{Block, out-Block}
use Rattle.pascal_tree.specs.declared.program.Tree.{Tree}
use Rattle.pascal_semantics.specs.declared.form.Operand.{Operand}
use Rattle.pascal_semantics.specs.declared.form.Operand.TheVariants.{Global, Number}
use Rattle.pascal_semantics.specs.declared.form.Sum.{Sum}
use Rattle.pascal_semantics.specs.declared.form.SimpleForm.{SimpleForm}
use Rattle.pascal_semantics.specs.declared.form.SimpleForm.TheVariants as form
use Rattle.pascal_semantics.specs.declared.form.Statement.{Statement}
use Rattle.simple_form.specs.declared.program.SimpleProgram.{SimpleProgram}

abbrev pub Texts : Type 0
Texts = List (List ℕ)

-- ---- operands and sums

-- a variable is known by its place among the variables
abbrev pub whole_variable : Texts → List ℕ → List AccessPart → Option ℕ
whole_variable vars x [] = place_of vars x
whole_variable vars x (p ∷ parts) = None

-- the variable that is accessed, where the access is a variable and no part of one
abbrev pub variable_of : Texts → Access → Option ℕ
variable_of vars a = whole_variable vars (out-Access a).ident (out-Access a).parts

-- a variable of the program
abbrev pub global_operand : Option ℕ → Option Operand
global_operand None = None
global_operand (Some n) = Some (Global n)

-- the operand that a factor is, opened to its alternatives: a number up to the largest integer, or a variable
abbrev pub factor_operand : Texts →
    Factor-F AccessPart Factor Access AddPart Arg Expr MulPart RelPart SetMember SumExpr Term → Option Operand
factor_operand vars (Factor-F.Number n) = if nat_le n 32767 then Some (Number n) else None
factor_operand vars (Factor-F.Access a) = global_operand (variable_of vars a)
factor_operand vars _ = None

abbrev pub operand_of : Texts → Factor → Option Operand
operand_of vars x = factor_operand vars (out-Factor x)

-- a term that is one factor
abbrev pub sole_operand : List MulPart → Option Operand → Option Operand
sole_operand [] x = x
sole_operand (p ∷ parts) x = None

abbrev pub term_of : Texts → Term → Option Operand
term_of vars t = sole_operand (out-Term t).rest (operand_of vars (out-Term t).first)

-- what is added; nothing else is built
abbrev pub second_of : AddOp → Option Operand → Option Operand
second_of add.Plus x = x
second_of _ x = None

abbrev pub one_operand : Option Operand → Option Sum
one_operand None = None
one_operand (Some a) = Some (record { first = a; second = None })

abbrev pub two_operands : Option Operand → Option Operand → Option Sum
two_operands None b = None
two_operands (Some a) None = None
two_operands (Some a) (Some b) = Some (record { first = a; second = Some b })

-- the first operand, alone or with a second one
abbrev pub sum_with : Texts → Option Operand → List AddPart → Option Sum
sum_with vars a [] = one_operand a
sum_with vars a (p ∷ []) = two_operands a (second_of (out-AddPart p).op (term_of vars (out-AddPart p).right))
sum_with vars a (p ∷ q ∷ parts) = None

abbrev pub signless_of : Texts → SumExpr → Option Sum
signless_of vars s = sum_with vars (term_of vars (out-SumExpr s).first) (out-SumExpr s).rest

-- a sum that no sign stands before
abbrev pub sum_without_prefix : Prefix → Option Sum → Option Sum
sum_without_prefix Without s = s
sum_without_prefix _ s = None

-- a sum that is compared with nothing
abbrev pub sum_without_relation : Option RelPart → Option Sum → Option Sum
sum_without_relation None s = s
sum_without_relation (Some r) s = None

-- one operand, or two with `+` between
abbrev pub sum_of : Texts → Expr → Option Sum
sum_of vars e =
    sum_without_relation (out-Expr e).rest
    (sum_without_prefix (out-SumExpr (out-Expr e).first).prefix (signless_of vars (out-Expr e).first))

-- ---- statements

-- an assignment of a sum to a variable
abbrev pub assignment_to : Option ℕ → Option Sum → Option SimpleForm
assignment_to None e = None
assignment_to (Some n) None = None
assignment_to (Some n) (Some e) = Some (form.Assign n e)

abbrev pub assignment_of : Texts → Access → Expr → Option SimpleForm
assignment_of vars a e = assignment_to (variable_of vars a) (sum_of vars e)

-- a width is a number from 1 to 255
abbrev pub width_in : Operand → Option Operand → Option ℕ
width_in (Number n) None = if nat_le 1 n && nat_le n 255 then Some n else None
width_in (Number n) (Some b) = None
width_in (Global n) b = None

abbrev pub width_from : Option Sum → Option ℕ
width_from None = None
width_from (Some s) = width_in s.first s.second

-- a width is written as a number, so no variable is looked up in it
abbrev pub width_of : Expr → Option ℕ
width_of e = width_from (sum_of [] e)

-- writeln of a sum, and of a sum in a width
abbrev pub plain_writing : Option Sum → Option SimpleForm
plain_writing None = None
plain_writing (Some e) = Some (form.WriteLine e None)

abbrev pub writing_in_width : Option Sum → Option ℕ → Option SimpleForm
writing_in_width None w = None
writing_in_width (Some e) None = None
writing_in_width (Some e) (Some w) = Some (form.WriteLine e (Some w))

abbrev pub writing_of : Texts → Expr → Option Expr → Option SimpleForm
writing_of vars e None = plain_writing (sum_of vars e)
writing_of vars e (Some w) = writing_in_width (sum_of vars e) (width_of w)

-- writeln has one argument
abbrev pub one_argument : Texts → List Arg → Option SimpleForm
one_argument vars [] = None
one_argument vars (a ∷ []) = writing_of vars (out-Arg a).value (out-Arg a).width
one_argument vars (a ∷ b ∷ args) = None

-- no other procedure is called
abbrev pub call_of : Texts → List ℕ → List Arg → Option SimpleForm
call_of vars x args = if bytes_eq x (codes "writeln") then one_argument vars args else None

-- the statements that have a block, in the order of the text, if all are simple
abbrev pub Leaves : Type 0
Leaves = Option (List Statement)

-- one statement that has a block, under its name
abbrev pub leaf : ℕ → Option SimpleForm → Leaves
leaf name None = None
leaf name (Some f) = Some (record { name = name; form = f } ∷ [])

-- those of one and then those of another
abbrev pub leaves_of_two : Leaves → Leaves → Leaves
leaves_of_two None r = None
leaves_of_two (Some xs) None = None
leaves_of_two (Some xs) (Some ys) = Some (xs ++ ys)

-- one after another
abbrev pub leaves_in_turn : List Leaves → Leaves
leaves_in_turn [] = Some []
leaves_in_turn (r ∷ rs) = leaves_of_two r (leaves_in_turn rs)

-- a kind of statement under the name of its statement
abbrev pub leaves_of_kind : Texts → StmtKind-F (ℕ → Leaves) Leaves Leaves → ℕ → Leaves
leaves_of_kind vars StmtKind-F.Empty name = leaf name (Some form.Empty)
leaves_of_kind vars (StmtKind-F.Assign a e) name = leaf name (assignment_of vars a e)
leaves_of_kind vars (StmtKind-F.Call x args) name = leaf name (call_of vars x args)
leaves_of_kind vars (StmtKind-F.Compound stmts) name = leaves_in_turn stmts
leaves_of_kind vars _ name = None

-- no case statement is built
abbrev pub leaves_of_arm : Arm-F (ℕ → Leaves) Leaves Leaves → Leaves
leaves_of_arm a = None

-- no label is built
abbrev pub leaves_without_label : Option ℕ → Leaves → Leaves
leaves_without_label None r = r
leaves_without_label (Some label) r = None

abbrev pub leaves_of_stmt : Stmt-F (ℕ → Leaves) Leaves Leaves → Leaves
leaves_of_stmt s = leaves_without_label s.label (s.kind s.name.0)

-- the leaves of a kind of statement, of a statement and of a list of them, by recursion over the tree
unfoldable pub kind_leaves : Texts → StmtKind → ℕ → Leaves
kind_leaves vars = fold-StmtKind (ℕ → Leaves) Leaves Leaves (leaves_of_kind vars) leaves_of_arm leaves_of_stmt

unfoldable pub stmt_leaves : Texts → Stmt → Leaves
stmt_leaves vars = fold-Stmt (ℕ → Leaves) Leaves Leaves (leaves_of_kind vars) leaves_of_arm leaves_of_stmt

abbrev pub stmts_leaves : Texts → List Stmt → Leaves
stmts_leaves vars ss = leaves_in_turn (map (stmt_leaves vars) ss)

-- ---- programs

-- an identifier that hides none of those that a simple program uses
abbrev pub is_free : List ℕ → Bool
is_free x = not (bytes_eq x (codes "integer")) && not (bytes_eq x (codes "writeln"))

-- identifiers that differ, and hide none that a simple program uses
abbrev pub all_new : Texts → Bool
all_new [] = true
all_new (x ∷ xs) = is_free x && not (is_some (place_of xs x)) && all_new xs

-- 1 to 64 variables
abbrev pub are_variables : Texts → Bool
are_variables xs = nat_le 1 (length xs) && nat_le (length xs) 64 && all_new xs

-- the type `integer`, by its identifier
abbrev pub is_integer : TypeText-F TypeText FieldText → Bool
is_integer (TypeText-F.Named x) = bytes_eq x (codes "integer")
is_integer _ = false

-- the variables of a declaration of integers
abbrev pub variables_declared : DeclKind → Option Texts
variables_declared (VarDecl xs t) = if is_integer (out-TypeText t) && are_variables xs then Some xs else None
variables_declared _ = None

-- those of the one declaration
abbrev pub one_declaration : List Decl → Option Texts
one_declaration [] = None
one_declaration (d ∷ []) = variables_declared d.kind
one_declaration (d ∷ e ∷ ds) = None

abbrev pub is_nil : {A : Type 0} → List A → Bool
is_nil [] = true
is_nil (x ∷ xs) = false

-- no part of the block but that of variables
abbrev pub has_variables_alone : Block → Bool
has_variables_alone b =
    not (is_some (out-Block b).labels) && is_nil (out-Block b).consts
    && is_nil (out-Block b).types && is_nil (out-Block b).routines

-- the variables of a program that declares integer variables alone
abbrev pub declared_variables : Tree → Option Texts
declared_variables p =
    if is_nil p.files && has_variables_alone p.block then one_declaration (out-Block p.block).vars
    else None

-- a body over the variables of its program
abbrev pub resolution_over : Option Texts → Stmt → Leaves
resolution_over None body = None
resolution_over (Some vars) body = stmt_leaves vars body

-- the program's statements, resolved, each with the name that it has in the program
abbrev pub resolution_of : Tree → Leaves
resolution_of p = resolution_over (declared_variables p) (out-Block p.block).body

-- ---- the answer of the code

-- more statements behind those that are there
abbrev pub leaves_behind : List Statement → Leaves → Leaves
leaves_behind xs None = None
leaves_behind xs (Some ys) = Some (xs ++ ys)

-- statements were added behind others; or some statement is not simple
abbrev pub IsAdded : Bool → Leaves → List Statement → List Statement → Type 0
IsAdded true r old new = leaves_behind old r ≡ Some new
IsAdded false r old new = r ≡ None

-- what the code answers
abbrev pub statements_in : Option SimpleProgram → Leaves
statements_in None = None
statements_in (Some p) = Some p.statements.items
