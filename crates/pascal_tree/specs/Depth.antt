-- How many levels a tree takes, with its own: a bracketed expression, an argument, an index, a member of a set, the operand of
-- `not`, a statement, an inner type and a routine are each one level below that in which they stand.
use Rattle.std.specs.Prelude.{ℕ, ◌+◌, max, List, [], ◌∷◌, Option, Some, None, map}
use Rattle.pascal_tree.specs.declared.expr.AccessPart.{AccessPart, AccessPart-F, fold-AccessPart}
use Rattle.pascal_tree.specs.declared.expr.Factor.{Factor, Factor-F, fold-Factor}
use Rattle.pascal_tree.specs.declared.expr.Access.{Access, Access-F, fold-Access}
use Rattle.pascal_tree.specs.declared.expr.AddPart.{AddPart, AddPart-F, fold-AddPart}
use Rattle.pascal_tree.specs.declared.expr.Arg.{Arg, Arg-F, fold-Arg}
use Rattle.pascal_tree.specs.declared.expr.Expr.{Expr, Expr-F, fold-Expr}
use Rattle.pascal_tree.specs.declared.expr.MulPart.{MulPart, MulPart-F, fold-MulPart}
use Rattle.pascal_tree.specs.declared.expr.RelPart.{RelPart, RelPart-F, fold-RelPart}
use Rattle.pascal_tree.specs.declared.expr.SetMember.{SetMember, SetMember-F, fold-SetMember}
use Rattle.pascal_tree.specs.declared.expr.SumExpr.{SumExpr, SumExpr-F, fold-SumExpr}
use Rattle.pascal_tree.specs.declared.expr.Term.{Term, Term-F, fold-Term}
use Rattle.pascal_tree.specs.declared.stmt.Stmt.{Stmt, Stmt-F, fold-Stmt}
use Rattle.pascal_tree.specs.declared.stmt.StmtKind.{StmtKind, StmtKind-F, fold-StmtKind}
use Rattle.pascal_tree.specs.declared.stmt.Arm.{Arm, Arm-F, fold-Arm}
use Rattle.pascal_tree.specs.declared.typing.TypeText.{TypeText, TypeText-F, fold-TypeText}
use Rattle.pascal_tree.specs.declared.typing.FieldText.{FieldText, FieldText-F, fold-FieldText}
use Rattle.pascal_tree.specs.declared.decl.Decl.{Decl}
use Rattle.pascal_tree.specs.declared.decl.DeclKind.{DeclKind}
use Rattle.pascal_tree.specs.declared.decl.DeclKind.TheVariants as decl
use Rattle.pascal_tree.specs.declared.decl.Block.{Block, Block-F, fold-Block}
use Rattle.pascal_tree.specs.declared.decl.Routine.{Routine, Routine-F, fold-Routine}
use Rattle.pascal_tree.specs.declared.program.Tree.{Tree}

-- the greatest of some numbers, 0 where there is none
abbrev pub most : List ℕ → ℕ
most [] = 0
most (n ∷ ns) = max n (most ns)

-- 0 where there is none
abbrev pub depth_if_any : Option ℕ → ℕ
depth_if_any None = 0
depth_if_any (Some n) = n

-- ---- expressions, one layer; in the place of each part stands how many levels it takes

-- an index is as deep as its deepest expression; a field and a dereference take no level
abbrev pub depth_of_access_part : AccessPart-F ℕ ℕ ℕ ℕ ℕ ℕ ℕ ℕ ℕ ℕ ℕ → ℕ
depth_of_access_part (AccessPart-F.Index exprs) = most exprs
depth_of_access_part (AccessPart-F.Field x) = 0
depth_of_access_part AccessPart-F.Dereference = 0

-- a constant takes a level of its own; arguments, members, brackets and the operand of `not` come one below theirs
abbrev pub depth_of_factor : Factor-F ℕ ℕ ℕ ℕ ℕ ℕ ℕ ℕ ℕ ℕ ℕ → ℕ
depth_of_factor (Factor-F.Number n) = 1
depth_of_factor (Factor-F.Str text) = 1
depth_of_factor Factor-F.Nil = 1
depth_of_factor (Factor-F.Access access) = access
depth_of_factor (Factor-F.Call x args) = most args + 1
depth_of_factor (Factor-F.Members members) = most members + 1
depth_of_factor (Factor-F.Paren expr) = expr + 1
depth_of_factor (Factor-F.Not operand) = operand + 1

-- an index comes one level below the variable
abbrev pub depth_of_access : Access-F ℕ ℕ ℕ ℕ ℕ ℕ ℕ ℕ ℕ ℕ ℕ → ℕ
depth_of_access a = most a.parts + 1

-- a further term stands on the level of the first
abbrev pub depth_of_add_part : AddPart-F ℕ ℕ ℕ ℕ ℕ ℕ ℕ ℕ ℕ ℕ ℕ → ℕ
depth_of_add_part p = p.right

-- the value and the width are on one level
abbrev pub depth_of_arg : Arg-F ℕ ℕ ℕ ℕ ℕ ℕ ℕ ℕ ℕ ℕ ℕ → ℕ
depth_of_arg a = max a.value (depth_if_any a.width)

-- both sides of a relation are on one level
abbrev pub depth_of_expr : Expr-F ℕ ℕ ℕ ℕ ℕ ℕ ℕ ℕ ℕ ℕ ℕ → ℕ
depth_of_expr e = max e.first (depth_if_any e.rest)

-- a further factor stands on the level of the first
abbrev pub depth_of_mul_part : MulPart-F ℕ ℕ ℕ ℕ ℕ ℕ ℕ ℕ ℕ ℕ ℕ → ℕ
depth_of_mul_part p = p.right

-- the right side of a relation
abbrev pub depth_of_rel_part : RelPart-F ℕ ℕ ℕ ℕ ℕ ℕ ℕ ℕ ℕ ℕ ℕ → ℕ
depth_of_rel_part p = p.right

-- both ends of a range are on one level
abbrev pub depth_of_member : SetMember-F ℕ ℕ ℕ ℕ ℕ ℕ ℕ ℕ ℕ ℕ ℕ → ℕ
depth_of_member m = max m.first (depth_if_any m.last)

-- as deep as the deepest term
abbrev pub depth_of_sum : SumExpr-F ℕ ℕ ℕ ℕ ℕ ℕ ℕ ℕ ℕ ℕ ℕ → ℕ
depth_of_sum s = max s.first (most s.rest)

-- as deep as the deepest factor
abbrev pub depth_of_term : Term-F ℕ ℕ ℕ ℕ ℕ ℕ ℕ ℕ ℕ ℕ ℕ → ℕ
depth_of_term t = max t.first (most t.rest)

-- ---- whole expressions: how many levels each takes

unfoldable pub access_part_depth : AccessPart → ℕ
access_part_depth =
    fold-AccessPart ℕ ℕ ℕ ℕ ℕ ℕ ℕ ℕ ℕ ℕ ℕ depth_of_access_part depth_of_factor depth_of_access depth_of_add_part depth_of_arg
    depth_of_expr depth_of_mul_part depth_of_rel_part depth_of_member depth_of_sum depth_of_term

unfoldable pub factor_depth : Factor → ℕ
factor_depth =
    fold-Factor ℕ ℕ ℕ ℕ ℕ ℕ ℕ ℕ ℕ ℕ ℕ depth_of_access_part depth_of_factor depth_of_access depth_of_add_part depth_of_arg
    depth_of_expr depth_of_mul_part depth_of_rel_part depth_of_member depth_of_sum depth_of_term

unfoldable pub access_depth : Access → ℕ
access_depth =
    fold-Access ℕ ℕ ℕ ℕ ℕ ℕ ℕ ℕ ℕ ℕ ℕ depth_of_access_part depth_of_factor depth_of_access depth_of_add_part depth_of_arg
    depth_of_expr depth_of_mul_part depth_of_rel_part depth_of_member depth_of_sum depth_of_term

unfoldable pub add_part_depth : AddPart → ℕ
add_part_depth =
    fold-AddPart ℕ ℕ ℕ ℕ ℕ ℕ ℕ ℕ ℕ ℕ ℕ depth_of_access_part depth_of_factor depth_of_access depth_of_add_part depth_of_arg
    depth_of_expr depth_of_mul_part depth_of_rel_part depth_of_member depth_of_sum depth_of_term

unfoldable pub arg_depth : Arg → ℕ
arg_depth =
    fold-Arg ℕ ℕ ℕ ℕ ℕ ℕ ℕ ℕ ℕ ℕ ℕ depth_of_access_part depth_of_factor depth_of_access depth_of_add_part depth_of_arg
    depth_of_expr depth_of_mul_part depth_of_rel_part depth_of_member depth_of_sum depth_of_term

unfoldable pub expr_depth : Expr → ℕ
expr_depth =
    fold-Expr ℕ ℕ ℕ ℕ ℕ ℕ ℕ ℕ ℕ ℕ ℕ depth_of_access_part depth_of_factor depth_of_access depth_of_add_part depth_of_arg
    depth_of_expr depth_of_mul_part depth_of_rel_part depth_of_member depth_of_sum depth_of_term

unfoldable pub mul_part_depth : MulPart → ℕ
mul_part_depth =
    fold-MulPart ℕ ℕ ℕ ℕ ℕ ℕ ℕ ℕ ℕ ℕ ℕ depth_of_access_part depth_of_factor depth_of_access depth_of_add_part depth_of_arg
    depth_of_expr depth_of_mul_part depth_of_rel_part depth_of_member depth_of_sum depth_of_term

unfoldable pub rel_part_depth : RelPart → ℕ
rel_part_depth =
    fold-RelPart ℕ ℕ ℕ ℕ ℕ ℕ ℕ ℕ ℕ ℕ ℕ depth_of_access_part depth_of_factor depth_of_access depth_of_add_part depth_of_arg
    depth_of_expr depth_of_mul_part depth_of_rel_part depth_of_member depth_of_sum depth_of_term

unfoldable pub member_depth : SetMember → ℕ
member_depth =
    fold-SetMember ℕ ℕ ℕ ℕ ℕ ℕ ℕ ℕ ℕ ℕ ℕ depth_of_access_part depth_of_factor depth_of_access depth_of_add_part depth_of_arg
    depth_of_expr depth_of_mul_part depth_of_rel_part depth_of_member depth_of_sum depth_of_term

unfoldable pub sum_depth : SumExpr → ℕ
sum_depth =
    fold-SumExpr ℕ ℕ ℕ ℕ ℕ ℕ ℕ ℕ ℕ ℕ ℕ depth_of_access_part depth_of_factor depth_of_access depth_of_add_part depth_of_arg
    depth_of_expr depth_of_mul_part depth_of_rel_part depth_of_member depth_of_sum depth_of_term

unfoldable pub term_depth : Term → ℕ
term_depth =
    fold-Term ℕ ℕ ℕ ℕ ℕ ℕ ℕ ℕ ℕ ℕ ℕ depth_of_access_part depth_of_factor depth_of_access depth_of_add_part depth_of_arg
    depth_of_expr depth_of_mul_part depth_of_rel_part depth_of_member depth_of_sum depth_of_term

-- ---- statements; in the place of each part stands how many levels it takes

-- expressions are on the level of their statement, inner statements and arguments one below it
abbrev pub depth_of_kind : StmtKind-F ℕ ℕ ℕ → ℕ
depth_of_kind StmtKind-F.Empty = 1
depth_of_kind (StmtKind-F.Assign access value) = max (access_depth access) (expr_depth value)
depth_of_kind (StmtKind-F.Call x args) = most (map arg_depth args) + 1
depth_of_kind (StmtKind-F.Goto label) = 1
depth_of_kind (StmtKind-F.Compound stmts) = most stmts + 1
depth_of_kind (StmtKind-F.If test first second) = max (expr_depth test) (max first (depth_if_any second) + 1)
depth_of_kind (StmtKind-F.Case selector arms) = max (expr_depth selector) (most arms + 1)
depth_of_kind (StmtKind-F.While test body) = max (expr_depth test) (body + 1)
depth_of_kind (StmtKind-F.Repeat stmts test) = max (expr_depth test) (most stmts + 1)
depth_of_kind (StmtKind-F.For x first down last body) = max (max (expr_depth first) (expr_depth last)) (body + 1)
depth_of_kind (StmtKind-F.With records body) = max (most (map access_depth records)) (body + 1)

-- an arm is as deep as its statement
abbrev pub depth_of_arm : Arm-F ℕ ℕ ℕ → ℕ
depth_of_arm a = a.body

-- a name and a label take no level
abbrev pub depth_of_stmt : Stmt-F ℕ ℕ ℕ → ℕ
depth_of_stmt s = s.kind

-- how many levels a whole kind, arm and statement take
unfoldable pub kind_depth : StmtKind → ℕ
kind_depth = fold-StmtKind ℕ ℕ ℕ depth_of_kind depth_of_arm depth_of_stmt

unfoldable pub arm_depth : Arm → ℕ
arm_depth = fold-Arm ℕ ℕ ℕ depth_of_kind depth_of_arm depth_of_stmt

unfoldable pub stmt_depth : Stmt → ℕ
stmt_depth = fold-Stmt ℕ ℕ ℕ depth_of_kind depth_of_arm depth_of_stmt

-- ---- types; in the place of each part stands how many levels it takes

-- the index types and the component of an array, the base of a set and the fields of a record are one level below it
abbrev pub depth_of_type : TypeText-F ℕ ℕ → ℕ
depth_of_type (TypeText-F.Named x) = 1
depth_of_type (TypeText-F.Enumeration xs) = 1
depth_of_type (TypeText-F.Range first last) = 1
depth_of_type (TypeText-F.Pointer x) = 1
depth_of_type (TypeText-F.Array packed indexes component) = max (most indexes) component + 1
depth_of_type (TypeText-F.SetOf packed base) = base + 1
depth_of_type (TypeText-F.RecordOf packed fields) = most fields + 1

-- fields are as deep as their type
abbrev pub depth_of_field : FieldText-F ℕ ℕ → ℕ
depth_of_field f = f.shape

-- how many levels a whole type takes, and fields of one
unfoldable pub type_depth : TypeText → ℕ
type_depth = fold-TypeText ℕ ℕ depth_of_type depth_of_field

unfoldable pub field_depth : FieldText → ℕ
field_depth = fold-FieldText ℕ ℕ depth_of_type depth_of_field

-- ---- declarations, blocks, routines and programs

-- labels and constants take no level, and a type is on the level of its block
unfoldable pub decl_depth : DeclKind → ℕ
decl_depth (decl.LabelDecl ns) = 0
decl_depth (decl.ConstDecl x c) = 0
decl_depth (decl.TypeDecl x t) = type_depth t
decl_depth (decl.VarDecl xs t) = type_depth t

abbrev pub decls_depth : List Decl → ℕ
decls_depth ds = most (map (λ d. decl_depth d.kind) ds)

-- a block is on the level of its program or routine, and its routines and its body are one below it
abbrev pub depth_of_block : Block-F ℕ ℕ → ℕ
depth_of_block b = max (max (decls_depth b.types) (decls_depth b.vars)) (max (most b.routines) (stmt_depth b.body) + 1)

-- without a block it takes its own level alone
abbrev pub depth_of_routine : Routine-F ℕ ℕ → ℕ
depth_of_routine r = max 1 (depth_if_any r.block)

unfoldable pub block_depth : Block → ℕ
block_depth = fold-Block ℕ ℕ depth_of_block depth_of_routine

unfoldable pub routine_depth : Routine → ℕ
routine_depth = fold-Routine ℕ ℕ depth_of_block depth_of_routine

-- the program is the first level
abbrev pub tree_levels : Tree → ℕ
tree_levels t = block_depth t.block
