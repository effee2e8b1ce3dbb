-- Which programs a text can spell: those of words that a text can have in which no list is empty where the grammar
-- (ISO 7185:1990, 6.2 to 6.10) wants one item or more, and each part is of the sort that its place asks for. So far
-- `stmt_is_formed` and its like say; in `is_formed` and its like, at the end, come levels and to which `if` an `else`
-- belongs.
use Rattle.std.specs.Prelude.{ℕ, Bool, true, false, ◌&&◌, ◌||◌, nat_le, List, [], ◌∷◌, Option, Some, None, is_none, map}
use Rattle.pascal_tree.specs.declared.stmt.Constant.{Constant}
use Rattle.pascal_tree.specs.declared.stmt.Constant.TheVariants as constant
use Rattle.pascal_tree.specs.declared.typing.TypeText.{TypeText, TypeText-F, fold-TypeText}
use Rattle.pascal_tree.specs.declared.typing.FieldText.{FieldText, FieldText-F, fold-FieldText}
use Rattle.pascal_tree.specs.declared.stmt.Stmt.{Stmt, Stmt-F, out-Stmt, fold-Stmt}
use Rattle.pascal_tree.specs.declared.stmt.StmtKind.{StmtKind, StmtKind-F, out-StmtKind, fold-StmtKind}
use Rattle.pascal_tree.specs.declared.stmt.Arm.{Arm, Arm-F, fold-Arm}
use Rattle.pascal_tree.specs.declared.decl.Decl.{Decl}
use Rattle.pascal_tree.specs.declared.decl.DeclKind.{DeclKind}
use Rattle.pascal_tree.specs.declared.decl.DeclKind.TheVariants as decl
use Rattle.pascal_tree.specs.declared.decl.Section.{Section}
use Rattle.pascal_tree.specs.declared.decl.Heading.{Heading}
use Rattle.pascal_tree.specs.declared.decl.Block.{Block, Block-F, fold-Block}
use Rattle.pascal_tree.specs.declared.decl.Routine.{Routine, Routine-F, fold-Routine}
use Rattle.pascal_tree.specs.declared.program.Tree.{Tree}
use Rattle.pascal_tree.specs.declared.levels.TheConstants.{LEVELS}
use Rattle.pascal_tree.specs.Depth.{stmt_depth, decl_depth, routine_depth, tree_levels}
use Rattle.pascal_tree.specs.Openness.{is_paired, routine_is_paired, program_is_paired}
use Rattle.pascal_tree.specs.FormedExprs.{is_identifier, is_number, is_string, all_formed, some_formed, formed_if_any, access_is_formed, arg_is_formed, expr_is_formed}

-- one identifier or more, with commas between (6.4.2.3)
abbrev pub are_identifiers : List (List ℕ) → Bool
are_identifiers xs = some_formed (map is_identifier xs)

-- ---- constants (6.3)

unfoldable pub constant_is_formed : Constant → Bool
constant_is_formed (constant.Number p n) = is_number n
constant_is_formed (constant.Named p x) = is_identifier x
constant_is_formed (constant.Str x) = is_string x

-- ---- types (6.4), one layer

-- whether a type is formed, and then whether it is a simple type (6.4.2), which can be an index type or a base type
pub record TypeShape : Type 0 where
  pub formed : Bool
  pub simple : Bool

abbrev pub is_simple : TypeShape → Bool
is_simple t = t.formed && t.simple

abbrev pub simple_type : Bool → TypeShape
simple_type formed = record { formed = formed; simple = true }

abbrev pub other_type : Bool → TypeShape
other_type formed = record { formed = formed; simple = false }

-- a record (6.4.3.3) may have no fields
abbrev pub shape_of_type : TypeText-F TypeShape Bool → TypeShape
shape_of_type (TypeText-F.Named x) = simple_type (is_identifier x)
shape_of_type (TypeText-F.Enumeration xs) = simple_type (are_identifiers xs)
shape_of_type (TypeText-F.Range first last) = simple_type (constant_is_formed first && constant_is_formed last)
shape_of_type (TypeText-F.Pointer x) = other_type (is_identifier x)
shape_of_type (TypeText-F.Array packed indexes component) =
    other_type (some_formed (map is_simple indexes) && component.formed)
shape_of_type (TypeText-F.SetOf packed base) = other_type (is_simple base)
shape_of_type (TypeText-F.RecordOf packed fields) = other_type (all_formed fields)

abbrev pub formed_field : FieldText-F TypeShape Bool → Bool
formed_field f = are_identifiers f.idents && f.shape.formed

-- whole types and fields
unfoldable pub type_shape : TypeText → TypeShape
type_shape = fold-TypeText TypeShape Bool shape_of_type formed_field

unfoldable pub field_is_formed : FieldText → Bool
field_is_formed = fold-FieldText TypeShape Bool shape_of_type formed_field

abbrev pub type_is_formed : TypeText → Bool
type_is_formed t = (type_shape t).formed

abbrev pub is_simple_type : TypeText → Bool
is_simple_type t = is_simple (type_shape t)

-- ---- declarations (6.2.1), in the four parts of a block

unfoldable pub labels_are_formed : DeclKind → Bool
labels_are_formed (decl.LabelDecl ns) = some_formed (map is_number ns)
labels_are_formed _ = false

unfoldable pub const_is_formed : DeclKind → Bool
const_is_formed (decl.ConstDecl x c) = is_identifier x && constant_is_formed c
const_is_formed _ = false

unfoldable pub typedef_is_formed : DeclKind → Bool
typedef_is_formed (decl.TypeDecl x t) = is_identifier x && type_is_formed t
typedef_is_formed _ = false

unfoldable pub vars_are_formed : DeclKind → Bool
vars_are_formed (decl.VarDecl xs t) = are_identifiers xs && type_is_formed t
vars_are_formed _ = false

-- a declaration by itself
abbrev pub decl_is_formed : DeclKind → Bool
decl_is_formed kind = labels_are_formed kind || const_is_formed kind || typedef_is_formed kind || vars_are_formed kind

-- a part of a block, whose declarations are of one kind
abbrev pub part_is_formed : (DeclKind → Bool) → List Decl → Bool
part_is_formed formed ds = all_formed (map (λ d. formed d.kind) ds)

-- all labels of a block are one declaration
abbrev pub label_part_is_formed : Option Decl → Bool
label_part_is_formed None = true
label_part_is_formed (Some d) = labels_are_formed d.kind

-- ---- headings (6.6.1, 6.6.2)

abbrev pub section_is_formed : Section → Bool
section_is_formed s = are_identifiers s.idents && is_identifier s.shape

-- a procedure has no result; a function has one, or it has no parameters either and was declared before
abbrev pub result_is_formed : Bool → List Section → Option (List ℕ) → Bool
result_is_formed false sections None = true
result_is_formed false sections (Some x) = false
result_is_formed true [] None = true
result_is_formed true (s ∷ ss) None = false
result_is_formed true sections (Some x) = is_identifier x

abbrev pub heading_is_formed : Heading → Bool
heading_is_formed h =
    is_identifier h.ident && all_formed (map section_is_formed h.sections)
    && result_is_formed h.function h.sections h.result

-- ---- statements (6.8), one layer; in the place of each part stands whether it is formed

abbrev pub formed_kind : StmtKind-F Bool Bool Bool → Bool
formed_kind StmtKind-F.Empty = true
formed_kind (StmtKind-F.Assign access value) = access_is_formed access && expr_is_formed value
formed_kind (StmtKind-F.Call x args) = is_identifier x && all_formed (map arg_is_formed args)
formed_kind (StmtKind-F.Goto label) = is_number label
formed_kind (StmtKind-F.Compound stmts) = some_formed stmts
formed_kind (StmtKind-F.If test first second) = expr_is_formed test && first && formed_if_any second
formed_kind (StmtKind-F.Case selector arms) = expr_is_formed selector && some_formed arms
formed_kind (StmtKind-F.While test body) = expr_is_formed test && body
formed_kind (StmtKind-F.Repeat stmts test) = some_formed stmts && expr_is_formed test
formed_kind (StmtKind-F.For x first down last body) =
    is_identifier x && expr_is_formed first && expr_is_formed last && body
formed_kind (StmtKind-F.With records body) = some_formed (map access_is_formed records) && body

abbrev pub formed_arm : Arm-F Bool Bool Bool → Bool
formed_arm a = some_formed (map constant_is_formed a.constants) && a.body

-- a label (6.1.6), or none
abbrev pub formed_label : Option ℕ → Bool
formed_label None = true
formed_label (Some n) = is_number n

abbrev pub formed_stmt : Stmt-F Bool Bool Bool → Bool
formed_stmt s = formed_label s.label && s.kind

-- whole statements, kinds and arms
unfoldable pub stmt_is_formed : Stmt → Bool
stmt_is_formed = fold-Stmt Bool Bool Bool formed_kind formed_arm formed_stmt

unfoldable pub kind_is_formed : StmtKind → Bool
kind_is_formed = fold-StmtKind Bool Bool Bool formed_kind formed_arm formed_stmt

unfoldable pub arm_is_formed : Arm → Bool
arm_is_formed = fold-Arm Bool Bool Bool formed_kind formed_arm formed_stmt

-- ---- blocks, routines and programs

-- the body of a block is a compound statement without a label (6.2.1)
abbrev pub is_compound : {K A S : Type 0} → StmtKind-F K A S → Bool
is_compound (StmtKind-F.Compound stmts) = true
is_compound _ = false

abbrev pub is_body : Stmt → Bool
is_body s = is_none (out-Stmt s).label && is_compound (out-StmtKind (out-Stmt s).kind)

abbrev pub formed_block : Block-F Bool Bool → Bool
formed_block b =
    label_part_is_formed b.labels && part_is_formed const_is_formed b.consts
    && part_is_formed typedef_is_formed b.types && part_is_formed vars_are_formed b.vars
    && all_formed b.routines && (is_body b.body && stmt_is_formed b.body)

-- without a block it is `forward`
abbrev pub formed_routine : Routine-F Bool Bool → Bool
formed_routine r = heading_is_formed r.heading && formed_if_any r.block

unfoldable pub block_is_formed : Block → Bool
block_is_formed = fold-Block Bool Bool formed_block formed_routine

unfoldable pub routine_is_formed : Routine → Bool
routine_is_formed = fold-Routine Bool Bool formed_block formed_routine

-- a program (6.10) may have no parameters
abbrev pub program_is_formed : Tree → Bool
program_is_formed p = is_identifier p.ident && all_formed (map is_identifier p.files) && block_is_formed p.block

-- ---- and with at most so many levels, and each `else` at its own `if`: what some tokens of a text spell, names aside

abbrev pub is_formed : Tree → Bool
is_formed p = program_is_formed p && program_is_paired p && nat_le (tree_levels p) LEVELS

abbrev pub is_formed_stmt : Stmt → Bool
is_formed_stmt s = stmt_is_formed s && is_paired s && nat_le (stmt_depth s) LEVELS

abbrev pub is_formed_routine : Routine → Bool
is_formed_routine r = routine_is_formed r && routine_is_paired r && nat_le (routine_depth r) LEVELS

abbrev pub is_formed_decl : Decl → Bool
is_formed_decl d = decl_is_formed d.kind && nat_le (decl_depth d.kind) LEVELS
