-- The grammar of blocks (ISO 7185:1990, 6.2.1), of procedures and functions (6.6.1, 6.6.2) and of programs (6.10); and
-- what tokens spell within the levels that a program may have.
use Rattle.std.specs.Prelude.{ℕ, zero, suc, ◌-◌, Bool, true, false, if◌then◌else◌, List, [], ◌∷◌, Option, Some, None, bytes_eq}
use Rattle.dice_base.specs.declared.token.TokenKind.{TokenKind}
use Rattle.dice_base.specs.declared.token.TokenKind.TheVariants.{Ident}
use Rattle.dice_base.specs.Tokens.{Toks}
use Rattle.dice_base.specs.Forms.{Form, never, just, one, token, chain, either, rows, some_rows, list_of, named}
use Rattle.pascal_tree.specs.Classes.{begin_class, const_class, label_class, program_class, type_class, var_class, open_class, close_class, period_class, comma_class, semicolon_class}
use Rattle.pascal_tree.specs.declared.levels.TheConstants.{LEVELS}
use Rattle.pascal_tree.specs.declared.typing.TypeText.{TypeText}
use Rattle.pascal_tree.specs.declared.decl.Decl.{Decl}
use Rattle.pascal_tree.specs.declared.decl.DeclKind.{DeclKind}
use Rattle.pascal_tree.specs.declared.decl.Heading.{Heading}
use Rattle.pascal_tree.specs.declared.decl.Block.{Block, roll-Block}
use Rattle.pascal_tree.specs.declared.decl.Routine.{Routine, roll-Routine}
use Rattle.pascal_tree.specs.declared.program.Tree.{Tree}
use Rattle.pascal_tree.specs.declared.stmt.Stmt.{Stmt}
use Rattle.pascal_tree.specs.declared.stmt.StmtKind.{StmtKind}
use Rattle.pascal_tree.specs.Expressions.{expr_at}
use Rattle.pascal_tree.specs.Declarations.{no_name, make_decl, type_at, labels_form, constdef_form, typedef_form, vardef_form, decl_at, heading_form}
use Rattle.pascal_tree.specs.Statements.{make_stmt, compound_in, stmt_at, header_at}

-- ---- trees of their parts, without names

abbrev pub make_block : Option Decl → List Decl → List Decl → List Decl → List Routine → StmtKind → Block
make_block labels consts types vars routines body =
    roll-Block (record {
      labels = labels;
      consts = consts;
      types = types;
      vars = vars;
      routines = routines;
      body = make_stmt None body;
    })

abbrev pub make_routine : Heading → Option Block → Routine
make_routine heading block = roll-Routine (record { name = no_name; heading = heading; block = block })

abbrev pub make_program : List ℕ → List (List ℕ) → Block → Tree
make_program x files block = record { ident = x; files = files; block = block; next = 0 }

-- ---- the declarations of a block

-- a declaration with its semicolon
abbrev pub ended_form : Form DeclKind → Form Decl
ended_form K = chain K (λ kind _. token semicolon_class (just (make_decl kind) false))

-- the labels of a block are one declaration
abbrev pub labels_part : Form (Option Decl)
labels_part = either (token label_class (chain (ended_form labels_form) (λ d _. just (Some d) false))) (just None false)

-- a word and one declaration or more, or none
abbrev pub decls_part : ℕ → Form DeclKind → Form (List Decl)
decls_part word K = either (token word (some_rows (ended_form K))) (just [] false)

-- ---- blocks and routines, where T is a type at the level of the block, and P and B are a routine and a body one level
-- further in

-- the directive `forward` (6.1.4) is an identifier
abbrev pub forward_of : TokenKind → Option (Unit {0})
forward_of (Ident x) = if bytes_eq x (102 ∷ 111 ∷ 114 ∷ 119 ∷ 97 ∷ 114 ∷ 100 ∷ []) then Some tt else None
forward_of _ = None

module _ (T : Form TypeText) (P : Form Routine) (B : Form StmtKind) where
  abbrev pub block_form : Form Block
  block_form =
      chain labels_part (λ labels _.
      chain (decls_part const_class constdef_form) (λ consts _.
      chain (decls_part type_class (typedef_form T)) (λ types _.
      chain (decls_part var_class (vardef_form T)) (λ vars _.
      chain (rows (chain P (λ p _. token semicolon_class (just p false)))) (λ routines _.
      chain B (λ body _. just (make_block labels consts types vars routines body) false))))))

  abbrev pub routine_form : Form Routine
  routine_form =
      chain heading_form (λ h _. token semicolon_class
      (either (chain (one forward_of) (λ _ _. just (make_routine h None) false))
      (chain block_form (λ b _. just (make_routine h (Some b)) false))))

-- ---- programs, where G is the block

-- the program parameters, or none
abbrev pub files_form : Form (List (List ℕ))
files_form =
    either (token open_class (chain (list_of comma_class named) (λ xs _. token close_class (just xs false))))
    (just [] false)

abbrev pub program_form : Form Block → Form Tree
program_form G =
    token program_class (chain named (λ x _. chain files_form (λ files _. token semicolon_class
    (chain G (λ b _. token period_class (just (make_program x files b) false))))))

-- ---- with at most so many levels: a block is at the level of its program or routine, and its routines and its body are
-- one level further in

unfoldable pub body_at : ℕ → Form StmtKind
body_at zero = never
body_at (suc d) =
    token begin_class (compound_in (expr_at (suc d)) (expr_at d) (stmt_at d) (list_of semicolon_class (stmt_at d)))

unfoldable pub routine_at : ℕ → Form Routine
routine_at zero = never
routine_at (suc d) = routine_form (type_at (suc d)) (routine_at d) (body_at d)

-- so many levels besides that of the block, and of the program
unfoldable pub block_at : ℕ → Form Block
block_at d = block_form (type_at (suc d)) (routine_at d) (body_at d)

unfoldable pub program_at : ℕ → Form Tree
program_at d = program_form (block_at d)

-- ---- what may be read: the tree, without names and with at most 64 levels, is spelled by the tokens

abbrev pub Derives : Tree → Toks → Type 0
Derives p ts = (program_at (LEVELS - 1)).full p false ts

abbrev pub DerivesStmt : Stmt → Toks → Type 0
DerivesStmt s ts = (w : Bool) × (stmt_at LEVELS).full s w ts

abbrev pub DerivesHeader : Stmt → Toks → Type 0
DerivesHeader s ts = (w : Bool) × (header_at LEVELS).full s w ts

abbrev pub DerivesDecl : Decl → Toks → Type 0
DerivesDecl d ts = (decl_at LEVELS).full d false ts

abbrev pub DerivesRoutine : Routine → Toks → Type 0
DerivesRoutine r ts = (routine_at LEVELS).full r false ts

abbrev pub DerivesHeading : Heading → Toks → Type 0
DerivesHeading h ts = heading_form.full h false ts
