-- The items of a program as a list of rows, in the order of the text, each item before what it contains. The own text of an
-- item is its tokens with `#` in the place of each statement in it, or of the whole sequence of a `repeat` statement. The
-- own text of a program or a routine is its heading.
use Rattle.std.specs.Prelude.{ℕ, ◌+◌, if◌then◌else◌, List, [], ◌∷◌, ◌++◌, Option, Some, None, map, option_to_list}
use Rattle.dice_base.specs.declared.token.TokenKind.{TokenKind}
use Rattle.dice_base.specs.declared.token.TokenKind.TheVariants.{Ident, Number, Hole}
use Rattle.pascal_tree.specs.declared.stmt.Constant.{Constant}
use Rattle.pascal_tree.specs.declared.stmt.Stmt.{Stmt, Stmt-F, out-Stmt, fold-Stmt}
use Rattle.pascal_tree.specs.declared.stmt.StmtKind.{StmtKind, StmtKind-F, out-StmtKind, fold-StmtKind}
use Rattle.pascal_tree.specs.declared.stmt.Arm.{Arm, Arm-F, out-Arm, fold-Arm}
use Rattle.pascal_tree.specs.declared.decl.Decl.{Decl}
use Rattle.pascal_tree.specs.declared.decl.DeclKind.{DeclKind}
use Rattle.pascal_tree.specs.declared.decl.DeclKind.TheVariants as decl
use Rattle.pascal_tree.specs.declared.decl.Block.{Block, Block-F, fold-Block}
use Rattle.pascal_tree.specs.declared.decl.Routine.{Routine, Routine-F, out-Routine, fold-Routine}
use Rattle.pascal_tree.specs.declared.program.Tree.{Tree}
use Rattle.dice_base.specs.Tokens.{Toks}
use Rattle.pascal_tree.specs.Joined.{join}
use Rattle.pascal_tree.specs.ExprTokens.{expr_tokens, access_tokens, accesses_tokens, args_tokens, in_parens}
use Rattle.pascal_tree.specs.DeclTokens.{ident_tokens, constants_tokens, decl_tokens, heading_tokens}
use Rattle.dice_base.specs.Symbols.{end_word, of_word, var_word, period_sign, comma_sign, semicolon_sign, colon_sign, begin_word, case_word, const_word, do_word, downto_word, else_word, for_word, goto_word, if_word, label_word, program_word, repeat_word, then_word, to_word, type_word, until_word, while_word, with_word, becomes_sign}
use Rattle.pascal_tree.specs.Paths.{ItemValue, OfProgram, OfDecl, OfRoutine, OfStmt, kind_parts}

-- an item: its path in the program, its name, and its own text
pub record Row : Type 0 where
  pub path : List ℕ
  pub name : ℕ
  pub own : Toks

-- ---- own texts

-- what stands in the own text for a statement that is an item of its own
abbrev pub hole : Toks
hole = Hole ∷ []

-- the word after a sequence of statements
abbrev pub end_part : Toks
end_part = end_word ∷ []

-- the body of a loop or of a `with` statement
abbrev pub do_part : Toks
do_part = do_word ∷ hole

-- a label before its statement (6.8.1)
abbrev pub label_part : Option ℕ → Toks
label_part None = []
label_part (Some n) = Number n ∷ colon_sign ∷ []

-- the second branch of an `if` statement
abbrev pub else_part : {S : Type 0} → Option S → Toks
else_part None = []
else_part (Some s) = else_word ∷ hole

-- the texts of the items of a sequence, with semicolons between
abbrev pub in_sequence : {A : Type 0} → (A → Toks) → List A → Toks
in_sequence text xs = join (semicolon_sign ∷ []) (map text xs)

-- the own text of a kind (6.8.2, 6.8.3), which has a K, an A and an S in place of each kind, arm and statement; `arm` is
-- the text of an arm
abbrev pub own_kind : {K A S : Type 0} → (A → Toks) → StmtKind-F K A S → Toks
own_kind arm StmtKind-F.Empty = []
own_kind arm (StmtKind-F.Assign a e) = access_tokens a ++ (becomes_sign ∷ expr_tokens e)
own_kind arm (StmtKind-F.Call x args) = Ident x ∷ args_tokens args
own_kind arm (StmtKind-F.Goto label) = goto_word ∷ Number label ∷ []
own_kind arm (StmtKind-F.Compound stmts) =
    begin_word ∷ (in_sequence (λ s. hole) stmts ++ end_part)
own_kind arm (StmtKind-F.If e first second) =
    if_word ∷ (expr_tokens e ++ (then_word ∷ (hole ++ else_part second)))
own_kind arm (StmtKind-F.Case e arms) =
    case_word ∷ (expr_tokens e ++ (of_word ∷ (in_sequence arm arms ++ end_part)))
own_kind arm (StmtKind-F.While e body) = while_word ∷ (expr_tokens e ++ do_part)
own_kind arm (StmtKind-F.Repeat stmts e) = repeat_word ∷ (hole ++ (until_word ∷ expr_tokens e))
own_kind arm (StmtKind-F.For x first down last body) =
    for_word ∷ Ident x ∷ becomes_sign
    ∷ (expr_tokens first ++ ((if down then downto_word else to_word) ∷ (expr_tokens last ++ do_part)))
own_kind arm (StmtKind-F.With records body) = with_word ∷ (accesses_tokens records ++ do_part)

-- an arm is part of the own text of its `case` statement; its statement is an item
abbrev pub own_arm : List Constant → Toks
own_arm cs = constants_tokens cs ++ (colon_sign ∷ hole)

abbrev pub arm_text : Arm → Toks
arm_text arm = own_arm (out-Arm arm).constants

-- a statement, with its label
abbrev pub own_stmt : Stmt → Toks
own_stmt s = label_part (out-Stmt s).label ++ own_kind arm_text (out-StmtKind (out-Stmt s).kind)

-- the word of the part of a block in which such declarations are (6.2.1)
abbrev pub decl_word : DeclKind → TokenKind
decl_word (decl.LabelDecl ns) = label_word
decl_word (decl.ConstDecl x c) = const_word
decl_word (decl.TypeDecl x t) = type_word
decl_word (decl.VarDecl xs t) = var_word

-- a declaration alone, with its word and its semicolon
abbrev pub own_decl : DeclKind → Toks
own_decl kind = decl_word kind ∷ (decl_tokens kind ++ (semicolon_sign ∷ []))

-- a program (6.10) without its block
abbrev pub own_program : List ℕ → List (List ℕ) → Toks
own_program x files =
    program_word ∷ Ident x
    ∷ (in_parens comma_sign (map ident_tokens files) ++ (semicolon_sign ∷ period_sign ∷ []))

-- what an item says itself, without the items that it contains
abbrev pub own_text : ItemValue → Toks
own_text (OfProgram p) = own_program p.ident p.files
own_text (OfDecl d) = own_decl d.kind
own_text (OfRoutine r) = heading_tokens (out-Routine r).heading
own_text (OfStmt s) = own_stmt s

-- ---- the rows of an item and all that it contains, in the order of the text

-- the rows, given the path of the item
abbrev pub Rows : Type 0
Rows = List ℕ → List Row

-- the rows of items directly within the item at the path, of which the first has this place
abbrev pub rows_from : ℕ → List Rows → Rows
rows_from i [] path = []
rows_from i (part ∷ parts) path = part (path ++ (i ∷ [])) ++ rows_from (i + 1) parts path

-- the own text of a kind or an arm, and the rows of what it contains: one layer of the tree, in which these stand in the
-- place of each part
abbrev pub rows_in_kind : StmtKind-F (Toks × Rows) (Toks × Rows) Rows → Toks × Rows
rows_in_kind kind = (own_kind (λ arm. arm.0) kind, rows_from 0 (kind_parts (λ arm. arm.1) kind))

-- an arm is no item, so its statement has a path from the `case` statement
abbrev pub rows_in_arm : Arm-F (Toks × Rows) (Toks × Rows) Rows → Toks × Rows
rows_in_arm arm = (own_arm arm.constants, arm.body)

-- the row of the statement itself comes first
abbrev pub rows_in_stmt : Stmt-F (Toks × Rows) (Toks × Rows) Rows → Rows
rows_in_stmt s path =
    record { path = path; name = s.name.0; own = label_part s.label ++ s.kind.0 } ∷ s.kind.1 path

-- the rows of a statement; and the own text and the rows of a kind and of an arm
unfoldable pub stmt_rows : Stmt → Rows
stmt_rows = fold-Stmt (Toks × Rows) (Toks × Rows) Rows rows_in_kind rows_in_arm rows_in_stmt

unfoldable pub kind_rows : StmtKind → Toks × Rows
kind_rows = fold-StmtKind (Toks × Rows) (Toks × Rows) Rows rows_in_kind rows_in_arm rows_in_stmt

unfoldable pub arm_rows : Arm → Toks × Rows
arm_rows = fold-Arm (Toks × Rows) (Toks × Rows) Rows rows_in_kind rows_in_arm rows_in_stmt

-- a declaration contains no other item
abbrev pub decl_rows : Decl → Rows
decl_rows d path = record { path = path; name = d.name.0; own = own_decl d.kind } ∷ []

-- the parts of a block in the order of 6.2.1, counted on through all of them
abbrev pub rows_in_block : Block-F Rows Rows → Rows
rows_in_block b =
    rows_from 0 (map decl_rows (option_to_list b.labels)
    ++ (map decl_rows b.consts
    ++ (map decl_rows b.types
    ++ (map decl_rows b.vars
    ++ (b.routines ++ (stmt_rows b.body ∷ []))))))

-- none where a routine is `forward`
abbrev pub any_rows : Option Rows → Rows
any_rows None path = []
any_rows (Some rows) path = rows path

-- the row of the routine itself comes first
abbrev pub rows_in_routine : Routine-F Rows Rows → Rows
rows_in_routine r path =
    record { path = path; name = r.name.0; own = heading_tokens r.heading } ∷ any_rows r.block path

-- the rows of what a block contains, and of a routine and all that it contains
unfoldable pub block_rows : Block → Rows
block_rows = fold-Block Rows Rows rows_in_block rows_in_routine

unfoldable pub routine_rows : Routine → Rows
routine_rows = fold-Routine Rows Rows rows_in_block rows_in_routine

-- the rows of a program, whose name is 1
abbrev pub program_rows : Tree → List Row
program_rows p =
    record { path = []; name = 1; own = own_program p.ident p.files } ∷ block_rows p.block []
