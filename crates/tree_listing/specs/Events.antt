-- A program as a list of events: each of its tokens, where a named item and a part of a block begin, and where a named
-- item has ended. The tokens are those of ISO 7185:1990, 6.8 (statements), 6.2 and 6.6 (blocks and routines) and 6.10
-- (programs): the tree read aloud.
use Rattle.std.specs.Prelude.{ℕ, ◌+◌, Bool, if◌then◌else◌, List, [], ◌∷◌, ◌++◌, Option, Some, None, map, codes}
use Rattle.dice_base.specs.declared.name.Name.{Name}
use Rattle.dice_base.specs.declared.token.TokenKind.{TokenKind}
use Rattle.dice_base.specs.declared.token.TokenKind.TheVariants.{Ident, Number}
use Rattle.pascal_tree.specs.declared.expr.Expr.{Expr}
use Rattle.pascal_tree.specs.declared.stmt.Stmt.{Stmt, Stmt-F, fold-Stmt}
use Rattle.pascal_tree.specs.declared.stmt.StmtKind.{StmtKind, StmtKind-F, fold-StmtKind}
use Rattle.pascal_tree.specs.declared.stmt.Arm.{Arm, Arm-F, fold-Arm}
use Rattle.pascal_tree.specs.declared.decl.Decl.{Decl}
use Rattle.pascal_tree.specs.declared.decl.Block.{Block, Block-F, fold-Block}
use Rattle.pascal_tree.specs.declared.decl.Routine.{Routine, Routine-F, fold-Routine}
use Rattle.pascal_tree.specs.declared.program.Tree.{Tree}
use Rattle.dice_base.specs.Tokens.{Toks}
use Rattle.pascal_tree.specs.Joined.{flat}
use Rattle.dice_base.specs.Symbols.{end_word, of_word, var_word, comma_sign, period_sign, semicolon_sign, colon_sign, begin_word, case_word, const_word, do_word, downto_word, else_word, for_word, goto_word, if_word, label_word, program_word, repeat_word, then_word, to_word, type_word, until_word, while_word, with_word, becomes_sign}
use Rattle.pascal_tree.specs.ExprTokens.{expr_tokens, access_tokens, accesses_tokens, args_tokens, in_parens}
use Rattle.pascal_tree.specs.DeclTokens.{ident_tokens, constants_tokens, decl_tokens, heading_tokens}
use Rattle.tree_listing.specs.declared.event.Event.{Event}
use Rattle.tree_listing.specs.declared.event.Event.TheVariants.{Item, Part, Back, Token}

-- the tokens alone
abbrev pub tokens_of : List Event → Toks
tokens_of [] = []
tokens_of (Item name level ∷ es) = tokens_of es
tokens_of (Part level ∷ es) = tokens_of es
tokens_of (Back level ∷ es) = tokens_of es
tokens_of (Token t ∷ es) = t ∷ tokens_of es

-- the events of what stands at a level
abbrev pub Laid : Type 0
Laid = ℕ → List Event

abbrev pub said : Toks → List Event
said ts = map Token ts

-- a named item in one of this level
abbrev pub child : Laid → Laid
child f level = f (level + 1) ++ Back level ∷ []

-- with a semicolon before each
abbrev pub more : List Laid → Laid
more fs level = flat (map (λ f. Token semicolon_sign ∷ f level) fs)

-- with semicolons between
abbrev pub sequence : List Laid → Laid
sequence [] level = []
sequence (f ∷ fs) level = f level ++ more fs level

-- with a semicolon behind each
abbrev pub ended : List Laid → Laid
ended fs level = flat (map (λ f. f level ++ Token semicolon_sign ∷ []) fs)

-- ---- statements: one layer of the tree, whose parts stand there as their events

abbrev pub label_tokens : Option ℕ → Toks
label_tokens None = []
label_tokens (Some n) = Number n ∷ colon_sign ∷ []

abbrev pub direction : Bool → TokenKind
direction down = if down then downto_word else to_word

-- what stands before the first statement in a statement
abbrev pub tested : TokenKind → Expr → TokenKind → List Event
tested word e last = said (word ∷ expr_tokens e ++ last ∷ [])

abbrev pub range : List ℕ → Expr → Bool → Expr → Toks
range x first down last = for_word ∷ Ident x ∷ becomes_sign ∷ expr_tokens first ++ direction down ∷ expr_tokens last ++ do_word ∷ []

abbrev pub else_part : Option Laid → Laid
else_part None level = []
else_part (Some f) level = Token else_word ∷ child f level

abbrev pub in_kind : StmtKind-F Laid Laid Laid → Laid
in_kind StmtKind-F.Empty level = []
in_kind (StmtKind-F.Assign a e) level = said (access_tokens a ++ becomes_sign ∷ expr_tokens e)
in_kind (StmtKind-F.Call x args) level = said (Ident x ∷ args_tokens args)
in_kind (StmtKind-F.Goto n) level = said (goto_word ∷ Number n ∷ [])
in_kind (StmtKind-F.Compound fs) level = Token begin_word ∷ sequence (map child fs) level ++ Token end_word ∷ []
in_kind (StmtKind-F.If e f g) level = tested if_word e then_word ++ child f level ++ else_part g level
in_kind (StmtKind-F.Case e arms) level = tested case_word e of_word ++ sequence arms level ++ Token end_word ∷ []
in_kind (StmtKind-F.While e f) level = tested while_word e do_word ++ child f level
in_kind (StmtKind-F.Repeat fs e) level = Token repeat_word ∷ sequence (map child fs) level ++ said (until_word ∷ expr_tokens e)
in_kind (StmtKind-F.For x first down last f) level = said (range x first down last) ++ child f level
in_kind (StmtKind-F.With records f) level = said (with_word ∷ accesses_tokens records ++ do_word ∷ []) ++ child f level

-- the arm is no item of its own: its statement is a child of the `case` statement
abbrev pub in_arm : Arm-F Laid Laid Laid → Laid
in_arm a level = said (constants_tokens a.constants ++ colon_sign ∷ []) ++ child a.body level

abbrev pub in_stmt : Stmt-F Laid Laid Laid → Laid
in_stmt s level = Item s.name level ∷ said (label_tokens s.label) ++ s.kind level

unfoldable pub stmt_events : Stmt → Laid
stmt_events = fold-Stmt Laid Laid Laid in_kind in_arm in_stmt

unfoldable pub kind_events : StmtKind → Laid
kind_events = fold-StmtKind Laid Laid Laid in_kind in_arm in_stmt

unfoldable pub arm_events : Arm → Laid
arm_events = fold-Arm Laid Laid Laid in_kind in_arm in_stmt

-- ---- blocks, where the level is that of the item whose block it is

abbrev pub decl_events : Decl → Laid
decl_events d level = Item d.name level ∷ said (decl_tokens d.kind)

-- a declaration in an item of this level
abbrev pub declaration : Decl → Laid
declaration d = child (decl_events d)

-- a part with its word, or nothing where there is no declaration
abbrev pub part : TokenKind → List Decl → Laid
part word [] level = []
part word (d ∷ ds) level = Part level ∷ Token word ∷ ended (map declaration (d ∷ ds)) level

abbrev pub labels : Option Decl → Laid
labels None level = []
labels (Some d) level = part label_word (d ∷ []) level

abbrev pub parts : Option Decl → List Decl → List Decl → List Decl → Laid
parts ls consts types vars level = labels ls level ++ part const_word consts level ++ part type_word types level ++ part var_word vars level

abbrev pub in_block : Block-F Laid Laid → Laid
in_block b level = parts b.labels b.consts b.types b.vars level ++ ended (map child b.routines) level ++ child (stmt_events b.body) level

-- ---- routines

abbrev pub block_or_forward : Option Laid → Laid
block_or_forward None level = Token (Ident (codes "forward")) ∷ []
block_or_forward (Some f) level = f level

abbrev pub in_routine : Routine-F Laid Laid → Laid
in_routine r level = Item r.name level ∷ said (heading_tokens r.heading ++ semicolon_sign ∷ []) ++ block_or_forward r.block level

unfoldable pub block_events : Block → Laid
block_events = fold-Block Laid Laid in_block in_routine

unfoldable pub routine_events : Routine → Laid
routine_events = fold-Routine Laid Laid in_block in_routine

-- ---- programs

-- the name of the program itself
abbrev pub program_name : Name
program_name = record { 0 = 1 }

abbrev pub heading : Tree → Toks
heading p = program_word ∷ Ident p.ident ∷ in_parens comma_sign (map ident_tokens p.files) ++ semicolon_sign ∷ []

abbrev pub program_events : Tree → List Event
program_events p = Item program_name 0 ∷ said (heading p) ++ block_events p.block 0 ++ Token period_sign ∷ []

abbrev pub program_tokens : Tree → Toks
program_tokens p = tokens_of (program_events p)

abbrev pub statement_tokens : Stmt → Toks
statement_tokens s = tokens_of (stmt_events s 0)
