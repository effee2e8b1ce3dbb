-- A listing without names is read back.
use Rattle.std.specs.Prelude.{◌≡◌, ℕ, ◌-◌, Bool, true, false, [], Result}
use Rattle.std.proofs.Common.{refl, sym, ap, subst, ◌∙◌}
use Rattle.std.specs.List.{AllByRecursion}
use Rattle.dice_base.specs.Lexemes.{Lexes}
use Rattle.dice_base.specs.Tokens.{Toks, Classes, end_of_tokens, is_in}
use Rattle.dice_base.specs.Forms.{Form}
use Rattle.pascal_tree.specs.declared.levels.TheConstants.{LEVELS}
use Rattle.pascal_tree.specs.declared.stmt.Stmt.{Stmt}
use Rattle.pascal_tree.specs.declared.program.Tree.{Tree}
use Rattle.pascal_tree.specs.Statements.{stmt_at}
use Rattle.pascal_tree.specs.Programs.{Derives}
use Rattle.pascal_tree.specs.Unnamed.{unnamed_stmt, unnamed_program}
use Rattle.pascal_tree.specs.Sources.{HasSource, HasStatementSource}
use Rattle.token_reader.specs.declared.stop.Stop.{Stop}
use Rattle.token_reader.specs.Readers.{Parser}
use Rattle.token_reader.proofs.Laws.{One}
use Rattle.statement_parser.specs.Readers.{body_in}
use Rattle.statement_parser.specs.Follows.{follows}
use Rattle.statement_parser.proofs.StmtLevels.{stmt_laws, body_laws, body_slow, body_steady}
use Rattle.block_parser.specs.Follows.{block_ends}
use Rattle.block_parser.proofs.BlockLevels.{program_laws}
use Rattle.pascal_scanner.proofs.Onward.{Lexes-one}
use Rattle.tree_listing.specs.Events.{program_tokens, statement_tokens}
use Rattle.tree_listing.specs.Listing.{listing, statement_listing}
use Rattle.own_tokens.proofs.Written.{own-spell, own-among}
use Rattle.own_tokens.proofs.ProgramWritten.{stmt-written, program-derives, program-among}
use Rattle.pascal_print.specs.ReadsBack.{ReadsBack, StatementReadsBack}
use Rattle.token_texts.proofs.Gaps.{spaced-lexes}
use Rattle.token_texts.proofs.Spellings.{IsSpelt, lexes-spelt}
use Rattle.token_texts.proofs.Layouts.{listing-spaced, statement-spaced}
use Rattle.pascal_print.proofs.Unnamed.{stmt-tokens-unnamed, program-tokens-unnamed}

-- ---- at most one tree

-- what a reader takes where nothing follows
one-tree : {A : Type 0} {P L : Classes} {p : Parser A} {g : Form A} {D F : Bool → Classes} → One P L p g D F
    → ((w : Bool) → is_in (F w) end_of_tokens ≡ true)
    → (ts : Toks) (a b : A) (v w : Bool) → g.full a v ts → g.full b w ts → a ≡ b
one-tree {A} laws ends ts a b v w x y =
    let same = ap (λ (r : Result A Stop × Toks). r.0)
    (sym (laws.takes a v ts [] x (ends v)) ∙ laws.takes b w ts [] y (ends w)) in cc

one-program : (ts : Toks) (p q : Tree) → Derives p ts → Derives q ts → p ≡ q
one-program ts p q x y =
    one-tree (program_laws body_in (body_laws block_ends) body_slow body_steady (LEVELS - 1)).0
    (λ w. refl) ts p q false false x y

one-statement : (levels : ℕ) (ts : Toks) (x y : Stmt) (v w : Bool) → (stmt_at levels).full x v ts
    → (stmt_at levels).full y w ts → x ≡ y
one-statement levels ts x y v w a b = one-tree (stmt_laws levels).0 (ends) ts x y v w a b where
  ends : (w : Bool) → is_in (follows w) end_of_tokens ≡ true
  ends true = refl
  ends false = refl

-- ---- programs

-- a program that some tokens spell, names aside, is spelled by its own tokens
pub own-program : (p : Tree) (ts : Toks) → Derives (unnamed_program p) ts → Derives (unnamed_program p) (program_tokens p)
own-program p ts h =
    subst (λ (us : Toks). Derives (unnamed_program p) us) (program-tokens-unnamed p)
    (program-derives (unnamed_program p) ts h)

-- each token of a program that some text spells is read again as it is spelt
pub source-spelt : (p : Tree) → HasSource p → AllByRecursion IsSpelt (program_tokens p)
source-spelt p h =
    subst (λ (ts : Toks). AllByRecursion IsSpelt ts) (program-tokens-unnamed p)
    (program-among IsSpelt (unnamed_program p) h.tokens h.derives (lexes-spelt [] h.source h.tokens h.lexes))

-- its listing is read back
pub reads_back : (p : Tree) → HasSource p → ReadsBack p (listing false p)
reads_back p h =
    let lexes : Lexes (listing false p) (program_tokens p) = spaced-lexes (listing false p) (program_tokens p)
    (listing-spaced p (source-spelt p h)) in
    let derives = own-program p h.tokens h.derives in
    record {
      lexes = lexes;
      derives = derives;
      only = λ us other m e.
          one-program (program_tokens p) other (unnamed_program p)
          (subst (λ (ts : Toks). Derives other ts)
          (Lexes-one (listing false p) us (program_tokens p) m lexes) e) derives;
    }

-- ---- statements

statement-unnamed : (s : Stmt) → statement_tokens (unnamed_stmt s) ≡ statement_tokens s
statement-unnamed s = ((stmt-tokens-unnamed s).laid 0).same

-- at each number of levels, and open or not as it is
pub own-statement : (levels : ℕ) (s : Stmt) (w : Bool) (ts : Toks) → (stmt_at levels).full (unnamed_stmt s) w ts
    → (stmt_at levels).full (unnamed_stmt s) w (statement_tokens s)
own-statement levels s w ts h =
    subst (λ (us : Toks). (stmt_at levels).full (unnamed_stmt s) w us) (statement-unnamed s)
    (own-spell (stmt-written {P = λ t. Unit {0}} levels 0) (unnamed_stmt s) w ts h)

statement-spelt : (levels : ℕ) (s : Stmt) → HasStatementSource levels s → AllByRecursion IsSpelt (statement_tokens s)
statement-spelt levels s h =
    subst (λ (ts : Toks). AllByRecursion IsSpelt ts) (statement-unnamed s)
    (own-among (stmt-written levels 0) (unnamed_stmt s) h.flag h.tokens h.derives
    (lexes-spelt [] h.source h.tokens h.lexes))

pub statement_reads_back : (s : Stmt) → StatementReadsBack s (statement_listing s)
statement_reads_back s levels h =
    let lexes : Lexes (statement_listing s) (statement_tokens s) =
    spaced-lexes (statement_listing s) (statement_tokens s) (statement-spaced s (statement-spelt levels s h)) in
    let derives = own-statement levels s h.flag h.tokens h.derives in
    record {
      lexes = lexes;
      derives = derives;
      only = λ us other w m e.
          one-statement levels (statement_tokens s) other (unnamed_stmt s) w h.flag
          (subst (λ (ts : Toks). (stmt_at levels).full other w ts)
          (Lexes-one (statement_listing s) us (statement_tokens s) m lexes) e) derives;
    }
