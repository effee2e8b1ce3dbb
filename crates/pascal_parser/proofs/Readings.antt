-- What each call answers is what holds of the tokens, by the laws of its reader at each level.
use Rattle.std.specs.Prelude.{◌≡◌, ℕ, ◌-◌, Bool, true, Result, Ok, Err, IfOk}
use Rattle.std.proofs.Common.{refl, sym, ap, subst, ◌∙◌}
use Rattle.std.specs.List.{AllByRecursion}
use Rattle.dice_base.specs.Tokens.{Toks}
use Rattle.dice_base.specs.Forms.{Form}
use Rattle.pascal_tree.specs.declared.stmt.Stmt.{Stmt}
use Rattle.pascal_tree.specs.declared.decl.Decl.{Decl}
use Rattle.pascal_tree.specs.declared.decl.Heading.{Heading}
use Rattle.pascal_tree.specs.declared.program.Header.{Header}
use Rattle.pascal_tree.specs.declared.levels.TheConstants.{LEVELS}
use Rattle.pascal_tree.specs.Declarations.{decl_at}
use Rattle.pascal_tree.specs.declared.decl.Routine.{Routine}
use Rattle.pascal_tree.specs.declared.program.Tree.{Tree}
use Rattle.pascal_tree.specs.Naming.{numbered_program}
use Rattle.pascal_tree.specs.Programs.{program_at, routine_at}
use Rattle.pascal_tree.specs.Statements.{stmt_at, header_at}
use Rattle.pascal_tree.specs.Formed.{heading_is_formed, is_formed, is_formed_stmt, is_formed_decl, is_formed_routine}
use Rattle.pascal_tree.specs.Sources.{HasLexeme}
use Rattle.token_reader.specs.Faults.{read_whole}
use Rattle.token_reader.specs.Answers.{Answers, Makes, Says, IsReading}
use Rattle.token_reader.specs.declared.fault.ParseFault.{ParseFault}
use Rattle.token_reader.proofs.Reading.{is_reading}
use Rattle.token_reader.proofs.Rules.{flags}
use Rattle.declaration_parser.specs.Readers.{decl}
use Rattle.declaration_parser.proofs.DeclLevels.{decl_laws, decl_steady, heading_laws, heading_steady}
use Rattle.block_parser.specs.Readers.{program_in, routine_in}
use Rattle.block_parser.specs.Follows.{block_ends}
use Rattle.block_parser.proofs.BlockLevels.{program_laws, program_steady, routine_laws, routine_steady}
use Rattle.statement_parser.specs.Readers.{stmt_in, header_in, body_in}
use Rattle.statement_parser.proofs.StmtLevels.{stmt_laws, stmt_steady, header_laws, header_steady, body_laws, body_slow, body_steady}
use Rattle.tree_laws.proofs.Formed.{program-read, stmt-read, decl-read, heading-read, routine-read}
use Rattle.tree_laws.proofs.Numbered.{numbered-program, numbered-stmt, numbered-routine}
use Rattle.pascal_parser.specs.Headings.{heading_at, heading_in}
use Rattle.pascal_parser.specs.Named.{named_stmt, named_decl, named_header, named_routine}

pub stmt_reading : (ts : Toks) (r : Result Stmt ParseFault) (result : Result Stmt ParseFault) → Answers (read_whole stmt_in LEVELS ts) r → Makes named_stmt r result
    → IsReading stmt_at LEVELS named_stmt ts result
stmt_reading ts = is_reading stmt_in stmt_at (λ d. (stmt_laws d).0) (λ d. (stmt_laws d).1) stmt_steady (flags _ refl refl) named_stmt LEVELS ts

pub header_reading : (ts : Toks) (r : Result Stmt ParseFault) (result : Result Header ParseFault) → Answers (read_whole header_in LEVELS ts) r → Makes named_header r result
    → IsReading header_at LEVELS named_header ts result
header_reading ts = is_reading header_in header_at (λ d. (header_laws d).0) (λ d. (header_laws d).1) header_steady (flags _ refl refl) named_header LEVELS ts

pub decl_reading : (ts : Toks) (r : Result Decl ParseFault) (result : Result Decl ParseFault) → Answers (read_whole decl LEVELS ts) r → Makes named_decl r result
    → IsReading decl_at LEVELS named_decl ts result
decl_reading ts = is_reading decl decl_at (λ d. (decl_laws d).0) (λ d. (decl_laws d).1) decl_steady (flags _ refl refl) named_decl LEVELS ts

-- a result is made of itself where nothing is named
same_made : {A : Type 0} (r : Result A ParseFault) → Makes (λ a. a) r r
same_made (Ok a) = refl
same_made (Err e) = refl

pub heading_reading : (ts : Toks) (r : Result Heading ParseFault) → Answers (read_whole heading_in LEVELS ts) r → IsReading heading_at LEVELS (λ h. h) ts r
unfolding heading_in heading_at
heading_reading ts r e = is_reading heading_in heading_at (λ d. heading_laws.0) (λ d. heading_laws.1) (λ d. heading_steady) (flags _ refl refl) (λ h. h) LEVELS ts r r e (same_made r)

pub program_reading : (ts : Toks) (r : Result Tree ParseFault) (result : Result Tree ParseFault) → Answers (read_whole (program_in body_in) (LEVELS - 1) ts) r → Makes numbered_program r result
    → IsReading program_at (LEVELS - 1) numbered_program ts result
program_reading ts =
    is_reading (program_in body_in) program_at (λ d. (program_laws body_in (body_laws block_ends) body_slow body_steady d).0) (λ d. (program_laws body_in (body_laws block_ends) body_slow body_steady d).1)
    (program_steady body_in (body_laws block_ends) body_slow body_steady) (flags _ refl refl) numbered_program (LEVELS - 1) ts

pub routine_reading : (ts : Toks) (r : Result Routine ParseFault) (result : Result Routine ParseFault) → Answers (read_whole (routine_in body_in) LEVELS ts) r → Makes named_routine r result
    → IsReading routine_at LEVELS named_routine ts result
routine_reading ts =
    is_reading (routine_in body_in) routine_at (λ d. (routine_laws body_in (body_laws block_ends) body_slow body_steady d).0) (λ d. (routine_laws body_in (body_laws block_ends) body_slow body_steady d).1)
    (routine_steady body_in (body_laws block_ends) body_slow body_steady) (flags _ refl refl) named_routine LEVELS ts

-- ---- what is read of tokens that a text has is formed

said-formed : {A B : Type 0} (Q : B → Type 0) (g : ℕ → Form A) (n : ℕ) (make : A → B) (ts : Toks)
    → ((a : A) (w : Bool) → (g n).full a w ts → Q (make a)) → (result : Result B ParseFault) → Says g n make ts result
    → IfOk result Q
said-formed Q g n make ts formed (Ok b) s = subst Q (sym s.3) (formed s.0 s.1 s.2)
said-formed Q g n make ts formed (Err e) s = tt

pub stmt_formed : (ts : Toks) (result : Result Stmt ParseFault) → AllByRecursion HasLexeme ts
    → IsReading stmt_at LEVELS named_stmt ts result → IfOk result (λ s. is_formed_stmt s ≡ true)
stmt_formed ts result each is =
    said-formed (λ s. is_formed_stmt s ≡ true) stmt_at LEVELS named_stmt ts (λ s w h. numbered-stmt s 1 ∙ stmt-read s w ts h each) result is.says

pub decl_formed : (ts : Toks) (result : Result Decl ParseFault) → AllByRecursion HasLexeme ts
    → IsReading decl_at LEVELS named_decl ts result → IfOk result (λ d. is_formed_decl d ≡ true)
decl_formed ts result each is =
    said-formed (λ d. is_formed_decl d ≡ true) decl_at LEVELS named_decl ts (λ d w h. decl-read d w ts h each) result is.says

pub heading_formed : (ts : Toks) (result : Result Heading ParseFault) → AllByRecursion HasLexeme ts
    → IsReading heading_at LEVELS (λ h. h) ts result → IfOk result (λ h. heading_is_formed h ≡ true)
unfolding heading_at
heading_formed ts result each is =
    said-formed (λ h. heading_is_formed h ≡ true) heading_at LEVELS (λ h. h) ts (λ h w k. heading-read h w ts k each) result is.says

pub routine_formed : (ts : Toks) (result : Result Routine ParseFault) → AllByRecursion HasLexeme ts
    → IsReading routine_at LEVELS named_routine ts result → IfOk result (λ r. is_formed_routine r ≡ true)
routine_formed ts result each is =
    said-formed (λ r. is_formed_routine r ≡ true) routine_at LEVELS named_routine ts (λ r w h. numbered-routine r 1 ∙ routine-read r w ts h each) result is.says

-- a program, before its items have names
pub program_formed : (ts : Toks) (r : Result Tree ParseFault) → AllByRecursion HasLexeme ts
    → Answers (read_whole (program_in body_in) (LEVELS - 1) ts) r → IfOk r (λ p. is_formed p ≡ true)
program_formed ts r each e =
    let is =
    is_reading (program_in body_in) program_at (λ d. (program_laws body_in (body_laws block_ends) body_slow body_steady d).0) (λ d. (program_laws body_in (body_laws block_ends) body_slow body_steady d).1)
    (program_steady body_in (body_laws block_ends) body_slow body_steady) (flags _ refl refl) (λ p. p) (LEVELS - 1) ts r r e (same_made r) in
    said-formed (λ p. is_formed p ≡ true) program_at (LEVELS - 1) (λ p. p) ts (λ p w h. program-read p w ts h each) r is.says

-- and so it is with their names
pub named_formed : (p q : Tree) → q ≡ numbered_program p → is_formed p ≡ true → is_formed q ≡ true
named_formed p q is e = ap is_formed is ∙ numbered-program p ∙ e
