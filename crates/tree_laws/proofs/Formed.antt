-- A tree is formed exactly where some tokens of a text spell it, names aside.
use Rattle.std.specs.Prelude.{◌≡◌, ℕ, ◌-◌, ◌≤◌, leb, Bool, true, ◌&&◌, map}
use Rattle.std.specs.List.{AllByRecursion}
use Rattle.pascal_tree.specs.FormedExprs.{is_identifier, all_formed}
use Rattle.std.proofs.Common.{sym, ap, subst, ◌∙◌, leb-true, le-leb}
use Rattle.std.specs.Bool.{Decides}
use Rattle.pascal_tree.specs.declared.levels.TheConstants.{LEVELS}
use Rattle.pascal_tree.specs.declared.stmt.Stmt.{Stmt}
use Rattle.pascal_tree.specs.declared.decl.Decl.{Decl}
use Rattle.pascal_tree.specs.declared.decl.Heading.{Heading}
use Rattle.pascal_tree.specs.declared.decl.Routine.{Routine}
use Rattle.pascal_tree.specs.declared.program.Tree.{Tree}
use Rattle.dice_base.specs.Tokens.{Toks}
use Rattle.pascal_tree.specs.Declarations.{decl_at, heading_form}
use Rattle.pascal_tree.specs.Statements.{stmt_at}
use Rattle.pascal_tree.specs.Programs.{routine_at, program_at}
use Rattle.pascal_tree.specs.Sources.{HasLexeme}
use Rattle.pascal_tree.specs.Unnamed.{unnamed_stmt, unnamed_decl, unnamed_routine, unnamed_program}
use Rattle.pascal_tree.specs.Formed.{routine_is_formed, stmt_is_formed, decl_is_formed, heading_is_formed, is_formed, is_formed_stmt, is_formed_decl, is_formed_routine}
use Rattle.pascal_tree.specs.Openness.{routine_is_paired, Ending, is_open, stmt_ending}
use Rattle.pascal_tree.specs.Depth.{stmt_depth, decl_depth, routine_depth, tree_levels}
use Rattle.tree_laws.specs.Spelled.{IsSpelled, IsSpelledStmt, IsSpelledDecl, IsSpelledRoutine, IsSpelledHeading}
use Rattle.expression_laws.proofs.Words.{and-parts, and-true}
use Rattle.expression_laws.proofs.Gives.{Fits}
use Rattle.tree_laws.proofs.StmtLayers.{stmt_is_whole}
use Rattle.tree_laws.proofs.StmtGives.{stmt-gives}
use Rattle.tree_laws.proofs.StmtSpells.{stmt-spelled}
use Rattle.tree_laws.proofs.DeclGives.{decl-gives, heading-gives}
use Rattle.tree_laws.proofs.DeclSpells.{decl-spelled, heading-spelled}
use Rattle.tree_laws.proofs.BlockGives.{ProgramFits, program-gives, routine-gives}
use Rattle.tree_laws.proofs.BlockSpells.{program-spelled, routine-spelled}
use Rattle.tree_laws.proofs.Nameless.{stmt-formed, stmt-levels, stmt-ends, block-formed, block-levels, block-paired, routine-formed, routine-levels, routine-paired}
use Rattle.tree_laws.proofs.BlockLayers.{routine_is_whole}

-- ---- a test of three

three-true : (a b : Bool) (n : ℕ) → a ≡ true → b ≡ true → n ≤ LEVELS → (a && b && leb n LEVELS) ≡ true
three-true a b n p q h = and-true _ _ (and-true a b p q) (le-leb n LEVELS h)

-- ---- what tokens of a text spell

pub program-read : (p : Tree) (w : Bool) (ts : Toks) → (program_at (LEVELS - 1)).full p w ts → AllByRecursion HasLexeme ts
    → is_formed p ≡ true
program-read p w ts h each =
    let f = (program-gives 63).given p w ts h each in
    three-true _ _ (tree_levels p) f.is_formed f.is_paired f.levels

pub stmt-read : (x : Stmt) (w : Bool) (ts : Toks) → (stmt_at LEVELS).full x w ts → AllByRecursion HasLexeme ts
    → is_formed_stmt x ≡ true
stmt-read x w ts h each =
    let f = ((stmt-gives LEVELS).given x w ts h each).fits in
    and-true (stmt_is_whole x) (leb (stmt_depth x) LEVELS) f.is_formed (le-leb (stmt_depth x) LEVELS f.levels)

pub decl-read : (d : Decl) (w : Bool) (ts : Toks) → (decl_at LEVELS).full d w ts → AllByRecursion HasLexeme ts
    → is_formed_decl d ≡ true
decl-read d w ts h each =
    let f = (decl-gives LEVELS).given d w ts h each in
    and-true (decl_is_formed d.kind) (leb (decl_depth d.kind) LEVELS) f.is_formed
    (le-leb (decl_depth d.kind) LEVELS f.levels)

pub heading-read : (h : Heading) (w : Bool) (ts : Toks) → heading_form.full h w ts → AllByRecursion HasLexeme ts
    → heading_is_formed h ≡ true
heading-read h w ts k each = heading-gives.given h w ts k each

pub routine-read : (r : Routine) (w : Bool) (ts : Toks) → (routine_at LEVELS).full r w ts → AllByRecursion HasLexeme ts
    → is_formed_routine r ≡ true
routine-read r w ts h each =
    let f = (routine-gives LEVELS).given r w ts h each in
    and-true (routine_is_whole r) (leb (routine_depth r) LEVELS) f.is_formed
    (le-leb (routine_depth r) LEVELS f.levels)

-- ---- programs

abbrev program_fits : Tree → Type 0
program_fits p = ProgramFits LEVELS p

program-same : (p : Tree) → program_fits (unnamed_program p) → program_fits p
program-same p f = record {
  is_formed = subst (λ b. (is_identifier p.ident && all_formed (map is_identifier p.files) && b) ≡ true)
      (block-formed p.block) f.is_formed;
  is_paired = sym (block-paired p.block) ∙ f.is_paired;
  levels = subst (λ n. n ≤ LEVELS) (block-levels p.block) f.levels;
}

pub programs : (p : Tree) → Decides (is_formed p) (IsSpelled p)
programs p = (
  λ e.
      (let (f, n) = and-parts _ _ e in
      let (g, q) = and-parts _ _ f in
      let r =
      program-spelled 63 p (record { is_formed = g; is_paired = q; levels = leb-true (tree_levels p) LEVELS n }) in
      record { tokens = r.tokens; holds = r.spell; each = r.each }),
  λ h.
      (let f = program-same p ((program-gives 63).given (unnamed_program p) _ h.tokens h.holds h.each) in
      three-true _ _ (tree_levels p) f.is_formed f.is_paired f.levels),
)

-- ---- statements

stmt-whole : (x : Stmt) → Fits stmt_is_whole stmt_depth LEVELS (unnamed_stmt x)
    → Fits stmt_is_whole stmt_depth LEVELS x
stmt-whole x f = record {
  is_formed =
      (let (p, q) = and-parts (stmt_is_formed (unnamed_stmt x))
      (stmt_ending (unnamed_stmt x)).is_paired f.is_formed in
      and-true (stmt_is_formed x) (stmt_ending x).is_paired (sym (stmt-formed x) ∙ p)
      (sym (ap (λ (e : Ending). e.is_paired) (stmt-ends x)) ∙ q));
  levels = subst (λ n. n ≤ LEVELS) (stmt-levels x) f.levels;
}

pub statements : (x : Stmt) → Decides (is_formed_stmt x) (IsSpelledStmt x)
statements x = (
  λ e.
      (let (f, n) = and-parts (stmt_is_whole x) (leb (stmt_depth x) LEVELS) e in
      let r = stmt-spelled LEVELS x (record { is_formed = f; levels = leb-true (stmt_depth x) LEVELS n }) in
      record { tokens = r.tokens; holds = (is_open x, r.spell); each = r.each }),
  λ h.
      (let f = stmt-whole x ((stmt-gives LEVELS).given (unnamed_stmt x) h.holds.0 h.tokens h.holds.1 h.each).fits in
      and-true (stmt_is_whole x) (leb (stmt_depth x) LEVELS) f.is_formed (le-leb (stmt_depth x) LEVELS f.levels)),
)

-- ---- declarations and headings

pub declarations : (d : Decl) → Decides (is_formed_decl d) (IsSpelledDecl d)
declarations d = (
  λ e.
      (let (f, n) = and-parts (decl_is_formed d.kind) (leb (decl_depth d.kind) LEVELS) e in
      let r = decl-spelled LEVELS d (record { is_formed = f; levels = leb-true (decl_depth d.kind) LEVELS n }) in
      record { tokens = r.tokens; holds = r.spell; each = r.each }),
  λ h.
      (let f = (decl-gives LEVELS).given (unnamed_decl d) _ h.tokens h.holds h.each in
      and-true (decl_is_formed d.kind) (leb (decl_depth d.kind) LEVELS) f.is_formed
      (le-leb (decl_depth d.kind) LEVELS f.levels)),
)

pub headings : (h : Heading) → Decides (heading_is_formed h) (IsSpelledHeading h)
headings h = (
  λ e. (let r = heading-spelled h e in record { tokens = r.tokens; holds = r.spell; each = r.each }),
  λ k. heading-gives.given h _ k.tokens k.holds k.each,
)

-- ---- routines

pub routines : (r : Routine) → Decides (is_formed_routine r) (IsSpelledRoutine r)
routines r = (
  λ e.
      (let (f, n) = and-parts (routine_is_whole r) (leb (routine_depth r) LEVELS) e in
      let s = routine-spelled LEVELS r (record { is_formed = f; levels = leb-true (routine_depth r) LEVELS n }) in
      record { tokens = s.tokens; holds = s.spell; each = s.each }),
  λ h.
      (let f = (routine-gives LEVELS).given (unnamed_routine r) _ h.tokens h.holds h.each in
      let (p, q) =
      and-parts (routine_is_formed (unnamed_routine r)) (routine_is_paired (unnamed_routine r)) f.is_formed in
      and-true (routine_is_whole r) (leb (routine_depth r) LEVELS)
      (and-true (routine_is_formed r) (routine_is_paired r) (sym (routine-formed r) ∙ p) (sym (routine-paired r) ∙ q))
      (le-leb (routine_depth r) LEVELS (subst (λ n. n ≤ LEVELS) (routine-levels r) f.levels))),
)
