-- The laws of statements, headers and bodies at each level, and at each two levels that come one after the other.
use Rattle.std.specs.Prelude.{ℕ, zero, suc, Bool, true, false, [], ◌∷◌}
use Rattle.std.proofs.Common.{refl}
use Rattle.pascal_tree.specs.declared.stmt.Stmt.{Stmt}
use Rattle.pascal_tree.specs.declared.stmt.StmtKind.{StmtKind}
use Rattle.dice_base.specs.Tokens.{Classes}
use Rattle.dice_base.specs.Forms.{Form, chain, just, list_of}
use Rattle.token_reader.specs.declared.stop.Stop.TheVariants.{Deep}
use Rattle.token_reader.specs.Readers.{Parser, separated}
use Rattle.token_reader.proofs.Tables.{sub_same}
use Rattle.token_reader.proofs.Laws.{One, Local, stop_one, stop_local}
use Rattle.token_reader.proofs.Levels.{Slow, Steady, deep_steady}
use Rattle.token_reader.proofs.Loops.{list_rule}
use Rattle.token_reader.proofs.Rules.{Rule, Nothing, Alone, Pair, alone_rule, pair_rule, flags}
use Rattle.pascal_tree.specs.Classes.{begin_class, until_class, semicolon_class}
use Rattle.pascal_tree.specs.Expressions.{expr_at, factor_at}
use Rattle.pascal_tree.specs.Statements.{stmt_at, hole_form, header_at}
use Rattle.pascal_tree.specs.Programs.{body_at}
use Rattle.expression_parser.specs.Readers.{inside}
use Rattle.expression_parser.specs.Follows.{Any, expr_ends, factor_ends, factor_first, expr_first}
use Rattle.expression_parser.proofs.ExprLevels.{expr_laws, factor_laws, inners, exprs, factors, expr_pair, factor_pair, expr_steady, factor_steady}
use Rattle.statement_parser.specs.Readers.{stmt_in, hole, hole_list, header_in, body_in}
use Rattle.statement_parser.specs.Follows.{follows, shuts, stmt_first}
use Rattle.statement_parser.proofs.StmtRules.{stmt_rule, compound_to, hole_inner, hole_list_inner}

-- ---- the rules of expressions and factors one level further in, of one level and of two

expr_alone : (d : ℕ) → Rule Alone false [] expr_first (λ i. (inside d).expr) (λ i. expr_at d) Nothing (Any expr_ends)
expr_alone d = alone_rule (expr_laws d).0 (expr_laws d).1

factor_alone : (d : ℕ) → Rule Alone false [] factor_first (λ i. (inside d).factor) (λ i. factor_at d)
    Nothing (Any factor_ends)
factor_alone d = alone_rule (factor_laws d).0 (factor_laws d).1

expr_both : (d : ℕ) → Rule Pair false [] expr_first (λ i. (inners d i).expr) (exprs d) Nothing (Any expr_ends)
expr_both d = expr_pair d (expr_steady d)

factor_both : (d : ℕ) → Rule Pair false [] factor_first (λ i. (inners d i).factor) (factors d) Nothing (Any factor_ends)
factor_both d = factor_pair d (factor_steady d)

-- ---- statements

abbrev pub StmtLaws : ℕ → Type 0
StmtLaws d = One [] stmt_first (stmt_in d) (stmt_at d) shuts follows × Local (stmt_in d)

-- the statements of a `repeat`
module _ {I : Type 0} {R : I → I → Type 0} {stmt : I → Parser Stmt} {S : I → Form Stmt} where
  list_to : Rule R false [] stmt_first stmt S shuts follows → Rule R false [] stmt_first
      (λ i. separated semicolon_class (stmt i)) (λ i. list_of semicolon_class (S i)) Nothing (Any (until_class ∷ []))
  list_to inner = list_rule semicolon_class (until_class ∷ []) inner (flags _ refl refl)

-- the rule of one level, over the laws of the level further in
abbrev stmt_next : (d : ℕ) → StmtLaws d
    → Rule Alone true [] stmt_first (λ i. stmt_in (suc d)) (λ i. stmt_at (suc d)) shuts follows
unfolding inside expr_at factor_at stmt_in stmt_at
stmt_next d laws =
    stmt_rule (λ i. inside d) (λ i. expr_at d) (λ i. factor_at d) (expr_alone d) (factor_alone d)
    (λ i. stmt_in d) (λ i. stmt_at d) (alone_rule laws.0 laws.1)
    (λ i. separated semicolon_class (stmt_in d)) (λ i. list_of semicolon_class (stmt_at d))
    (list_to (alone_rule laws.0 laws.1))

pub stmt_laws : (d : ℕ) → StmtLaws d
unfolding stmt_in stmt_at
stmt_laws zero = (stop_one Deep [] stmt_first shuts follows, stop_local Deep)
stmt_laws (suc d) = let r = stmt_next d (stmt_laws d) in (r.laws tt, r.local tt)

-- where a level is left, it is too deep only behind a token
pub stmt_slow : (d : ℕ) → Slow (stmt_in (suc d))
stmt_slow d = (stmt_next d (stmt_laws d)).slow refl tt

abbrev pub stmt_readers : ℕ → Bool → Parser Stmt
stmt_readers d false = stmt_in d
stmt_readers d true = stmt_in (suc d)

abbrev pub stmts : ℕ → Bool → Form Stmt
stmts d false = stmt_at d
stmts d true = stmt_at (suc d)

pub stmt_pair : (d : ℕ) → Steady (stmt_in d) (stmt_in (suc d))
    → Rule Pair false [] stmt_first (stmt_readers d) (stmts d) shuts follows
stmt_pair d steady =
    pair_rule (stmt_readers d) (stmts d) (stmt_laws d).0 (stmt_laws d).1 (stmt_laws (suc d)).0 (stmt_laws (suc d)).1
    (stmt_slow d) steady

pub stmt_steady : (d : ℕ) → Steady (stmt_in d) (stmt_in (suc d))
unfolding inside stmt_in
stmt_steady zero = deep_steady (stmt_in (suc zero)) (stmt_laws (suc zero)).1 (stmt_slow zero)
stmt_steady (suc d) =
    (stmt_rule (inners d) (exprs d) (factors d) (expr_both d) (factor_both d)
    (stmt_readers d) (stmts d) (stmt_pair d (stmt_steady d))
    (λ i. separated semicolon_class (stmt_readers d i)) (λ i. list_of semicolon_class (stmts d i))
    (list_to (stmt_pair d (stmt_steady d)))).steady false true (refl, refl)

-- ---- headers, whose parts are holes at each level

abbrev pub HeaderLaws : ℕ → Type 0
HeaderLaws d = One [] stmt_first (header_in d) (header_at d) shuts follows × Local (header_in d)

abbrev header_next : (d : ℕ)
    → Rule Alone true [] stmt_first (λ i. header_in (suc d)) (λ i. header_at (suc d)) shuts follows
unfolding inside expr_at factor_at header_in header_at
header_next d =
    stmt_rule (λ i. inside d) (λ i. expr_at d) (λ i. factor_at d) (expr_alone d) (factor_alone d)
    (λ i. hole) (λ i. hole_form) hole_inner
    (λ i. hole_list) (λ i. chain hole_form (λ x _. just (x ∷ []) false)) hole_list_inner

pub header_laws : (d : ℕ) → HeaderLaws d
unfolding header_in header_at
header_laws zero = (stop_one Deep [] stmt_first shuts follows, stop_local Deep)
header_laws (suc d) = ((header_next d).laws tt, (header_next d).local tt)

pub header_slow : (d : ℕ) → Slow (header_in (suc d))
header_slow d = (header_next d).slow refl tt

pub header_steady : (d : ℕ) → Steady (header_in d) (header_in (suc d))
unfolding inside header_in
header_steady zero = deep_steady (header_in (suc zero)) (header_laws (suc zero)).1 (header_slow zero)
header_steady (suc d) =
    (stmt_rule (inners d) (exprs d) (factors d) (expr_both d) (factor_both d)
    (λ i. hole) (λ i. hole_form) hole_inner
    (λ i. hole_list) (λ i. chain hole_form (λ x _. just (x ∷ []) false)) hole_list_inner).steady false true (refl, refl)

-- ---- bodies, which end with a word, so what may follow is for the user to say

module _ (F : Classes) where
  abbrev pub BodyLaws : ℕ → Type 0
  BodyLaws d = One [] (begin_class ∷ []) (body_in d) (body_at d) Nothing (Any F) × Local (body_in d)

  abbrev body_next : (d : ℕ)
      → Rule Alone true [] (begin_class ∷ []) (λ i. body_in (suc d)) (λ i. body_at (suc d)) Nothing (Any F)
  unfolding inside expr_at factor_at body_in body_at
  body_next d =
      compound_to (λ i. inside d) (λ i. expr_at d) (λ i. factor_at d) (expr_alone d) (factor_alone d)
      (λ i. stmt_in d) (λ i. stmt_at d) (alone_rule (stmt_laws d).0 (stmt_laws d).1)
      (λ i. separated semicolon_class (stmt_in d)) (λ i. list_of semicolon_class (stmt_at d))
      (list_to (alone_rule (stmt_laws d).0 (stmt_laws d).1)) Nothing (Any F) (sub_same [])

  pub body_laws : (d : ℕ) → BodyLaws d
  unfolding body_in body_at
  body_laws zero = (stop_one Deep [] (begin_class ∷ []) Nothing (Any F), stop_local Deep)
  body_laws (suc d) = ((body_next d).laws tt, (body_next d).local tt)

pub body_slow : (d : ℕ) → Slow (body_in (suc d))
body_slow d = (body_next [] d).slow refl tt

pub body_steady : (d : ℕ) → Steady (body_in d) (body_in (suc d))
unfolding inside body_in
body_steady zero = deep_steady (body_in (suc zero)) (body_laws [] (suc zero)).1 (body_slow zero)
body_steady (suc d) =
    (compound_to (inners d) (exprs d) (factors d) (expr_both d) (factor_both d)
    (stmt_readers d) (stmts d) (stmt_pair d (stmt_steady d))
    (λ i. separated semicolon_class (stmt_readers d i)) (λ i. list_of semicolon_class (stmts d i))
    (list_to (stmt_pair d (stmt_steady d))) Nothing (Any []) (sub_same [])).steady false true (refl, refl)

abbrev pub body_readers : ℕ → Bool → Parser StmtKind
body_readers d false = body_in d
body_readers d true = body_in (suc d)

abbrev pub bodies : ℕ → Bool → Form StmtKind
bodies d false = body_at d
bodies d true = body_at (suc d)

pub body_pair : (F : Classes) (d : ℕ)
    → Rule Pair false [] (begin_class ∷ []) (body_readers d) (bodies d) Nothing (Any F)
body_pair F d =
    pair_rule (body_readers d) (bodies d) (body_laws F d).0 (body_laws F d).1
    (body_laws F (suc d)).0 (body_laws F (suc d)).1 (body_slow d) (body_steady d)
