-- A listing without names is a text of its tokens.
use Rattle.std.proofs.Common.{◌≡◌, ℕ, zero, suc, ◌*◌, Bool, true, false, cond, List, [], ◌∷◌, ◌++◌, None, Some, refl, sym, ap, subst, ◌∙◌, append_assoc}
use Rattle.std.specs.declared.option.Option.{Option}
use Rattle.std.specs.List.{AllByRecursion}
use Rattle.dice_base.specs.declared.token.TokenKind.{TokenKind}
use Rattle.dice_base.specs.Tokens.{Toks}
use Rattle.pascal_tree.specs.declared.stmt.Stmt.{Stmt, out-Stmt, map-Stmt}
use Rattle.pascal_tree.specs.declared.stmt.StmtKind.{StmtKind}
use Rattle.pascal_tree.specs.declared.stmt.Arm.{Arm}
use Rattle.pascal_tree.specs.declared.stmt.StmtKind.TheFolds.{fold_out-Stmt}
use Rattle.pascal_tree.specs.declared.program.Tree.{Tree}
use Rattle.tree_text.specs.Spelling.{spelling_of}
use Rattle.tree_listing.specs.declared.event.Event.{Event}
use Rattle.tree_listing.specs.declared.event.Event.TheVariants.{Item, Part, Back, Token}
use Rattle.tree_listing.specs.declared.event.Line.{Line}
use Rattle.tree_listing.specs.Events.{Laid, tokens_of, in_kind, in_arm, in_stmt, stmt_events, kind_events, arm_events, program_events, program_tokens, statement_tokens}
use Rattle.tree_listing.specs.Listing.{closes, begins, on_line, rest_of, listing_lines, blanks, spellings_after_blanks, spellings_of, plain_line, text_of_lines, listing, statement_listing}
use Rattle.dice_base.proofs.Appended.{all-left, all-right}
use Rattle.token_texts.proofs.Gaps.{OpensGap, Spaced, nothing, gap, puts}
use Rattle.token_texts.proofs.Spellings.{IsSpelt}

abbrev AreSpelt : Toks → Type 0
AreSpelt ts = AllByRecursion IsSpelt ts

-- ---- a line

blanks-spaced : (n : ℕ) (text : List ℕ) (us : Toks) → Spaced text us → Spaced (blanks n ++ text) us
blanks-spaced zero text us s = s
blanks-spaced (suc n) text us s = gap 32 (blanks n ++ text) us refl (blanks-spaced n text us s)

behind-opens : (ts : Toks) (text : List ℕ) → OpensGap (spellings_after_blanks ts ++ 10 ∷ text)
behind-opens [] text = refl
behind-opens (t ∷ ts) text = refl

behind-spaced : (ts : Toks) (text : List ℕ) (us : Toks) → AreSpelt ts → Spaced text us
    → Spaced (spellings_after_blanks ts ++ 10 ∷ text) (ts ++ us)
behind-spaced [] text us each s = gap 10 text us refl s
behind-spaced (t ∷ ts) text us each s =
    subst (λ (v : List ℕ). Spaced (32 ∷ v) (t ∷ (ts ++ us)))
    (sym (append_assoc (spelling_of t) (spellings_after_blanks ts) (10 ∷ text)))
    (gap 32 (spelling_of t ++ (spellings_after_blanks ts ++ 10 ∷ text)) (t ∷ (ts ++ us)) refl
    (puts (spelling_of t) (spellings_after_blanks ts ++ 10 ∷ text) t (ts ++ us) each.0 (behind-opens ts text)
    (behind-spaced ts text us each.1 s)))

spelled-spaced : (t : TokenKind) (ts : Toks) (text : List ℕ) (us : Toks) → AreSpelt (t ∷ ts) → Spaced text us
    → Spaced (spellings_of (t ∷ ts) ++ 10 ∷ text) (t ∷ (ts ++ us))
spelled-spaced t ts text us each s =
    subst (λ (v : List ℕ). Spaced v (t ∷ (ts ++ us)))
    (sym (append_assoc (spelling_of t) (spellings_after_blanks ts) (10 ∷ text)))
    (puts (spelling_of t) (spellings_after_blanks ts ++ 10 ∷ text) t (ts ++ us) each.0 (behind-opens ts text)
    (behind-spaced ts text us each.1 s))

line-parts : (a b text : List ℕ) → ((a ++ b) ++ 10 ∷ []) ++ text ≡ a ++ (b ++ 10 ∷ text)
line-parts a b text = append_assoc (a ++ b) (10 ∷ []) text ∙ append_assoc a b (10 ∷ text)

line-spaced : (level : ℕ) (ts : Toks) (text : List ℕ) (us : Toks) → AreSpelt ts → Spaced text us
    → Spaced (plain_line level ts ++ text) (ts ++ us)
line-spaced level [] text us each s = s
line-spaced level (t ∷ ts) text us each s =
    subst (λ (v : List ℕ). Spaced v (t ∷ (ts ++ us)))
    (sym (line-parts (blanks (2 * level)) (spellings_of (t ∷ ts)) text))
    (blanks-spaced (2 * level) (spellings_of (t ∷ ts) ++ 10 ∷ text) (t ∷ (ts ++ us))
    (spelled-spaced t ts text us each s))

-- ---- all lines

abbrev pub tokens_in : List Line → Toks
tokens_in [] = []
tokens_in (line ∷ lines) = line.tokens ++ tokens_in lines

lines-spaced : (lines : List Line) → AreSpelt (tokens_in lines) → Spaced (text_of_lines false lines) (tokens_in lines)
lines-spaced [] each = nothing
lines-spaced (line ∷ lines) each =
    line-spaced line.level line.tokens (text_of_lines false lines) (tokens_in lines)
    (all-left IsSpelt line.tokens (tokens_in lines) each)
    (lines-spaced lines (all-right IsSpelt line.tokens (tokens_in lines) each))

abbrev goes_on : TokenKind → List Event → ℕ → Bool → Toks × List Line
goes_on t es level b = cond b (on_line t (rest_of es (Some level))) (begins None level (on_line t (rest_of es None)))

-- no token is lost, and none is added
rest-tokens : (es : List Event) (back : Option ℕ) → (rest_of es back).0 ++ tokens_in (rest_of es back).1 ≡ tokens_of es
rest-tokens [] back = refl
rest-tokens (Item name level ∷ es) back = rest-tokens es None
rest-tokens (Part level ∷ es) back = rest-tokens es None
rest-tokens (Back level ∷ es) back = rest-tokens es (Some level)
rest-tokens (Token t ∷ es) None = ap (λ (ts : Toks). t ∷ ts) (rest-tokens es None)
rest-tokens (Token t ∷ es) (Some level) = go (closes t) (rest-tokens es None) (rest-tokens es (Some level)) where
  go : (b : Bool) → (rest_of es None).0 ++ tokens_in (rest_of es None).1 ≡ tokens_of es
      → (rest_of es (Some level)).0 ++ tokens_in (rest_of es (Some level)).1 ≡ tokens_of es
      → (goes_on t es level b).0 ++ tokens_in (goes_on t es level b).1 ≡ t ∷ tokens_of es
  go true fresh known = ap (λ (ts : Toks). t ∷ ts) known
  go false fresh known = ap (λ (ts : Toks). t ∷ ts) fresh

pub lines-tokens : (p : Tree) → tokens_in (listing_lines (program_events p)) ≡ program_tokens p
lines-tokens p = rest-tokens (program_events p) None

-- where each token is read again as it is spelt
pub listing-spaced : (p : Tree) → AllByRecursion IsSpelt (program_tokens p) → Spaced (listing false p)
    (program_tokens p)
listing-spaced p each =
    subst (λ (ts : Toks). Spaced (listing false p) ts) (lines-tokens p)
    (lines-spaced (listing_lines (program_events p))
    (subst (λ (ts : Toks). AllByRecursion IsSpelt ts) (sym (lines-tokens p)) each))

-- ---- the same of a statement

statement-tokens : (x : Stmt) → tokens_in (listing_lines (stmt_events x 0)) ≡ statement_tokens x
unfolding stmt_events kind_events arm_events
statement-tokens x =
    subst (λ (f : Laid). tokens_in (listing_lines (f 0)) ≡ tokens_of (f 0))
    (sym (fold_out-Stmt Laid Laid Laid in_kind in_arm in_stmt x))
    (rest-tokens
    (in_stmt (map-Stmt StmtKind Arm Stmt Laid Laid Laid kind_events arm_events stmt_events
    (out-Stmt x)) 0) None)

pub statement-spaced : (x : Stmt) → AllByRecursion IsSpelt (statement_tokens x) → Spaced (statement_listing x)
    (statement_tokens x)
statement-spaced x each =
    subst (λ (ts : Toks). Spaced (statement_listing x) ts) (statement-tokens x)
    (lines-spaced (listing_lines (stmt_events x 0))
    (subst (λ (ts : Toks). AllByRecursion IsSpelt ts) (sym (statement-tokens x)) each))
