-- The tokens of a text, written in the one way that a listing writes them, are the same tokens.
use Rattle.std.proofs.Common.{◌≡◌, ℕ, suc, ◌+◌, ◌^◌, ◌≤◌, ◌<◌, Bool, true, false, cond, ◌&&◌, ◌||◌, ◌==◌, List, [], ◌∷◌, length, map, codes, get_or, None, Some, refl, sym, ap, subst, ◌∙◌, arith, leb, leb-true, le-leb}
use Rattle.std.proofs.lemmas.Bool.{lt-leb}
use Rattle.std.specs.declared.option.Option.{Option}
use Rattle.std.specs.List.{AllByRecursion, position_from}
use Rattle.std.specs.Str.{bytes_eq}
use Rattle.std.specs.Fmt.{decimal}
use Rattle.std.specs.Cmp.Lexicographic.{same_text}
use Rattle.std.proofs.lemmas.Str.Parse.{IsNumeralModel, numerals_by_fold}
use Rattle.std.proofs.lemmas.Fmt.{decimal_nonempty, digits_decimal, digits_value-decimal}
use Rattle.std.specs.Int.{IsInRange}
use Rattle.dice_base.specs.declared.byte.ByteClass.{ByteClass}
use Rattle.dice_base.specs.declared.byte.ByteClass.TheVariants.{Letter, Digit, Separator, Mark}
use Rattle.dice_base.specs.declared.token.TokenKind.{TokenKind}
use Rattle.dice_base.specs.declared.token.TokenKind.TheVariants.{Number, Sign}
use Rattle.dice_base.specs.declared.symbols.TheConstants.{WORD_SYMBOLS, SIGNS}
use Rattle.dice_base.specs.Lexemes.{class, is_digit, word_byte, digit_byte, value_from, value_of, word_symbol, lower, named_by, named, sign_of, alternative_of, Lexeme, word, number, string, sign, alternative, hole, LexesTo, ends, skips, takes}
use Rattle.tree_text.specs.Spelling as spelling
use Rattle.tree_text.specs.Spelling.{spelling_of}
use Rattle.pascal_scanner.proofs.Signs.{some, by_alternative}

-- ---- the place of a text in a table

place-entry : (table : List (List ℕ)) (w : List ℕ) (i k : ℕ) → position_from (λ entry. bytes_eq entry w) i table
    ≡ some k → (n : ℕ) × (k ≡ i + n) × (get_or table n [] ≡ w)
place-entry [] w i k e = absurd cc
place-entry (s ∷ ss) w i k e = go (place-entry ss w (i + 1) k) (bytes_eq s w) refl e where
  go : (position_from (λ entry. bytes_eq entry w) (i + 1) ss ≡ some k → (n : ℕ) × (k ≡ i + 1 + n) ×
      (get_or ss n [] ≡ w)) → (b : Bool) → bytes_eq s w ≡ b
      → cond b (some i) (position_from (λ entry. bytes_eq entry w) (i + 1) ss) ≡ some k
      → (n : ℕ) × (k ≡ i + n) × (get_or (s ∷ ss) n [] ≡ w)
  go later true is known = let at : i ≡ k = cc in (0, omega (arith, at), same_text s w (sym is))
  go later false is known = let r = later known in (suc (r.0), omega (arith, r.1), r.2)

entry_at : (table : List (List ℕ)) (w : List ℕ) (k : ℕ) → position_from (λ entry. bytes_eq entry w) 0 table
    ≡ some k → get_or table k [] ≡ w
entry_at table w k e =
    let r = place-entry table w 0 k e in
    let same : k ≡ r.0 = omega (arith, r.1) in
    ap (λ n. get_or table n []) same ∙ r.2

word-spelling : (w : List ℕ) (k : ℕ) → word_symbol w ≡ some k → spelling.word_spelling k ≡ w
unfolding word_symbol spelling.word_spelling
word-spelling w k e = entry_at (map (λ x. x.now) WORD_SYMBOLS) w k e

sign-spelling : (w : List ℕ) (k : ℕ) → sign_of w ≡ some k → spelling.sign_spelling k ≡ w
unfolding sign_of spelling.sign_spelling
sign-spelling w k e = entry_at (map (λ x. x.now) SIGNS) w k e

-- ---- words in lower case

lower-class : (c : ℕ) → class (lower c) ≡ class c
lower-class c = go (leb 65 c && leb c 90) refl where
  both : (a b : Bool) → (a && b) ≡ true → (a ≡ true) × (b ≡ true)
  both true b e = (refl, e)
  both false b e = absurd cc

  small : 65 ≤ c → c ≤ 90 → class (c + 32) ≡ Letter
  small lo hi =
      rw (le-leb 65 (c + 32) (omega arith), le-leb 97 (c + 32) (omega arith), le-leb (c + 32) 122 (omega arith))
      (settled (leb (c + 32) 90))
    where
      settled : (b : Bool) → cond ((true && b) || (true && true)) Letter
          (cond (leb 48 (c + 32) && leb (c + 32) 57) Digit
          (cond (((c + 32) == 9) || ((c + 32) == 10) || ((c + 32) == 13) || ((c + 32) == 32)) Separator Mark))
          ≡ Letter
      settled true = refl
      settled false = refl

  go : (b : Bool) → (leb 65 c && leb c 90) ≡ b → class (cond b (c + 32) c) ≡ class c
  go true e =
      let r = both (leb 65 c) (leb c 90) e in
      let big : class c ≡ Letter = rw e refl in
      small (leb-true 65 c r.0) (leb-true c 90 r.1) ∙ sym big
  go false e = refl

lowered-class : (w : List ℕ) → AllByRecursion (λ b. word_byte b ≡ true) w
    → AllByRecursion (λ b. word_byte b ≡ true) (map lower w)
lowered-class [] each = tt
lowered-class (c ∷ w) each = (rw (lower-class c) each.0, lowered-class w each.1)

no_capital : (c : ℕ) → (leb 65 c && leb c 90) ≡ false → lower c ≡ c
no_capital c e = rw e refl

lower-lower : (c : ℕ) → lower (lower c) ≡ lower c
lower-lower c = go (leb 65 c && leb c 90) refl where
  go : (b : Bool) → (leb 65 c && leb c 90) ≡ b → lower (cond b (c + 32) c) ≡ cond b (c + 32) c
  go true e = no_capital (c + 32) (above (both (leb 65 c) (leb c 90) e).0)
    where
      both : (a b : Bool) → (a && b) ≡ true → (a ≡ true) × (b ≡ true)
      both true b e = (refl, e)
      both false b e = absurd cc

      above : leb 65 c ≡ true → (leb 65 (c + 32) && leb (c + 32) 90) ≡ false
      above lo =
          let low : 65 ≤ c = leb-true 65 c lo in rw (lt-leb (c + 32) 90 (omega arith))
          (settled (leb 65 (c + 32)))
        where
          settled : (b : Bool) → (b && false) ≡ false
          settled true = refl
          settled false = refl
  go false e = no_capital c e

lowered-lowered : (w : List ℕ) → map lower (map lower w) ≡ map lower w
lowered-lowered [] = refl
lowered-lowered (c ∷ w) = rw (lower-lower c, lowered-lowered w) refl

named-spelling : (w : List ℕ) → spelling_of (named w) ≡ map lower w
unfolding spelling_of
named-spelling w = go (word_symbol (map lower w)) refl where
  go : (o : Option ℕ) → word_symbol (map lower w) ≡ o → spelling_of (named_by o (map lower w)) ≡ map lower w
  go None e = refl
  go (Some k) e = word-spelling (map lower w) k e

-- a word in lower case is the same token
named-lowered : (w : List ℕ) → named (map lower w) ≡ named w
named-lowered w = rw (lowered-lowered w) refl

-- ---- numbers

digit-range : (c : ℕ) → digit_byte c ≡ true → IsInRange 48 57 c
digit-range c e =
    let r = tests (leb 65 c && leb c 90) (leb 97 c && leb c 122) (leb 48 c) (leb c 57)
    ((c == 9) || (c == 10) || (c == 13) || (c == 32)) e in
    (leb-true 48 c r.0, leb-true c 57 r.1)
  where
    tests : (a b lo hi gap : Bool)
        → is_digit (cond (a || b) Letter (cond (lo && hi) Digit (cond gap Separator Mark))) ≡ true
        → (lo ≡ true) × (hi ≡ true)
    tests true b lo hi gap e = absurd cc
    tests false true lo hi gap e = absurd cc
    tests false false true true gap e = (refl, refl)
    tests false false false hi true e = absurd cc
    tests false false false hi false e = absurd cc
    tests false false true false true e = absurd cc
    tests false false true false false e = absurd cc

range-digit : (c : ℕ) → IsInRange 48 57 c → digit_byte c ≡ true
range-digit c r = rw (lt-leb 65 c (omega arith), lt-leb 97 c (omega arith), le-leb 48 c r.0, le-leb c 57 r.1) refl

pub numerals : IsNumeralModel (AllByRecursion (λ b. digit_byte b ≡ true)) value_of
numerals = numerals_by_fold _ (record {
  empty = tt;
  parts = λ c cs p. (digit-range c p.0, p.1);
  more = λ c cs r p. (range-digit c r, p);
}) value_from (record {
  empty = λ n. refl;
  more = λ n c cs r. ap (λ m. value_from m cs) (omega arith);
})

digit_class : (k : ByteClass) → is_digit k ≡ true → k ≡ Digit
digit_class Letter e = absurd cc
digit_class Digit e = refl
digit_class Separator e = absurd cc
digit_class Mark e = absurd cc

digits_lexeme : (ds : List ℕ) (n : ℕ) → 0 < length ds → AllByRecursion (λ b. digit_byte b ≡ true) ds
    → value_of ds ≡ n → n ≤ 32767 → Lexeme ds (Number n)
digits_lexeme [] n some each is low = absurd (omega (arith, some))
digits_lexeme (c ∷ cs) n some each is low =
    subst (λ m. Lexeme (c ∷ cs) (Number m)) is (number c cs (digit_class (class c) each.0) each.1 (rw is low))

-- ---- alternative tokens

-- the sign that an alternative token is has a spelling of its own
alternative-spelt : (w : List ℕ) (k : ℕ) → alternative_of w ≡ some k → sign_of (spelling.sign_spelling k) ≡ some k
alternative-spelt w k e =
    by_alternative (λ v o. (j : ℕ) → o ≡ some j → sign_of (spelling.sign_spelling j) ≡ some j)
    (again (codes "^")) (again (codes "[")) (again (codes "]")) w k e k refl
  where
    again : (v : List ℕ) (j : ℕ) → sign_of v ≡ some j → sign_of (spelling.sign_spelling j) ≡ some j
    again v j is = ap sign_of (sign-spelling v j is) ∙ is

-- ---- tokens

abbrev pub IsSpelt : TokenKind → Type 0
IsSpelt t = Lexeme (spelling_of t) t

lexeme-spelt : (w : List ℕ) (t : TokenKind) → Lexeme w t → IsSpelt t
unfolding spelling_of
lexeme-spelt w t (word c cs is each) =
    subst (λ (v : List ℕ). Lexeme v (named (c ∷ cs))) (sym (named-spelling (c ∷ cs)))
    (subst (λ (u : TokenKind). Lexeme (map lower (c ∷ cs)) u) (named-lowered (c ∷ cs))
    (word (lower c) (map lower cs) (lower-class c ∙ is) (lowered-class cs each)))
lexeme-spelt w t (number c cs is each low) =
    let small : value_of (c ∷ cs) < 2 ^ 64 = omega (arith, low) in
    digits_lexeme (decimal (value_of (c ∷ cs))) (value_of (c ∷ cs)) (decimal_nonempty (value_of (c ∷ cs)) small)
    (digits_decimal numerals (value_of (c ∷ cs)) small)
    (digits_value-decimal numerals (value_of (c ∷ cs)) small) low
lexeme-spelt w t (sign v k e) = subst (λ (u : List ℕ). Lexeme u (Sign k)) (sym (sign-spelling v k e)) (sign v k e)
lexeme-spelt w t (string cs more each) = string cs more each
lexeme-spelt w t (alternative v k e) = sign (spelling.sign_spelling k) k (alternative-spelt v k e)
lexeme-spelt w t hole = hole

-- each token of a text is read again as it is spelt
pub lexes-spelt : (rest text : List ℕ) (ts : List TokenKind) → LexesTo rest text ts → AllByRecursion IsSpelt ts
lexes-spelt rest text ts ends = tt
lexes-spelt rest text ts (skips {more = more} s l) = lexes-spelt rest more ts l
lexes-spelt rest text ts (takes {more = more} {token = t} {tokens = us} k l) =
    (lexeme-spelt k.lexeme t k.is, lexes-spelt rest more us l)
