-- The tokens that a text can have: which identifiers, numbers and strings, and each word symbol and sign.
use Rattle.std.specs.Prelude.{◌≡◌, ℕ, ◌^◌, ◌≤◌, ◌<◌, zero, suc, Bool, true, false, ◌&&◌, ◌||◌, ◌==◌, List, [], ◌∷◌, length, get_or, map, Option, Some, None, is_none}
use Rattle.std.proofs.Common.{refl, sym, ap, subst, arith, eqb-true, leb-true, le-leb}
use Rattle.std.specs.Fmt.{decimal}
use Rattle.std.specs.Int.{IsInRange}
use Rattle.std.proofs.lemmas.Str.Parse.{IsNumeralModel, numerals_by_fold}
use Rattle.std.proofs.lemmas.Fmt.{decimal_nonempty, digits_decimal, digits_value-decimal}
use Rattle.std.proofs.lemmas.Bool.Decides.{nat_tests}
use Rattle.std.specs.List.{list_all, AllByRecursion}
use Rattle.dice_base.specs.declared.byte.ByteClass.{ByteClass}
use Rattle.dice_base.specs.declared.byte.ByteClass.TheVariants.{Letter, Digit, Separator, Mark}
use Rattle.dice_base.specs.declared.token.TokenKind.{TokenKind}
use Rattle.dice_base.specs.declared.token.TokenKind.TheVariants.{Word, Ident, Number, Str, Sign}
use Rattle.dice_base.specs.declared.symbols.TheConstants.{WORD_SYMBOLS, SIGNS}
use Rattle.dice_base.specs.Lexemes.{class, is_letter, is_digit, digit_byte, word_byte, string_byte, largest_number, value_from, value_of, lower, word_symbol, sign_of, named_by, Lexeme, LexesTo, word, number, string, sign, alternative, hole, ends, skips, takes}
use Rattle.pascal_tree.specs.FormedExprs.{is_small_letter, is_identifier, is_number, is_string}
use Rattle.pascal_tree.specs.Sources.{HasLexeme}

abbrev some_of : {A : Type 0} → A → Option A
some_of a = Some a

-- ---- bytes in lower case

letter_of : (k : ByteClass) → is_letter k ≡ true → k ≡ Letter
letter_of Letter e = refl
letter_of Digit e = absurd cc
letter_of Separator e = absurd cc
letter_of Mark e = absurd cc

small-class : (c : ℕ) → is_small_letter c ≡ true → class c ≡ Letter
small-class c e = grind (arith, nat_tests)

small-lower : (c : ℕ) → is_small_letter c ≡ true → lower c ≡ c
small-lower c e = grind (arith, nat_tests)

digit-lower : (c : ℕ) → digit_byte c ≡ true → lower c ≡ c
digit-lower c e = grind (arith, nat_tests)

lower-small : (c : ℕ) → class c ≡ Letter → is_small_letter (lower c) ≡ true
lower-small c e = grind (arith, nat_tests)

lower-word : (c : ℕ) → word_byte c ≡ true → (is_small_letter (lower c) || digit_byte (lower c)) ≡ true
lower-word c e = grind (arith, nat_tests)

word-small : (c : ℕ) → (is_small_letter c || digit_byte c) ≡ true → word_byte c ≡ true
word-small c e = grind (arith, nat_tests)

word-lower : (c : ℕ) → (is_small_letter c || digit_byte c) ≡ true → lower c ≡ c
word-lower c e = grind (arith, nat_tests)

-- ---- tests of two and of each

pub and-parts : (a b : Bool) → (a && b) ≡ true → (a ≡ true) × (b ≡ true)
and-parts true b e = (refl, e)
and-parts false b e = absurd cc

pub and-true : (a b : Bool) → a ≡ true → b ≡ true → (a && b) ≡ true
and-true a b p q = rw (p, q) refl

all-true : (p q : ℕ → Bool) → ((c : ℕ) → p c ≡ true → q c ≡ true) → (cs : List ℕ)
    → AllByRecursion (λ c. p c ≡ true) cs → list_all q cs ≡ true
all-true p q f [] h = refl
all-true p q f (c ∷ cs) h = and-true (q c) (list_all q cs) (f c h.0) (all-true p q f cs h.1)

each-true : (p q : ℕ → Bool) → ((c : ℕ) → p c ≡ true → q c ≡ true) → (cs : List ℕ) → list_all p cs ≡ true
    → AllByRecursion (λ c. q c ≡ true) cs
each-true p q f [] e = tt
each-true p q f (c ∷ cs) e = let r = and-parts (p c) (list_all p cs) e in (f c r.0, each-true p q f cs r.1)

-- ---- identifiers, numbers and strings

-- what a token of a text has
abbrev pub IsPossible : TokenKind → Type 0
IsPossible (Ident x) = is_identifier x ≡ true
IsPossible (Number n) = is_number n ≡ true
IsPossible (Str x) = is_string x ≡ true
IsPossible _ = Unit {0}

lowered : (cs : List ℕ) → AllByRecursion (λ b. word_byte b ≡ true) cs
    → list_all (λ b. is_small_letter b || digit_byte b) (map lower cs) ≡ true
lowered [] h = refl
lowered (c ∷ cs) h = and-true _ _ (lower-word c h.0) (lowered cs h.1)

word-possible : (c : ℕ) (cs : List ℕ) → class c ≡ Letter → AllByRecursion (λ b. word_byte b ≡ true) cs
    → (o : Option ℕ) → word_symbol (map lower (c ∷ cs)) ≡ o → IsPossible (named_by o (map lower (c ∷ cs)))
word-possible c cs is each None e =
    and-true _ _ (and-true _ _ (lower-small c is) (lowered cs each)) (rw e refl)
word-possible c cs is each (Some k) e = tt

string-possible : (cs : List ℕ) → 0 < length cs → AllByRecursion (λ b. string_byte b ≡ true) cs → is_string cs ≡ true
string-possible [] some each = absurd (omega (arith, some))
string-possible (c ∷ cs) some each = all-true string_byte string_byte (λ b e. e) (c ∷ cs) each

lexeme-possible : (w : List ℕ) (t : TokenKind) → Lexeme w t → IsPossible t
lexeme-possible w t (word c cs is each) = word-possible c cs is each (word_symbol (map lower (c ∷ cs))) refl
lexeme-possible w t (number c cs is each low) = le-leb (value_of (c ∷ cs)) largest_number low
lexeme-possible w t (string cs some each) = string-possible cs some each
lexeme-possible w t (sign v k e) = tt
lexeme-possible w t (alternative v k e) = tt
lexeme-possible w t hole = tt

pub possible : (t : TokenKind) → HasLexeme t → IsPossible t
possible t h = lexeme-possible h.text t h.is

small-words : (cs : List ℕ) → list_all (λ b. is_small_letter b || digit_byte b) cs ≡ true → map lower cs ≡ cs
small-words [] e = refl
small-words (c ∷ cs) e = let r = and-parts _ _ e in rw (word-lower c r.0, small-words cs r.1) refl

none-named : (w v : List ℕ) → v ≡ w → is_none (word_symbol w) ≡ true → named_by (word_symbol v) v ≡ Ident w
none-named w v is e = rw is (go (word_symbol w) e) where
  go : (o : Option ℕ) → is_none o ≡ true → named_by o w ≡ Ident w
  go None e = refl
  go (Some k) e = absurd cc

pub ident_lexeme : (x : List ℕ) → is_identifier x ≡ true → HasLexeme (Ident x)
ident_lexeme [] e = absurd cc
ident_lexeme (c ∷ cs) e =
    let r = and-parts _ _ e in
    let s = and-parts _ _ r.0 in
    let low : map lower (c ∷ cs) ≡ c ∷ cs = rw (small-lower c s.0, small-words cs s.1) refl in
    record {
      text = c ∷ cs;
      is = subst (λ (t : TokenKind). Lexeme (c ∷ cs) t) (none-named (c ∷ cs) (map lower (c ∷ cs)) low r.1)
          (word c cs (small-class c s.0)
          (each-true (λ b. is_small_letter b || digit_byte b) word_byte word-small cs s.1));
    }

some-length : (c : ℕ) (cs : List ℕ) → 0 < length (c ∷ cs)
some-length c cs = omega arith

pub string_lexeme : (x : List ℕ) → is_string x ≡ true → HasLexeme (Str x)
string_lexeme [] e = absurd cc
string_lexeme (c ∷ cs) e =
    record {
      text = _;
      is = string (c ∷ cs) (some-length c cs)
          (each-true string_byte string_byte (λ b h. h) (c ∷ cs) e);
    }

-- ---- numbers

digit-range : (c : ℕ) → digit_byte c ≡ true → IsInRange 48 57 c
digit-range c e = (grind (arith, nat_tests), grind (arith, nat_tests))

range-digit : (c : ℕ) → IsInRange 48 57 c → digit_byte c ≡ true
range-digit c r = grind (arith, nat_tests)

numerals : IsNumeralModel (AllByRecursion (λ b. digit_byte b ≡ true)) value_of
numerals = numerals_by_fold _ (record {
  empty = tt;
  parts = λ c cs p. (digit-range c p.0, p.1);
  more = λ c cs r p. (range-digit c r, p);
}) value_from (record {
  empty = λ n. refl;
  more = λ n c cs r. ap (λ m. value_from m cs) (omega arith);
})

digit_of : (k : ByteClass) → is_digit k ≡ true → k ≡ Digit
digit_of Letter e = absurd cc
digit_of Digit e = refl
digit_of Separator e = absurd cc
digit_of Mark e = absurd cc

digits_lexeme : (ds : List ℕ) (n : ℕ) → 0 < length ds → AllByRecursion (λ b. digit_byte b ≡ true) ds
    → value_of ds ≡ n → n ≤ largest_number → HasLexeme (Number n)
digits_lexeme [] n some each is low = absurd (omega (arith, some))
digits_lexeme (c ∷ cs) n some each is low = record {
  text = c ∷ cs;
  is = subst (λ m. Lexeme (c ∷ cs) (Number m)) is (number c cs (digit_of (class c) each.0) each.1 (rw is low));
}

pub number_lexeme : (n : ℕ) → is_number n ≡ true → HasLexeme (Number n)
number_lexeme n e =
    let low : n ≤ largest_number = leb-true n largest_number e in
    let small : n < 2 ^ 64 = omega (arith, low) in
    digits_lexeme (decimal n) n (decimal_nonempty n small) (digits_decimal numerals n small)
    (digits_value-decimal numerals n small) low

-- ---- word symbols and signs

-- it holds of each number below
abbrev all_below : (ℕ → Bool) → ℕ → Bool
all_below p zero = true
all_below p (suc n) = p n && all_below p n

below-true : (p : ℕ → Bool) (n k : ℕ) → all_below p n ≡ true → k < n → p k ≡ true
below-true p zero k e h = absurd (omega (arith, h))
below-true p (suc n) k e h =
    let r = and-parts (p n) (all_below p n) e in
    go (λ less. below-true p n k r.1 less) r.0 (k == n) refl
  where
    go : (k < n → p k ≡ true) → p n ≡ true → (b : Bool) → (k == n) ≡ b → p k ≡ true
    go less last true is = subst (λ i. p i ≡ true) (sym (eqb-true k n is)) last
    go less last false is = less (grind (arith, nat_tests))

-- the text is found in its table at this place
abbrev is_at : ℕ → Option ℕ → Bool
is_at k None = false
is_at k (Some j) = j == k

found-at : (k : ℕ) (o : Option ℕ) → is_at k o ≡ true → o ≡ some_of k
found-at k None e = absurd cc
found-at k (Some j) e = ap some_of (eqb-true j k e)

abbrev word_at : ℕ → List ℕ
word_at k = get_or (map (λ w. w.now) WORD_SYMBOLS) k []

abbrev sign_at : ℕ → List ℕ
sign_at k = get_or (map (λ s. s.now) SIGNS) k []

-- each word symbol is its own spelling
abbrev is_word : ℕ → List ℕ → Bool
is_word k [] = false
is_word k (c ∷ cs) =
    is_small_letter c && list_all (λ b. is_small_letter b || digit_byte b) cs && is_at k (word_symbol (c ∷ cs))

words-found : all_below (λ k. is_word k (word_at k)) 35 ≡ true
unfolding word_symbol
words-found = refl

signs-found : all_below (λ k. is_at k (sign_of (sign_at k))) 20 ≡ true
unfolding sign_of
signs-found = refl

some-named : (k : ℕ) (w v : List ℕ) → v ≡ w → word_symbol w ≡ some_of k → named_by (word_symbol v) v ≡ Word k
some-named k w v is e = rw (is, e) refl

word-spelled : (k : ℕ) (w : List ℕ) → is_word k w ≡ true → HasLexeme (Word k)
word-spelled k [] e = absurd cc
word-spelled k (c ∷ cs) e =
    let r = and-parts _ _ e in
    let s = and-parts _ _ r.0 in
    let low : map lower (c ∷ cs) ≡ c ∷ cs = rw (small-lower c s.0, small-words cs s.1) refl in
    record {
      text = c ∷ cs;
      is =
          subst (λ (t : TokenKind). Lexeme (c ∷ cs) t)
          (some-named k (c ∷ cs) (map lower (c ∷ cs)) low (found-at k (word_symbol (c ∷ cs)) r.1))
          (word c cs (small-class c s.0)
          (each-true (λ b. is_small_letter b || digit_byte b) word_byte word-small cs s.1));
    }

-- each word symbol is a token of some text, and so is each sign
pub word_lexeme : (k : ℕ) → k < 35 → HasLexeme (Word k)
word_lexeme k h = word-spelled k (word_at k) (below-true (λ i. is_word i (word_at i)) 35 k words-found h)

pub sign_lexeme : (k : ℕ) → k < 20 → HasLexeme (Sign k)
sign_lexeme k h = record {
  text = sign_at k;
  is = sign (sign_at k) k
      (found-at k (sign_of (sign_at k)) (below-true (λ i. is_at i (sign_of (sign_at i))) 20 k signs-found h));
}

-- ---- the tokens of a text

-- each is one of some text
pub lexes_each : (rest text : List ℕ) (ts : List TokenKind) → LexesTo rest text ts → AllByRecursion HasLexeme ts
lexes_each rest text ts ends = tt
lexes_each rest text ts (skips {more = more} s l) = lexes_each rest more ts l
lexes_each rest text ts (takes {more = more} {tokens = us} k l) =
    (record { text = k.lexeme; is = k.is }, lexes_each rest more us l)
