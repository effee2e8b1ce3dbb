-- Texts in which a separator, or nothing, stands behind each token.
use Rattle.std.proofs.Common.{◌≡◌, ℕ, ◌≤◌, ◌<◌, Bool, true, false, not, ◌&&◌, ◌||◌, ◌==◌, List, [], ◌∷◌, ◌++◌, length, map, refl, sym, ap, subst, ◌∙◌, arith, eqb-true, append_assoc}
use Rattle.std.specs.List.{AllByRecursion}
use Rattle.dice_base.specs.declared.byte.ByteClass.{ByteClass}
use Rattle.dice_base.specs.declared.byte.ByteClass.TheVariants.{Letter, Digit, Separator, Mark}
use Rattle.dice_base.specs.declared.token.TokenKind.{TokenKind}
use Rattle.dice_base.specs.declared.token.TokenKind.TheVariants.{Word, Ident, Number, Str, Sign, Hole}
use Rattle.dice_base.specs.declared.symbols.TheConstants.{SIGNS}
use Rattle.dice_base.specs.Lexemes.{class, is_letter, is_digit, word_byte, digit_byte, doubled_apostrophes, sign_of, alternative_of, Lexeme, word, number, string, sign, alternative, hole, opens_comment, opens_string, string_byte, MayFollow, Takes, blank, LexesTo, ends, skips, takes}
use Rattle.pascal_scanner.proofs.Signs.{some, found_passes, by_alternative}
use Rattle.pascal_scanner.proofs.Classes.{lexeme_front, string_lexeme}
use Rattle.pascal_scanner.proofs.Comments.{no_comment}
use Rattle.pascal_scanner.proofs.Strings.{string_plain, string_longest}
use Rattle.pascal_scanner.proofs.Takes.{lexeme-some}

-- ---- bytes that are no separators, outside strings

abbrev pub is_solid : ByteClass → Bool
is_solid Separator = false
is_solid _ = true

abbrev pub solid : ℕ → Bool
solid c = is_solid (class c)

abbrev pub all_solid : List ℕ → Bool
all_solid [] = true
all_solid (c ∷ w) = solid c && all_solid w

word-solid : (k : ByteClass) → (is_letter k || is_digit k) ≡ true → is_solid k ≡ true
word-solid Letter e = refl
word-solid Digit e = refl
word-solid Separator e = absurd cc
word-solid Mark e = refl

digit-solid : (k : ByteClass) → is_digit k ≡ true → is_solid k ≡ true
digit-solid Letter e = absurd cc
digit-solid Digit e = refl
digit-solid Separator e = absurd cc
digit-solid Mark e = absurd cc

words-solid : (w : List ℕ) → AllByRecursion (λ b. word_byte b ≡ true) w → all_solid w ≡ true
words-solid [] each = refl
words-solid (c ∷ w) each = rw (word-solid (class c) each.0) (words-solid w each.1)

digits-solid : (w : List ℕ) → AllByRecursion (λ b. digit_byte b ≡ true) w → all_solid w ≡ true
digits-solid [] each = refl
digits-solid (c ∷ w) each = rw (digit-solid (class c) each.0) (digits-solid w each.1)

-- a token is a string, or no separator stands in it
pub data IsSolid (w : List ℕ) : Type 0 where
  quoted : (cs : List ℕ) → AllByRecursion (λ b. string_byte b ≡ true) cs → w ≡ 39 ∷ doubled_apostrophes cs ++ 39
      ∷ [] → IsSolid w
  solid_all : all_solid w ≡ true → IsSolid w

alternative-solid : (w : List ℕ) (k : ℕ) → alternative_of w ≡ some k → all_solid w ≡ true
alternative-solid = by_alternative (λ w o. all_solid w ≡ true) refl refl refl

pub lexeme-solid : (w : List ℕ) (t : TokenKind) → Lexeme w t → IsSolid w
unfolding sign_of
lexeme-solid w t (word c cs is each) = solid_all (rw is (words-solid cs each))
lexeme-solid w t (number c cs is each low) = solid_all (rw is (digits-solid cs each))
lexeme-solid w t (string cs some each) = quoted cs each refl
lexeme-solid w t (sign v k e) = solid_all (found_passes all_solid w 0 (map (λ s. s.now) SIGNS) k e refl)
lexeme-solid w t (alternative v k e) = solid_all (alternative-solid w k e)
lexeme-solid w t hole = solid_all refl

-- no comment opens with a token
alternative-plain : (w : List ℕ) (k : ℕ) → alternative_of w ≡ some k → opens_comment w ≡ false
alternative-plain = by_alternative (λ w o. opens_comment w ≡ false) refl refl refl

lexeme-plain : (w : List ℕ) (t : TokenKind) → Lexeme w t → opens_comment w ≡ false
unfolding sign_of
lexeme-plain w t (word c cs is each) = no_comment c cs Letter is (λ bad. absurd cc)
lexeme-plain w t (number c cs is each low) = no_comment c cs Digit is (λ bad. absurd cc)
lexeme-plain w t (sign v k e) =
    negated (opens_comment w)
    (found_passes (λ s. not (opens_comment s)) w 0 (map (λ s. s.now) SIGNS) k e refl) where
      negated : (b : Bool) → not b ≡ true → b ≡ false
      negated true e = absurd cc
      negated false e = refl
lexeme-plain w t (string cs some each) = string_plain (doubled_apostrophes cs ++ 39 ∷ [])
lexeme-plain w t (alternative v k e) = alternative-plain w k e
lexeme-plain w t hole = refl

-- ---- a separator behind a token

-- the text is empty, or begins with a separator
abbrev pub OpensGap : List ℕ → Type 0
OpensGap [] = Unit {0}
OpensGap (c ∷ rest) = class c ≡ Separator

opens-append : (v text : List ℕ) → OpensGap v → OpensGap text → OpensGap (v ++ text)
opens-append [] text o p = p
opens-append (c ∷ v) text o p = o

both : (a b : Bool) → (a && b) ≡ true → (a ≡ true) × (b ≡ true)
both true b e = (refl, e)
both false b e = absurd cc

gap-solid : (c : ℕ) → class c ≡ Separator → solid c ≡ true → ⊥
gap-solid c is s = let bad : false ≡ true = rw is at s in absurd cc

-- of what has no separator, no more stands in front than what stands before the separator
within : (w v rest r : List ℕ) → OpensGap rest → w ++ rest ≡ v ++ r → all_solid v ≡ true → length v ≤ length w
within w [] rest r gap e s = omega arith
within [] (d ∷ v) [] r gap e s = absurd cc
within [] (d ∷ v) (c ∷ rest) r gap e s =
    let same : c ≡ d = cc in
    absurd (gap-solid d (ap class (sym same) ∙ gap) (both (solid d) (all_solid v) s).0)
within (c ∷ w) (d ∷ v) rest r gap e s =
    let more : w ++ rest ≡ v ++ r = cc in
    omega (arith, within w v rest r gap more (both (solid d) (all_solid v) s).1)

gap-quote : (rest : List ℕ) → OpensGap rest → opens_string rest ≡ false
gap-quote [] gap = refl
gap-quote (d ∷ rest) gap = go (d == 39) refl where
  go : (b : Bool) → (d == 39) ≡ b → b ≡ false
  go true e = let bad : Mark ≡ Separator = sym (ap class (eqb-true d 39 e)) ∙ gap in absurd cc
  go false e = refl

-- nor does a longer token begin where one stands in front of a separator
no_longer : (w v rest r : List ℕ) (t u : TokenKind) → Lexeme w t → Lexeme v u → OpensGap rest
    → w ++ rest ≡ v ++ r → length v ≤ length w
no_longer w v rest r t u l m gap e = go (lexeme-solid v u m) where
  go : IsSolid v → length v ≤ length w
  go (solid_all s) = within w v rest r gap e s
  go (quoted cs each is) =
      -- then the first token is a string too
      let f = lexeme_front 39 (doubled_apostrophes cs ++ 39 ∷ r) w rest t
      (sym (e ∙ ap (λ (x : List ℕ). x ++ r) is ∙ ap (λ (x : List ℕ). 39 ∷ x)
      (append_assoc (doubled_apostrophes cs) (39 ∷ []) r))) l in
      let s = string_lexeme f.0 t f.3 in
      let first : w ≡ 39 ∷ doubled_apostrophes s.characters ++ 39 ∷ [] = f.1 ∙ ap (λ (x : List ℕ). 39 ∷ x) s.parts in
      let whole : 39 ∷ (doubled_apostrophes s.characters ++ 39 ∷ rest) ≡ v ++ r =
      sym (ap (λ (x : List ℕ). x ++ rest) first ∙ ap (λ (x : List ℕ). 39 ∷ x)
      (append_assoc (doubled_apostrophes s.characters) (39 ∷ []) rest)) ∙ e in
      rw first (string_longest s.characters rest v r u s.each (gap-quote rest gap) whole m)

gap-star : (d : ℕ) → class d ≡ Separator → (d == 42) ≡ false
gap-star d is = go (d == 42) refl where
  go : (b : Bool) → (d == 42) ≡ b → b ≡ false
  go true e = let bad : Mark ≡ Separator = sym (ap class (eqb-true d 42 e)) ∙ is in absurd cc
  go false e = refl

and-false : (a b : Bool) → b ≡ false → (a && b) ≡ false
and-false true b e = e
and-false false b e = refl

plain-behind : (w rest : List ℕ) → 0 < length w → opens_comment w ≡ false → OpensGap rest
    → opens_comment (w ++ rest) ≡ false
plain-behind [] rest some plain gap = absurd (omega (arith, some))
plain-behind (c ∷ []) [] some plain gap = plain
plain-behind (c ∷ []) (d ∷ rest) some plain gap = rw (plain, gap-star d gap) (and-false (c == 40) false refl)
plain-behind (c ∷ d ∷ w) rest some plain gap = plain

follows-gap : (t : TokenKind) (rest : List ℕ) → OpensGap rest → MayFollow t rest
follows-gap (Number n) [] gap = tt
follows-gap (Number n) (c ∷ rest) gap = rw gap refl
follows-gap (Word k) rest gap = tt
follows-gap (Ident x) rest gap = tt
follows-gap (Str x) rest gap = gap-quote rest gap
follows-gap (Sign k) rest gap = tt
follows-gap Hole rest gap = tt

-- a token stands at the front of a text where a separator, or nothing, stands behind it
pub gap_takes : (w rest : List ℕ) (t : TokenKind) → Lexeme w t → OpensGap rest → Takes (w ++ rest) t rest
gap_takes w rest t l gap = record {
  lexeme = w;
  parts = refl;
  is = l;
  longest = λ v r u e m. no_longer w v rest r t u l m gap e;
  follows = follows-gap t rest gap;
  plain = plain-behind w rest (lexeme-some w t l) (lexeme-plain w t l) gap;
}

-- ---- texts

-- tokens with separators between, and no two tokens without
pub data Spaced : List ℕ → List TokenKind → Type 0 where
  nothing : Spaced [] []
  gap : (c : ℕ) (text : List ℕ) (ts : List TokenKind) → class c ≡ Separator → Spaced text ts → Spaced (c ∷ text) ts
  puts : (w text : List ℕ) (t : TokenKind) (ts : List TokenKind) → Lexeme w t → OpensGap text → Spaced text ts
      → Spaced (w ++ text) (t ∷ ts)

-- such a text is these tokens
pub spaced-lexes : (text : List ℕ) (ts : List TokenKind) → Spaced text ts → LexesTo [] text ts
spaced-lexes text ts nothing = ends
spaced-lexes text ts (gap c more us is s) = skips (blank c more is) (spaced-lexes more us s)
spaced-lexes text ts (puts w more t us l o s) = takes (gap_takes w more t l o) (spaced-lexes more us s)

-- and so are two such texts with a separator between, or nothing behind
pub spaced-append : (v text : List ℕ) (ts us : List TokenKind) → OpensGap text → Spaced v ts → Spaced text us
    → Spaced (v ++ text) (ts ++ us)
spaced-append v text ts us o nothing t = t
spaced-append v text ts us o (gap c more vs is s) t =
    gap c (more ++ text) (vs ++ us) is (spaced-append more text vs us o s t)
spaced-append v text ts us o (puts w more x vs l p s) t =
    subst (λ (u : List ℕ). Spaced u (x ∷ (vs ++ us))) (sym (append_assoc w more text))
    (puts w (more ++ text) x (vs ++ us) l (opens-append more text p o) (spaced-append more text vs us o s t))
