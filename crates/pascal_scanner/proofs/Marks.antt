-- What is taken where a mark begins: signs and `#`.
use Rattle.std.proofs.Common.{◌≡◌, ℕ, ◌≤◌, ◌<◌, Bool, true, false, ◌==◌, List, [], ◌∷◌, ◌++◌, length, get_or, drop, refl, sym, ap, ◌∙◌, arith, eqb-true}
use Rattle.dice_base.specs.declared.byte.ByteClass.TheVariants.{Mark}
use Rattle.dice_base.specs.declared.token.TokenKind.{TokenKind}
use Rattle.dice_base.specs.declared.token.TokenKind.TheVariants.{Sign, Hole}
use Rattle.dice_base.specs.Lexemes.{class, Lexeme, hole, opens_comment, opens_string, Takes}
use Rattle.pascal_scanner.specs.Longest.{spelled_sign, pair_sign, single_sign}
use Rattle.pascal_scanner.specs.Unread.{IsStuck, HasBadCharacter}
use Rattle.pascal_scanner.proofs.Signs.{some, nothing, begins_sign, spelled-lexeme, spelled-begins, spelled-mark, spelled-short}
use Rattle.pascal_scanner.proofs.Classes.{lexeme_front, sign_lexeme, hole_lexeme}
use Rattle.pascal_scanner.proofs.Comments.{no_gap_at}

-- ---- signs of two bytes and of one

two_taken : (c d : ℕ) (cs : List ℕ) (k : ℕ) → spelled_sign (c ∷ d ∷ []) ≡ some k → opens_comment (c ∷ d ∷ cs) ≡ false → Takes (c ∷ d ∷ cs) (Sign k) cs
two_taken c d cs k s plain = record {
  lexeme = c ∷ d ∷ [];
  parts = refl;
  is = spelled-lexeme (c ∷ d ∷ []) k s;
  longest = longest;
  follows = tt;
  plain = plain;
} where
  longest : (w r : List ℕ) (u : TokenKind) → c ∷ d ∷ cs ≡ w ++ r → Lexeme w u → length w ≤ 2
  longest w r u e l =
      let f = lexeme_front c (d ∷ cs) w r u e l in
      let other = sign_lexeme c f.0 u (spelled-mark c (d ∷ []) k s) (spelled-begins c (d ∷ []) k s) f.3 in
      omega (arith, ap length f.1, spelled-short (c ∷ f.0) other.0 other.1)

-- no two bytes at the front are a sign
abbrev pub HasNoPair : List ℕ → Type 0
HasNoPair text = pair_sign text ≡ nothing

-- so each lexeme there is of one byte
alone : (c : ℕ) (cs v r : List ℕ) (k : ℕ) → HasNoPair (c ∷ cs) → cs ≡ v ++ r → spelled_sign (c ∷ v) ≡ some k → v ≡ []
alone c cs [] r k lone e s = refl
alone c [] (d ∷ []) r k lone e s = absurd cc
alone c (b ∷ cs) (d ∷ []) r k lone e s =
    let same : b ≡ d = cc in
    let bad : nothing ≡ some k = sym lone ∙ ap (λ (x : ℕ). spelled_sign (c ∷ x ∷ [])) same ∙ s in absurd cc
alone c cs (d ∷ b ∷ v) r k lone e s = absurd (omega (arith, spelled-short (c ∷ d ∷ b ∷ v) k s))

one_taken : (c : ℕ) (cs : List ℕ) (k : ℕ) → spelled_sign (c ∷ []) ≡ some k → HasNoPair (c ∷ cs) → opens_comment (c ∷ cs) ≡ false → Takes (c ∷ cs) (Sign k) cs
one_taken c cs k s lone plain = record {
  lexeme = c ∷ [];
  parts = refl;
  is = spelled-lexeme (c ∷ []) k s;
  longest = longest;
  follows = tt;
  plain = plain;
} where
  longest : (w r : List ℕ) (u : TokenKind) → c ∷ cs ≡ w ++ r → Lexeme w u → length w ≤ 1
  longest w r u e l =
      let f = lexeme_front c cs w r u e l in
      let other = sign_lexeme c f.0 u (spelled-mark c [] k s) (spelled-begins c [] k s) f.3 in
      omega (arith, ap length f.1, ap length (alone c cs f.0 r other.0 lone f.2 other.1))

no_mark : (c : ℕ) (cs : List ℕ) (t : TokenKind) (rest : List ℕ) → class c ≡ Mark → begins_sign c ≡ true → HasNoPair (c ∷ cs) → spelled_sign (c ∷ []) ≡ nothing → Takes (c ∷ cs) t rest → ⊥
no_mark c cs t rest is begins lone none k =
    let f = lexeme_front c cs k.lexeme rest t k.parts k.is in
    let other = sign_lexeme c f.0 t is begins f.3 in
    let one : f.0 ≡ [] = alone c cs f.0 rest other.0 lone f.2 other.1 in
    let bad : nothing ≡ some other.0 = sym none ∙ ap (λ (v : List ℕ). spelled_sign (c ∷ v)) (sym one) ∙ other.1 in absurd cc

-- ---- `#`

hole_plain : (cs : List ℕ) → opens_comment (35 ∷ cs) ≡ false
hole_plain [] = refl
hole_plain (d ∷ cs) = refl

hole_taken : (cs : List ℕ) → Takes (35 ∷ cs) Hole cs
hole_taken cs = record {
  lexeme = 35 ∷ [];
  parts = refl;
  is = hole;
  longest = longest;
  follows = tt;
  plain = hole_plain cs;
} where
  longest : (w r : List ℕ) (u : TokenKind) → 35 ∷ cs ≡ w ++ r → Lexeme w u → length w ≤ 1
  longest w r u e l =
      let f = lexeme_front 35 cs w r u e l in
      omega (arith, ap length f.1, ap length (hole_lexeme f.0 u f.3).0)

-- ---- the same of a text

pub hole_at : (text : List ℕ) → 0 < length text → get_or text 0 0 ≡ 35 → (0 < 1) × (1 ≤ length text) × Takes text Hole (drop 1 text)
hole_at [] h e = absurd (omega (arith, h))
hole_at (c ∷ cs) h e = (omega arith, omega arith, rw e (hole_taken cs))

pub pair_at : (text : List ℕ) (k : ℕ) → pair_sign text ≡ some k → opens_comment text ≡ false → (0 < 2) × (2 ≤ length text) × Takes text (Sign k) (drop 2 text)
pair_at [] k s plain = absurd cc
pair_at (c ∷ []) k s plain = absurd cc
pair_at (c ∷ d ∷ cs) k s plain = (omega arith, omega arith, two_taken c d cs k s plain)

pub single_at : (text : List ℕ) (k : ℕ) → single_sign text ≡ some k → pair_sign text ≡ nothing → opens_comment text ≡ false → (0 < 1) × (1 ≤ length text) × Takes text (Sign k) (drop 1 text)
single_at [] k s lone plain = absurd cc
single_at (c ∷ cs) k s lone plain = (omega arith, omega arith, one_taken c cs k s lone plain)

mark-begins : (c : ℕ) (cs : List ℕ) → class c ≡ Mark → (c ≡ 35 → ⊥) → opens_string (c ∷ cs) ≡ false → begins_sign c ≡ true
mark-begins c cs is other no_string = go (c == 35) refl where
  go : (b : Bool) → (c == 35) ≡ b → begins_sign c ≡ true
  go true e = absurd (other (eqb-true c 35 e))
  go false e = rw (is, e, no_string) refl

-- no sign is at the front
pub no_sign_at : (text : List ℕ) → 0 < length text → class (get_or text 0 0) ≡ Mark → (get_or text 0 0 ≡ 35 → ⊥) → opens_comment text ≡ false → opens_string text ≡ false
    → pair_sign text ≡ nothing → single_sign text ≡ nothing → IsStuck text × HasBadCharacter text
no_sign_at [] h is other plain no_string lone none = absurd (omega (arith, h))
no_sign_at (c ∷ cs) h is other plain no_string lone none = (
  record {
    some = h;
    no_token = λ token rest k. no_mark c cs token rest is (mark-begins c cs is other no_string) lone none k;
    no_gap = λ rest k. no_gap_at c cs rest Mark is (λ bad. absurd cc) plain k;
  },
  record { no_comment = plain; no_string = no_string; no_digit = rw is refl },
)
