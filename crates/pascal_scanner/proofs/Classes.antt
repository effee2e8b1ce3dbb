-- What a lexeme is, by its first byte.
use Rattle.std.proofs.Common.{◌≡◌, ℕ, ◌≤◌, ◌<◌, true, false, List, [], ◌∷◌, ◌++◌, length, refl, sym, subst, arith}
use Rattle.std.specs.List.{AllByRecursion}
use Rattle.dice_base.specs.declared.byte.ByteClass.{ByteClass}
use Rattle.dice_base.specs.declared.byte.ByteClass.TheVariants.{Letter, Digit, Separator, Mark}
use Rattle.dice_base.specs.declared.token.TokenKind.{TokenKind}
use Rattle.dice_base.specs.declared.token.TokenKind.TheVariants.{Number, Str, Sign, Hole}
use Rattle.dice_base.specs.Lexemes.{class, word_byte, digit_byte, string_byte, value_of, largest_number, doubled_apostrophes, named, Lexeme, word, number, string, sign, alternative, hole}
use Rattle.pascal_scanner.specs.Longest.{spelled_sign}
use Rattle.pascal_scanner.proofs.Signs.{some, begins_sign, spelled-sign, spelled-alternative, spelled-begins, spelled-mark, no_spelled-nil}

-- behind an apostrophe stands the rest of a string
pub record IsString (cs : List ℕ) (t : TokenKind) : Type 0 where
  pub characters : List ℕ
  pub some : 0 < length characters
  pub each : AllByRecursion (λ b. string_byte b ≡ true) characters
  pub parts : cs ≡ doubled_apostrophes characters ++ 39 ∷ []
  pub is : t ≡ Str characters

-- the lexeme that begins with this mark
pub data IsMarked (c : ℕ) (cs : List ℕ) (t : TokenKind) : Type 0 where
  is_string : c ≡ 39 → IsString cs t → IsMarked c cs t
  is_hole : c ≡ 35 → cs ≡ [] → t ≡ Hole → IsMarked c cs t
  is_sign : (k : ℕ) → spelled_sign (c ∷ cs) ≡ some k → t ≡ Sign k → IsMarked c cs t

-- the lexeme that begins with a byte of this class
abbrev pub IsOfClass : ByteClass → ℕ → List ℕ → TokenKind → Type 0
IsOfClass Letter c cs t = AllByRecursion (λ b. word_byte b ≡ true) cs × (t ≡ named (c ∷ cs))
IsOfClass Digit c cs t =
    AllByRecursion (λ b. digit_byte b ≡ true) cs × (value_of (c ∷ cs) ≤ largest_number) × (t ≡ Number (value_of (c ∷ cs)))
IsOfClass Separator c cs t = ⊥
IsOfClass Mark c cs t = IsMarked c cs t

of_sign : (c : ℕ) (cs : List ℕ) (k : ℕ) → spelled_sign (c ∷ cs) ≡ some k → IsOfClass (class c) c cs (Sign k)
of_sign c cs k e = rw (spelled-mark c cs k e) (is_sign k e refl)

pub lexeme-class : (c : ℕ) (cs : List ℕ) (t : TokenKind) → Lexeme (c ∷ cs) t → IsOfClass (class c) c cs t
lexeme-class c cs t (word d ds is each) = rw is (each, refl)
lexeme-class c cs t (number d ds is each low) = rw is (each, low, refl)
lexeme-class c cs t (string ds some each) =
    is_string refl (record { characters = ds; some = some; each = each; parts = refl; is = refl })
lexeme-class c cs t (sign w k e) = of_sign c cs k (spelled-sign (c ∷ cs) k e)
lexeme-class c cs t (alternative w k e) = of_sign c cs k (spelled-alternative (c ∷ cs) k e)
lexeme-class c cs t hole = is_hole refl refl refl

pub of_class : (k : ByteClass) (c : ℕ) (cs : List ℕ) (t : TokenKind) → class c ≡ k → Lexeme (c ∷ cs) t → IsOfClass k c cs t
of_class k c cs t is l = subst (λ (j : ByteClass). IsOfClass j c cs t) is (lexeme-class c cs t l)

-- ---- marks

begins-no_string : (c : ℕ) → begins_sign c ≡ true → c ≡ 39 → ⊥
begins-no_string c begins e = let bad : false ≡ true = subst (λ (b : ℕ). begins_sign b ≡ true) e begins in absurd cc

begins-no_hole : (c : ℕ) → begins_sign c ≡ true → c ≡ 35 → ⊥
begins-no_hole c begins e = let bad : false ≡ true = subst (λ (b : ℕ). begins_sign b ≡ true) e begins in absurd cc

pub string_marked : (c : ℕ) (cs : List ℕ) (t : TokenKind) → c ≡ 39 → IsMarked c cs t → IsString cs t
string_marked c cs t e (is_string f s) = s
string_marked c cs t e (is_hole f g h) = absurd (omega (arith, e, f))
string_marked c cs t e (is_sign k s f) = absurd (begins-no_string c (spelled-begins c cs k s) e)

pub hole_marked : (c : ℕ) (cs : List ℕ) (t : TokenKind) → c ≡ 35 → IsMarked c cs t → (cs ≡ []) × (t ≡ Hole)
hole_marked c cs t e (is_string f s) = absurd (omega (arith, e, f))
hole_marked c cs t e (is_hole f g h) = (g, h)
hole_marked c cs t e (is_sign k s f) = absurd (begins-no_hole c (spelled-begins c cs k s) e)

pub sign_marked : (c : ℕ) (cs : List ℕ) (t : TokenKind) → begins_sign c ≡ true → IsMarked c cs t → (k : ℕ) × (spelled_sign (c ∷ cs) ≡ some k) × (t ≡ Sign k)
sign_marked c cs t begins (is_string f s) = absurd (begins-no_string c begins f)
sign_marked c cs t begins (is_hole f g h) = absurd (begins-no_hole c begins f)
sign_marked c cs t begins (is_sign k s f) = (k, s, f)

pub string_lexeme : (cs : List ℕ) (t : TokenKind) → Lexeme (39 ∷ cs) t → IsString cs t
string_lexeme cs t l = string_marked 39 cs t refl (of_class Mark 39 cs t refl l)

pub hole_lexeme : (cs : List ℕ) (t : TokenKind) → Lexeme (35 ∷ cs) t → (cs ≡ []) × (t ≡ Hole)
hole_lexeme cs t l = hole_marked 35 cs t refl (of_class Mark 35 cs t refl l)

pub sign_lexeme : (c : ℕ) (cs : List ℕ) (t : TokenKind) → class c ≡ Mark → begins_sign c ≡ true → Lexeme (c ∷ cs) t → (k : ℕ) × (spelled_sign (c ∷ cs) ≡ some k) × (t ≡ Sign k)
sign_lexeme c cs t is begins l = sign_marked c cs t begins (of_class Mark c cs t is l)

-- ---- where a lexeme is

-- no lexeme is empty
pub no_lexeme-nil : (t : TokenKind) → Lexeme [] t → ⊥
no_lexeme-nil t (sign w k e) = no_spelled-nil k (spelled-sign [] k e)
no_lexeme-nil t (alternative w k e) = no_spelled-nil k (spelled-alternative [] k e)

-- so one at the front of a text has its first byte
pub lexeme_front : (c : ℕ) (cs w r : List ℕ) (t : TokenKind) → c ∷ cs ≡ w ++ r → Lexeme w t → (v : List ℕ) × (w ≡ c ∷ v) × (cs ≡ v ++ r) × Lexeme (c ∷ v) t
lexeme_front c cs [] r t e l = absurd (no_lexeme-nil t l)
lexeme_front c cs (d ∷ v) r t e l = let same : c ≡ d = cc in (v, cc, cc, subst (λ (b : ℕ). Lexeme (b ∷ v) t) (sym same) l)
