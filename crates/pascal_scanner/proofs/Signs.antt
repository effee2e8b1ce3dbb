-- What the table of signs and that of the alternative tokens come to.
use Rattle.std.proofs.Common.{◌≡◌, ℕ, ◌+◌, ◌≤◌, Bool, true, false, cond, not, ◌&&◌, ◌==◌, List, [], ◌∷◌, length, map, codes, refl, sym, ap, ◌∙◌, arith, None, Some}
use Rattle.std.specs.declared.option.Option.{Option}
use Rattle.std.specs.List.{position_from}
use Rattle.std.specs.Str.{bytes_eq}
use Rattle.std.specs.Cmp.Lexicographic.{same_text}
use Rattle.dice_base.specs.declared.byte.ByteClass.{ByteClass}
use Rattle.dice_base.specs.declared.byte.ByteClass.TheVariants.{Letter, Digit, Separator, Mark}
use Rattle.dice_base.specs.declared.symbols.TheConstants.{SIGNS}
use Rattle.dice_base.specs.declared.token.TokenKind.TheVariants.{Sign}
use Rattle.dice_base.specs.Lexemes.{class, sign_of, alternative_of, Lexeme, sign, alternative}
use Rattle.pascal_scanner.specs.Longest.{first_of_two, spelled_sign}

abbrev pub some : ℕ → Option ℕ
some n = Some n

abbrev pub nothing : Option ℕ
nothing = None

pub some_same : (a b : ℕ) → some a ≡ some b → a ≡ b
some_same a b e = cc

abbrev pub all_of : (List ℕ → Bool) → List (List ℕ) → Bool
all_of q [] = true
all_of q (s ∷ ss) = q s && all_of q ss

both-left : (a b : Bool) → (a && b) ≡ true → a ≡ true
both-left true b e = refl
both-left false b e = e

both-right : (a b : Bool) → (a && b) ≡ true → b ≡ true
both-right true b e = e
both-right false b e = absurd cc

-- what each entry of a table passes, each text found in it passes
pub found_passes : (q : List ℕ → Bool) (w : List ℕ) (i : ℕ) (table : List (List ℕ)) (k : ℕ) → position_from (λ entry. bytes_eq entry w) i table ≡ some k → all_of q table ≡ true → q w ≡ true
found_passes q w i [] k e all = absurd cc
found_passes q w i (s ∷ ss) k e all = go (λ known. found_passes q w (i + 1) ss k known (both-right (q s) (all_of q ss) all)) (bytes_eq s w) refl e where
  go : (position_from (λ entry. bytes_eq entry w) (i + 1) ss ≡ some k → q w ≡ true) → (b : Bool) → bytes_eq s w ≡ b
      → cond b (some i) (position_from (λ entry. bytes_eq entry w) (i + 1) ss) ≡ some k → q w ≡ true
  go later true is known = ap q (sym (same_text s w (sym is))) ∙ both-left (q s) (all_of q ss) all
  go later false is known = later known

-- the alternative tokens, each with its sign
pub by_alternative : (P : List ℕ → Option ℕ → Type 0) → P (codes "@") (sign_of (codes "^")) → P (codes "(.") (sign_of (codes "[")) → P (codes ".)") (sign_of (codes "]"))
    → (w : List ℕ) (k : ℕ) → alternative_of w ≡ some k → P w (some k)
unfolding alternative_of
by_alternative P arrow left right w k e = go (bytes_eq w (codes "@")) (bytes_eq w (codes "(.")) (bytes_eq w (codes ".)")) refl refl refl e where
  at : (v : List ℕ) (o : Option ℕ) → P v o → bytes_eq w v ≡ true → o ≡ some k → P w (some k)
  at v o p is known = rw (same_text w v (sym is), ← known) p

  go : (a b d : Bool) → bytes_eq w (codes "@") ≡ a → bytes_eq w (codes "(.") ≡ b → bytes_eq w (codes ".)") ≡ d
      → cond a (sign_of (codes "^")) (cond b (sign_of (codes "[")) (cond d (sign_of (codes "]")) nothing)) ≡ some k → P w (some k)
  go true b d p q r known = at (codes "@") _ arrow p known
  go false true d p q r known = at (codes "(.") _ left q known
  go false false true p q r known = at (codes ".)") _ right r known
  go false false false p q r known = absurd cc

-- ---- the shape of signs

abbrev pub is_mark : ByteClass → Bool
is_mark Mark = true
is_mark _ = false

-- no letter, no digit, no separator, not `#` and no apostrophe
abbrev pub begins_sign : ℕ → Bool
begins_sign c = is_mark (class c) && (not (c == 35) && not (c == 39))

-- one or two bytes, the first of them one that may begin a sign
abbrev pub sign_shape : List ℕ → Bool
sign_shape [] = false
sign_shape (c ∷ []) = begins_sign c
sign_shape (c ∷ d ∷ []) = begins_sign c
sign_shape (c ∷ d ∷ e ∷ w) = false

sign-shape : (w : List ℕ) (k : ℕ) → sign_of w ≡ some k → sign_shape w ≡ true
unfolding sign_of
sign-shape w k e = found_passes sign_shape w 0 (map (λ s. s.now) SIGNS) k e refl

alternative-shape : (w : List ℕ) (k : ℕ) → alternative_of w ≡ some k → sign_shape w ≡ true
alternative-shape = by_alternative (λ w o. sign_shape w ≡ true) refl refl refl

-- ---- a sign in either spelling

pub spelled-sign : (w : List ℕ) (k : ℕ) → sign_of w ≡ some k → spelled_sign w ≡ some k
spelled-sign w k e = ap (λ o. first_of_two o (alternative_of w)) e

-- the table of signs has no alternative token
alternative-no_sign : (w : List ℕ) (k : ℕ) → alternative_of w ≡ some k → sign_of w ≡ nothing
unfolding sign_of
alternative-no_sign = by_alternative (λ w o. sign_of w ≡ nothing) refl refl refl

pub spelled-alternative : (w : List ℕ) (k : ℕ) → alternative_of w ≡ some k → spelled_sign w ≡ some k
spelled-alternative w k e = ap (λ o. first_of_two o (alternative_of w)) (alternative-no_sign w k e) ∙ e

-- what holds of both spellings
by_spelling : (w : List ℕ) (k : ℕ) (P : Type 0) → (sign_of w ≡ some k → P) → (alternative_of w ≡ some k → P) → spelled_sign w ≡ some k → P
by_spelling w k P first second e = go (sign_of w) refl e where
  go : (o : Option ℕ) → sign_of w ≡ o → first_of_two o (alternative_of w) ≡ some k → P
  go (Some n) is known = first (is ∙ known)
  go None is known = second known

pub spelled-lexeme : (w : List ℕ) (k : ℕ) → spelled_sign w ≡ some k → Lexeme w (Sign k)
spelled-lexeme w k = by_spelling w k (Lexeme w (Sign k)) (sign w k) (alternative w k)

spelled-shape : (w : List ℕ) (k : ℕ) → spelled_sign w ≡ some k → sign_shape w ≡ true
spelled-shape w k = by_spelling w k (sign_shape w ≡ true) (sign-shape w k) (alternative-shape w k)

is_mark-true : (b : ByteClass) → is_mark b ≡ true → b ≡ Mark
is_mark-true Letter e = absurd cc
is_mark-true Digit e = absurd cc
is_mark-true Separator e = absurd cc
is_mark-true Mark e = refl

shape-begins : (c : ℕ) (cs : List ℕ) → sign_shape (c ∷ cs) ≡ true → begins_sign c ≡ true
shape-begins c [] e = e
shape-begins c (d ∷ []) e = e
shape-begins c (d ∷ f ∷ w) e = absurd cc

pub spelled-begins : (c : ℕ) (cs : List ℕ) (k : ℕ) → spelled_sign (c ∷ cs) ≡ some k → begins_sign c ≡ true
spelled-begins c cs k e = shape-begins c cs (spelled-shape (c ∷ cs) k e)

pub spelled-mark : (c : ℕ) (cs : List ℕ) (k : ℕ) → spelled_sign (c ∷ cs) ≡ some k → class c ≡ Mark
spelled-mark c cs k e = is_mark-true (class c) (both-left _ _ (spelled-begins c cs k e))

shape-short : (w : List ℕ) → sign_shape w ≡ true → length w ≤ 2
shape-short [] e = omega arith
shape-short (c ∷ []) e = omega arith
shape-short (c ∷ d ∷ []) e = omega arith
shape-short (c ∷ d ∷ f ∷ w) e = absurd cc

pub spelled-short : (w : List ℕ) (k : ℕ) → spelled_sign w ≡ some k → length w ≤ 2
spelled-short w k e = shape-short w (spelled-shape w k e)

pub no_spelled-nil : (k : ℕ) → spelled_sign [] ≡ some k → ⊥
no_spelled-nil k e = let bad : false ≡ true = spelled-shape [] k e in absurd cc
