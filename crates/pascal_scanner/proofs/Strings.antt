-- Strings: how their elements are read, and that this is the only way.
use Rattle.std.proofs.Common.{◌≡◌, ℕ, ◌+◌, ◌≤◌, ◌<◌, Bool, true, false, cond, ◌==◌, List, [], ◌∷◌, ◌++◌, length, drop, refl, sym, ap, subst, ◌∙◌, arith, eqb-true, append_assoc, length-append, length-drop, ◌⊎◌, inl, inr}
use Rattle.std.proofs.lemmas.Bool.{cases_lt}
use Rattle.std.proofs.lemmas.List.{drop-drop}
use Rattle.std.specs.List.{AllByRecursion}
use Rattle.dice_base.specs.declared.byte.ByteClass.TheVariants.{Mark}
use Rattle.dice_base.specs.declared.token.TokenKind.{TokenKind}
use Rattle.dice_base.specs.declared.token.TokenKind.TheVariants.{Str}
use Rattle.dice_base.specs.Lexemes.{string_byte, doubled_apostrophes, opens_string, opens_comment, MayFollow, Lexeme, string, Takes}
use Rattle.pascal_scanner.specs.Longest.{element_of}
use Rattle.pascal_scanner.specs.Unread.{IsStuck, HasOpenString}
use Rattle.pascal_scanner.proofs.Signs.{some, nothing, some_same}
use Rattle.pascal_scanner.proofs.Classes.{string_lexeme, lexeme_front}
use Rattle.pascal_scanner.proofs.Comments.{no_gap_at}

abbrev pub AreCharacters : List ℕ → Type 0
AreCharacters = AllByRecursion (λ b. string_byte b ≡ true)

-- ---- single elements

element-plain : (c : ℕ) (r : List ℕ) → (c == 39) ≡ false → string_byte c ≡ true → element_of (c ∷ r) ≡ some c
element-plain c [] e s = rw (e, s) refl
element-plain c (d ∷ r) e s = rw (e, s) refl

-- the front of what is written for characters is the first of them
element-doubled : (c : ℕ) (cs r : List ℕ) → string_byte c ≡ true → element_of (doubled_apostrophes (c ∷ cs) ++ r) ≡ some c
element-doubled c cs r s = go (c == 39) refl where
  go : (b : Bool) → (c == 39) ≡ b → element_of (cond b (39 ∷ 39 ∷ doubled_apostrophes cs) (c ∷ doubled_apostrophes cs) ++ r) ≡ some c
  go true e = ap some (sym (eqb-true c 39 e))
  go false e = element-plain c (doubled_apostrophes cs ++ r) e s

-- an apostrophe that no other one follows is no element
pub element-closing : (r : List ℕ) → opens_string r ≡ false → element_of (39 ∷ r) ≡ nothing
element-closing [] e = refl
element-closing (d ∷ r) e = rw e refl

-- one character more in front
doubled-same : (c : ℕ) (a b x y : List ℕ) → doubled_apostrophes (c ∷ a) ++ x ≡ doubled_apostrophes (c ∷ b) ++ y → doubled_apostrophes a ++ x ≡ doubled_apostrophes b ++ y
doubled-same c a b x y = go (c == 39) where
  go : (t : Bool) → cond t (39 ∷ 39 ∷ doubled_apostrophes a) (c ∷ doubled_apostrophes a) ++ x ≡ cond t (39 ∷ 39 ∷ doubled_apostrophes b) (c ∷ doubled_apostrophes b) ++ y
      → doubled_apostrophes a ++ x ≡ doubled_apostrophes b ++ y
  go true e = cc
  go false e = cc

-- ---- the characters of a text are read in one way

pub doubled_one : (a b x y : List ℕ) → AreCharacters a → AreCharacters b → element_of x ≡ nothing → element_of y ≡ nothing
    → doubled_apostrophes a ++ x ≡ doubled_apostrophes b ++ y → (a ≡ b) × (x ≡ y)
doubled_one [] [] x y p q f g e = (refl, e)
doubled_one [] (d ∷ b) x y p q f g e = let bad : nothing ≡ some d = sym f ∙ ap element_of e ∙ element-doubled d b y q.0 in absurd cc
doubled_one (c ∷ a) [] x y p q f g e = let bad : some c ≡ nothing = sym (element-doubled c a x p.0) ∙ ap element_of e ∙ g in absurd cc
doubled_one (c ∷ a) (d ∷ b) x y p q f g e =
    let same : d ≡ c = some_same d c (sym (element-doubled d b y q.0) ∙ ap element_of (sym e) ∙ element-doubled c a x p.0) in
    let r = doubled_one a b x y p.1 q.1 f g (doubled-same c a b x y (rw same at e)) in
    (cc (same, r.0), r.1)

doubled-length : (c : ℕ) (a b : List ℕ) → length (doubled_apostrophes b) ≤ length (doubled_apostrophes a) → length (doubled_apostrophes (c ∷ b)) ≤ length (doubled_apostrophes (c ∷ a))
doubled-length c a b h = go (c == 39) where
  go : (t : Bool) → length (cond t (39 ∷ 39 ∷ doubled_apostrophes b) (c ∷ doubled_apostrophes b)) ≤ length (cond t (39 ∷ 39 ∷ doubled_apostrophes a) (c ∷ doubled_apostrophes a))
  go true = omega (arith, h)
  go false = omega (arith, h)

-- none has more characters than those up to an apostrophe that no other one follows
pub doubled_longest : (a b x y : List ℕ) → AreCharacters a → AreCharacters b → element_of x ≡ nothing → doubled_apostrophes a ++ x ≡ doubled_apostrophes b ++ y
    → length (doubled_apostrophes b) ≤ length (doubled_apostrophes a)
doubled_longest a [] x y p q f e = omega arith
doubled_longest [] (d ∷ b) x y p q f e = let bad : nothing ≡ some d = sym f ∙ ap element_of e ∙ element-doubled d b y q.0 in absurd cc
doubled_longest (c ∷ a) (d ∷ b) x y p q f e =
    let same : d ≡ c = some_same d c (sym (element-doubled d b y q.0) ∙ ap element_of (sym e) ∙ element-doubled c a x p.0) in
    rw same (doubled-length c a b (doubled_longest a b x y p.1 q.1 f (doubled-same c a b x y (rw same at e))))

-- ---- a string at the front of a text

pub string_plain : (cs : List ℕ) → opens_comment (39 ∷ cs) ≡ false
string_plain [] = refl
string_plain (d ∷ cs) = refl

-- no longer lexeme begins there
pub string_longest : (a x w r : List ℕ) (u : TokenKind) → AreCharacters a → opens_string x ≡ false → 39 ∷ (doubled_apostrophes a ++ 39 ∷ x) ≡ w ++ r → Lexeme w u
    → length w ≤ length (39 ∷ doubled_apostrophes a ++ 39 ∷ [])
string_longest a x w r u each closed e l =
    let f = lexeme_front 39 (doubled_apostrophes a ++ 39 ∷ x) w r u e l in
    let s = string_lexeme f.0 u f.3 in
    let same : doubled_apostrophes a ++ 39 ∷ x ≡ doubled_apostrophes s.characters ++ 39 ∷ r =
    f.2 ∙ ap (λ (v : List ℕ). v ++ r) s.parts ∙ append_assoc (doubled_apostrophes s.characters) (39 ∷ []) r in
    let short = doubled_longest a s.characters (39 ∷ x) (39 ∷ r) each s.each (element-closing x closed) same in
    omega (arith, short, ap length f.1, ap length s.parts, length-append (doubled_apostrophes s.characters) (39 ∷ []), length-append (doubled_apostrophes a) (39 ∷ []))

string_takes : (a x : List ℕ) → 0 < length a → AreCharacters a → opens_string x ≡ false → Takes (39 ∷ (doubled_apostrophes a ++ 39 ∷ x)) (Str a) x
string_takes a x some each closed = record {
  lexeme = 39 ∷ doubled_apostrophes a ++ 39 ∷ [];
  parts = ap (λ (v : List ℕ). 39 ∷ v) (sym (append_assoc (doubled_apostrophes a) (39 ∷ []) x));
  is = string a some each;
  longest = λ w r u e l. string_longest a x w r u each closed e l;
  follows = closed;
  plain = string_plain (doubled_apostrophes a ++ 39 ∷ x);
}

no_string : (a tail : List ℕ) (t : TokenKind) (rest : List ℕ) → AreCharacters a → element_of tail ≡ nothing → (0 < length a → opens_string tail ≡ true → ⊥) → Takes (39 ∷ (doubled_apostrophes a ++ tail)) t rest → ⊥
no_string a tail t rest each ends unclosed k =
    let f = lexeme_front 39 (doubled_apostrophes a ++ tail) k.lexeme rest t k.parts k.is in
    let s = string_lexeme f.0 t f.3 in
    let closed : opens_string rest ≡ false = subst (λ (u : TokenKind). MayFollow u rest) s.is k.follows in
    let same : doubled_apostrophes a ++ tail ≡ doubled_apostrophes s.characters ++ 39 ∷ rest =
    f.2 ∙ ap (λ (v : List ℕ). v ++ rest) s.parts ∙ append_assoc (doubled_apostrophes s.characters) (39 ∷ []) rest in
    let r = doubled_one a s.characters tail (39 ∷ rest) each s.each ends (element-closing rest closed) same in
    unclosed (subst (λ (v : List ℕ). 0 < length v) (sym r.0) s.some) (ap opens_string r.1)

-- ---- the reading of a string

-- up to this place the text is an apostrophe and these characters
pub record AreRead (text : List ℕ) (at : ℕ) (characters : List ℕ) : Type 0 where
  pub within : at ≤ length text
  pub each : AreCharacters characters
  pub parts : text ≡ 39 ∷ (doubled_apostrophes characters ++ drop at text)

pub string_begun : (text : List ℕ) → opens_string text ≡ true → AreRead text 1 []
string_begun [] e = absurd cc
string_begun (c ∷ cs) e = record { within = omega arith; each = tt; parts = ap (λ (b : ℕ). b ∷ cs) (eqb-true c 39 e) }

abbrev pub element_len : ℕ → ℕ
element_len c = cond (c == 39) 2 1

pub record IsElement (text : List ℕ) (c : ℕ) : Type 0 where
  pub byte : string_byte c ≡ true
  pub within : element_len c ≤ length text
  pub parts : text ≡ doubled_apostrophes (c ∷ []) ++ drop (element_len c) text

plain_element : (b : ℕ) (r : List ℕ) (c : ℕ) → (b == 39) ≡ false → (t : Bool) → string_byte b ≡ t → cond t (some b) nothing ≡ some c → IsElement (b ∷ r) c
plain_element b r c other true s known =
    let same : b ≡ c = some_same b c known in
    rw (← same) (record { byte = s; within = rw other (omega arith); parts = rw other refl })
plain_element b r c other false s known = absurd cc

double_element : (b d : ℕ) (r : List ℕ) (c : ℕ) → (b == 39) ≡ true → (t : Bool) → (d == 39) ≡ t → cond t (some 39) nothing ≡ some c → IsElement (b ∷ d ∷ r) c
double_element b d r c first true second known =
    let is : b ≡ 39 = eqb-true b 39 first in
    let too : d ≡ 39 = eqb-true d 39 second in
    let same : 39 ≡ c = some_same 39 c known in
    rw (is, too, ← same) (record { byte = refl; within = omega arith; parts = refl })
double_element b d r c first false second known = absurd cc

pub element-some : (text : List ℕ) (c : ℕ) → element_of text ≡ some c → IsElement text c
element-some [] c e = absurd cc
element-some (b ∷ []) c e = go (b == 39) refl e where
  go : (a : Bool) → (b == 39) ≡ a → cond a nothing (cond (string_byte b) (some b) nothing) ≡ some c → IsElement (b ∷ []) c
  go true f known = absurd cc
  go false f known = plain_element b [] c f (string_byte b) refl known
element-some (b ∷ d ∷ r) c e = go (b == 39) refl e where
  go : (a : Bool) → (b == 39) ≡ a → cond a (cond (d == 39) (some 39) nothing) (cond (string_byte b) (some b) nothing) ≡ some c → IsElement (b ∷ d ∷ r) c
  go true f known = double_element b d r c f (d == 39) refl known
  go false f known = plain_element b (d ∷ r) c f (string_byte b) refl known

doubled-append : (a b : List ℕ) → doubled_apostrophes (a ++ b) ≡ doubled_apostrophes a ++ doubled_apostrophes b
doubled-append [] b = refl
doubled-append (c ∷ a) b = go (doubled-append a b) (c == 39) where
  go : doubled_apostrophes (a ++ b) ≡ doubled_apostrophes a ++ doubled_apostrophes b
      → (t : Bool) → cond t (39 ∷ 39 ∷ doubled_apostrophes (a ++ b)) (c ∷ doubled_apostrophes (a ++ b)) ≡ cond t (39 ∷ 39 ∷ doubled_apostrophes a) (c ∷ doubled_apostrophes a) ++ doubled_apostrophes b
  go known true = ap (λ (v : List ℕ). 39 ∷ 39 ∷ v) known
  go known false = ap (λ (v : List ℕ). c ∷ v) known

each-append : (a : List ℕ) (c : ℕ) → AreCharacters a → string_byte c ≡ true → AreCharacters (a ++ c ∷ [])
each-append [] c each e = (e, tt)
each-append (d ∷ a) c each e = (each.0, each-append a c each.1 e)

string_longer : (text : List ℕ) (at : ℕ) (characters : List ℕ) (c : ℕ) → AreRead text at characters → element_of (drop at text) ≡ some c → AreRead text (at + element_len c) (characters ++ c ∷ [])
string_longer text at characters c r e =
    let h = element-some (drop at text) c e in
    let left : List ℕ = drop (at + element_len c) text in
    let parts : drop at text ≡ doubled_apostrophes (c ∷ []) ++ left = h.parts ∙ ap (λ (v : List ℕ). doubled_apostrophes (c ∷ []) ++ v) (drop-drop (element_len c) at text) in
    record {
      within = omega (arith, r.within, h.within, length-drop at text);
      each = each-append characters c r.each h.byte;
      parts =
          r.parts ∙ ap (λ (v : List ℕ). 39 ∷ (doubled_apostrophes characters ++ v)) parts
          ∙ sym (ap (λ (v : List ℕ). 39 ∷ (v ++ left)) (doubled-append characters (c ∷ [])) ∙ ap (λ (v : List ℕ). 39 ∷ v) (append_assoc (doubled_apostrophes characters) (doubled_apostrophes (c ∷ [])) left));
    }

pub string_more : (text : List ℕ) (at n : ℕ) (characters : List ℕ) (c : ℕ) → n ≡ element_len c → AreRead text at characters → element_of (drop at text) ≡ some c → AreRead text (at + n) (characters ++ c ∷ [])
string_more text at n characters c is r e = rw is (string_longer text at characters c r e)

-- from the second byte of the string on there is a character
read-some : (text : List ℕ) (at : ℕ) (characters : List ℕ) → AreRead text at characters → 1 < at → 0 < length characters
read-some text at [] r h = absurd (omega (arith, h, r.within, ap length r.parts, length-drop at text))
read-some text at (c ∷ cs) r h = omega arith

doubled-some : (c : ℕ) (cs : List ℕ) → 0 < length (doubled_apostrophes (c ∷ cs))
doubled-some c cs = go (c == 39) where
  go : (t : Bool) → 0 < length (cond t (39 ∷ 39 ∷ doubled_apostrophes cs) (c ∷ doubled_apostrophes cs))
  go true = omega arith
  go false = omega arith

-- and before it there is none
read-none : (text : List ℕ) (at : ℕ) (characters : List ℕ) → AreRead text at characters → at ≤ 1 → 0 < length characters → ⊥
read-none text at [] r h some = absurd (omega (arith, some))
read-none text at (c ∷ cs) r h some =
    absurd (omega (arith, h, r.within, ap length r.parts, length-append (doubled_apostrophes (c ∷ cs)) (drop at text), length-drop at text, doubled-some c cs))

closing-rest : (t : List ℕ) → opens_string t ≡ true → element_of t ≡ nothing → (x : List ℕ) × (t ≡ 39 ∷ x) × (opens_string x ≡ false)
closing-rest [] o e = absurd cc
closing-rest (c ∷ x) o e =
    let is : c ≡ 39 = eqb-true c 39 o in
    (x, ap (λ (b : ℕ). b ∷ x) is, alone x (subst (λ (b : ℕ). element_of (b ∷ x) ≡ nothing) is e))
  where
    alone : (x : List ℕ) → element_of (39 ∷ x) ≡ nothing → opens_string x ≡ false
    alone [] e = refl
    alone (d ∷ x) e = go (d == 39) e where
      go : (b : Bool) → cond b (some 39) nothing ≡ nothing → b ≡ false
      go true e = absurd cc
      go false e = refl

pub string_closed : (text : List ℕ) (at : ℕ) (characters : List ℕ) → AreRead text at characters → element_of (drop at text) ≡ nothing → 1 < at → opens_string (drop at text) ≡ true
    → (0 < at + 1) × (at + 1 ≤ length text) × Takes text (Str characters) (drop (at + 1) text)
string_closed text at characters r ends h closed =
    let x = closing-rest (drop at text) closed ends in
    let behind : x.0 ≡ drop (at + 1) text = sym (ap (drop 1) x.1) ∙ drop-drop 1 at text in
    let whole : text ≡ 39 ∷ (doubled_apostrophes characters ++ 39 ∷ x.0) = r.parts ∙ ap (λ (v : List ℕ). 39 ∷ (doubled_apostrophes characters ++ v)) x.1 in
    let taken : Takes (39 ∷ (doubled_apostrophes characters ++ 39 ∷ x.0)) (Str characters) x.0 = string_takes characters x.0 (read-some text at characters r h) r.each x.2 in (
      omega arith,
      omega (arith, r.within, ap length x.1, length-drop at text),
      subst (λ (v : List ℕ). Takes text (Str characters) v) behind (subst (λ (v : List ℕ). Takes v (Str characters) x.0) (sym whole) taken),
    )

pub string_open : (text : List ℕ) (at : ℕ) (characters : List ℕ) → AreRead text at characters → element_of (drop at text) ≡ nothing → (1 < at → opens_string (drop at text) ≡ true → ⊥)
    → IsStuck text × HasOpenString text
string_open text at characters r ends unclosed =
    subst (λ (v : List ℕ). IsStuck v × HasOpenString v) (sym r.parts) (
      record {
        some = omega arith;
        no_token = λ token rest k. no_string characters (drop at text) token rest r.each ends none k;
        no_gap = λ rest k. no_gap_at 39 (doubled_apostrophes characters ++ drop at text) rest Mark refl (λ bad. absurd cc) (string_plain (doubled_apostrophes characters ++ drop at text)) k;
      },
      refl,
    )
  where
    none : 0 < length characters → opens_string (drop at text) ≡ true → ⊥
    none some closed = go (cases_lt 1 at) where
      go : (1 < at) ⊎ (at ≤ 1) → ⊥
      go (inl h) = unclosed h closed
      go (inr h) = read-none text at characters r h some
