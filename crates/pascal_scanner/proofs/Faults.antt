-- A text has one fault with a place at most: its first unread place, of one kind.
use Rattle.std.proofs.Common.{◌≡◌, ℕ, ◌+◌, ◌<◌, Bool, true, false, cond, ◌==◌, List, [], ◌∷◌, ◌++◌, length, refl, sym, ap, ◌∙◌, arith, eqb-true}
use Rattle.std.specs.List.{AllByRecursion}
use Rattle.dice_base.specs.declared.byte.ByteClass.{ByteClass}
use Rattle.dice_base.specs.declared.byte.ByteClass.TheVariants.{Letter, Digit, Separator, Mark}
use Rattle.dice_base.specs.declared.token.TokenKind.{TokenKind}
use Rattle.dice_base.specs.Lexemes.{class, is_digit, digit_byte, value_of, largest_number, opens_comment, opens_string, LexesTo}
use Rattle.pascal_scanner.specs.declared.fault.ScanFault.{ScanFault}
use Rattle.pascal_scanner.specs.declared.fault.ScanFault.TheVariants.{BadCharacter, OpenComment, OpenString, NumberTooLarge, TextTooLong, NoMemory}
use Rattle.pascal_scanner.specs.Unread.{IsStuck, IsUnread, HasOpenComment, HasOpenString, HasLargeNumber, HasNoDigit, HasBadCharacter, Reports}
use Rattle.pascal_scanner.proofs.Comments.{no_comment}
use Rattle.pascal_scanner.proofs.Strings.{string_plain}
use Rattle.pascal_scanner.proofs.Onward.{stuck-one}

-- the fault tells a place
abbrev pub HasPlace : ScanFault → Type 0
HasPlace TextTooLong = ⊥
HasPlace NoMemory = ⊥
HasPlace _ = Unit {0}

-- ---- the kind of a fault is read off the text that is stuck

abbrev opens_number : List ℕ → Bool
opens_number [] = false
opens_number (c ∷ cs) = digit_byte c

abbrev fault_of : List ℕ → ℕ → ScanFault
fault_of text at =
    cond (opens_comment text) (OpenComment at) (cond (opens_string text) (OpenString at) (cond (opens_number text) (NumberTooLarge at) (BadCharacter at)))

comment_fault : (text : List ℕ) (at : ℕ) → HasOpenComment text → fault_of text at ≡ OpenComment at
comment_fault text at opens = rw opens refl

string_fault : (text : List ℕ) (at : ℕ) → HasOpenString text → fault_of text at ≡ OpenString at
string_fault [] at opens = absurd cc
string_fault (c ∷ cs) at opens =
    let plain : opens_comment (c ∷ cs) ≡ false = ap (λ (b : ℕ). opens_comment (b ∷ cs)) (eqb-true c 39 opens) ∙ string_plain cs in
    rw (plain, opens) refl

digit_class : (k : ByteClass) → is_digit k ≡ true → k ≡ Digit
digit_class Letter e = absurd cc
digit_class Digit e = refl
digit_class Separator e = absurd cc
digit_class Mark e = absurd cc

digit-no_string : (c : ℕ) → class c ≡ Digit → (c == 39) ≡ false
digit-no_string c is = go (c == 39) refl where
  go : (b : Bool) → (c == 39) ≡ b → b ≡ false
  go true e = let bad : Mark ≡ Digit = ap class (sym (eqb-true c 39 e)) ∙ is in absurd cc
  go false e = refl

number_front : (c : ℕ) (cs : List ℕ) (at : ℕ) → digit_byte c ≡ true → fault_of (c ∷ cs) at ≡ NumberTooLarge at
number_front c cs at digit =
    let is : class c ≡ Digit = digit_class (class c) digit in
    rw (no_comment c cs Digit is (λ bad. absurd cc), digit-no_string c is, digit) refl

number_fault : (text : List ℕ) (at : ℕ) → HasLargeNumber text → fault_of text at ≡ NumberTooLarge at
number_fault text at h = go h.digits h.parts h.all h.large where
  go : (digits : List ℕ) → text ≡ digits ++ h.rest → AllByRecursion (λ b. digit_byte b ≡ true) digits → largest_number < value_of digits → fault_of text at ≡ NumberTooLarge at
  go [] e all large = absurd (omega (arith, large))
  go (c ∷ cs) e all large = ap (λ v. fault_of v at) e ∙ number_front c (cs ++ h.rest) at all.0

no_digit : (text : List ℕ) → HasNoDigit text → opens_number text ≡ false
no_digit [] h = refl
no_digit (c ∷ cs) h = h

character_fault : (text : List ℕ) (at : ℕ) → HasBadCharacter text → fault_of text at ≡ BadCharacter at
character_fault text at h = rw (h.no_comment, h.no_string, no_digit text h.no_digit) refl

-- ---- so the place determines the fault

record IsAt (text : List ℕ) (fault : ScanFault) : Type 0 where
  left : List ℕ
  at : ℕ
  tokens : List TokenKind
  front : LexesTo left text tokens
  place : length text ≡ at + length left
  stuck : IsStuck left
  is : fault_of left at ≡ fault

unread_at : (text : List ℕ) (at : ℕ) (fault : ScanFault) (R : List ℕ → Type 0) → IsUnread text at R → ((left : List ℕ) → R left → fault_of left at ≡ fault) → IsAt text fault
unread_at text at fault R u kind =
    record { left = u.left; at = at; tokens = u.tokens; front = u.front; place = u.place; stuck = u.stuck; is = kind u.left u.reason }

reports_at : (fault : ScanFault) (text : List ℕ) → HasPlace fault → Reports fault text → IsAt text fault
reports_at (BadCharacter at) text p r = unread_at text at (BadCharacter at) HasBadCharacter r.0 (λ left h. character_fault left at h)
reports_at (OpenComment at) text p r = unread_at text at (OpenComment at) HasOpenComment r.0 (λ left h. comment_fault left at h)
reports_at (OpenString at) text p r = unread_at text at (OpenString at) HasOpenString r.0 (λ left h. string_fault left at h)
reports_at (NumberTooLarge at) text p r = unread_at text at (NumberTooLarge at) HasLargeNumber r.0 (λ left h. number_fault left at h)
reports_at TextTooLong text p r = absurd p
reports_at NoMemory text p r = absurd p

pub Reports-one : (a b : ScanFault) (text : List ℕ) → HasPlace a → HasPlace b → Reports a text → Reports b text → a ≡ b
Reports-one a b text p q r s =
    let f = reports_at a text p r in
    let g = reports_at b text q s in
    let left : f.left ≡ g.left = stuck-one f.left g.left text f.tokens g.tokens f.front g.front f.stuck g.stuck in
    let at : f.at ≡ g.at = omega (arith, f.place, g.place, ap length left) in
    sym f.is ∙ ap (λ v. fault_of v f.at) left ∙ ap (λ n. fault_of g.left n) at ∙ g.is
