-- What is taken at the front of a text, and that it is the only thing.
use Rattle.std.proofs.Common.{◌≡◌, ℕ, ◌≤◌, ◌<◌, true, List, [], ◌∷◌, ◌++◌, length, map, get_or, take, drop, refl, ap, subst, ◌∙◌, arith, None, Some}
use Rattle.std.specs.declared.option.Option.{Option}
use Rattle.std.specs.List.{AllByRecursion}
use Rattle.dice_base.specs.declared.byte.ByteClass.TheVariants.{Letter, Digit, Separator}
use Rattle.dice_base.specs.declared.token.TokenKind.{TokenKind}
use Rattle.dice_base.specs.declared.token.TokenKind.TheVariants.{Number}
use Rattle.dice_base.specs.Lexemes.{class, word_byte, digit_byte, value_of, largest_number, lower, named_by, named, word_symbol, Lexeme, word, number, MayFollow, Takes, Skips, blank}
use Rattle.pascal_scanner.specs.Longest.{front, past}
use Rattle.pascal_scanner.specs.Unread.{IsStuck, HasLargeNumber}
use Rattle.pascal_scanner.proofs.Fronts.{front_parts, front_passes, front_longest, past_stops, take-front, drop-front, length-front-le}
use Rattle.pascal_scanner.proofs.Classes.{no_lexeme-nil, lexeme_front, of_class}
use Rattle.pascal_scanner.proofs.Comments.{no_comment, no_gap_at}

pub lexeme-some : (w : List ℕ) (t : TokenKind) → Lexeme w t → 0 < length w
lexeme-some [] t l = absurd (no_lexeme-nil t l)
lexeme-some (c ∷ cs) t l = omega arith

-- ---- words and numbers

letter_longest : (c : ℕ) (cs w r : List ℕ) (u : TokenKind) → class c ≡ Letter → c ∷ cs ≡ w ++ r → Lexeme w u → length w ≤ length (c ∷ front word_byte cs)
letter_longest c cs w r u is e l =
    let f = lexeme_front c cs w r u e l in
    omega (arith, ap length f.1, front_longest word_byte cs f.0 r f.2 (of_class Letter c f.0 u is f.3).0)

digit_longest : (c : ℕ) (cs w r : List ℕ) (u : TokenKind) → class c ≡ Digit → c ∷ cs ≡ w ++ r → Lexeme w u → length w ≤ length (c ∷ front digit_byte cs)
digit_longest c cs w r u is e l =
    let f = lexeme_front c cs w r u e l in
    omega (arith, ap length f.1, front_longest digit_byte cs f.0 r f.2 (of_class Digit c f.0 u is f.3).0)

named-follows : (o : Option ℕ) (w rest : List ℕ) → MayFollow (named_by o w) rest
named-follows None w rest = tt
named-follows (Some k) w rest = tt

letter_takes : (c : ℕ) (cs : List ℕ) → class c ≡ Letter → Takes (c ∷ cs) (named (c ∷ front word_byte cs)) (past word_byte cs)
letter_takes c cs is = record {
  lexeme = c ∷ front word_byte cs;
  parts = ap (λ (t : List ℕ). c ∷ t) (front_parts word_byte cs);
  is = word c (front word_byte cs) is (front_passes word_byte cs);
  longest = λ w r u e l. letter_longest c cs w r u is e l;
  follows = named-follows (word_symbol (map lower (c ∷ front word_byte cs))) (map lower (c ∷ front word_byte cs)) (past word_byte cs);
  plain = no_comment c cs Letter is (λ bad. absurd cc);
}

digit_takes : (c : ℕ) (cs : List ℕ) → class c ≡ Digit → value_of (c ∷ front digit_byte cs) ≤ largest_number → Takes (c ∷ cs) (Number (value_of (c ∷ front digit_byte cs))) (past digit_byte cs)
digit_takes c cs is low = record {
  lexeme = c ∷ front digit_byte cs;
  parts = ap (λ (t : List ℕ). c ∷ t) (front_parts digit_byte cs);
  is = number c (front digit_byte cs) is (front_passes digit_byte cs) low;
  longest = λ w r u e l. digit_longest c cs w r u is e l;
  follows = past_stops cs;
  plain = no_comment c cs Digit is (λ bad. absurd cc);
}

letter_front : (c : ℕ) (cs : List ℕ) → class c ≡ Letter → (front word_byte (c ∷ cs) ≡ c ∷ front word_byte cs) × (past word_byte (c ∷ cs) ≡ past word_byte cs)
letter_front c cs is = rw is (refl, refl)

digit_front : (c : ℕ) (cs : List ℕ) → class c ≡ Digit → (front digit_byte (c ∷ cs) ≡ c ∷ front digit_byte cs) × (past digit_byte (c ∷ cs) ≡ past digit_byte cs)
digit_front c cs is = rw is (refl, refl)

-- a front of digits that no digit follows is the longest
front-whole : (ds r : List ℕ) → AllByRecursion (λ b. digit_byte b ≡ true) ds → MayFollow (Number 0) r → front digit_byte (ds ++ r) ≡ ds
front-whole [] [] each f = refl
front-whole [] (c ∷ r) each f = rw f refl
front-whole (d ∷ ds) r each f = rw (each.0, front-whole ds r each.1 f) refl

follows-same : (m n : ℕ) (r : List ℕ) → MayFollow (Number m) r → MayFollow (Number n) r
follows-same m n [] f = tt
follows-same m n (c ∷ r) f = f

no_number : (c : ℕ) (cs : List ℕ) (token : TokenKind) (rest : List ℕ) → class c ≡ Digit → largest_number < value_of (c ∷ front digit_byte cs) → Takes (c ∷ cs) token rest → ⊥
no_number c cs token rest is big k =
    let f = lexeme_front c cs k.lexeme rest token k.parts k.is in
    let d = of_class Digit c f.0 token is f.3 in
    let follows : MayFollow (Number 0) rest = follows-same (value_of (c ∷ f.0)) 0 rest (subst (λ (t : TokenKind). MayFollow t rest) d.2 k.follows) in
    let whole : front digit_byte cs ≡ f.0 = ap (front digit_byte) f.2 ∙ front-whole f.0 rest d.0 follows in
    let big2 : largest_number < value_of (c ∷ f.0) = subst (λ (v : List ℕ). largest_number < value_of (c ∷ v)) whole big in
    omega (arith, big2, d.1)

-- the word at the front of a text
pub word_taken : (text : List ℕ) (n : ℕ) → 0 < length text → class (get_or text 0 0) ≡ Letter → n ≡ length (front word_byte text) → (0 < n) × (n ≤ length text) × Takes text (named (take n text)) (drop n text)
word_taken [] n h is e = absurd (omega (arith, h))
word_taken (c ∷ cs) n h is e =
    let f = letter_front c cs is in
    let t : take n (c ∷ cs) ≡ c ∷ front word_byte cs = ap (λ m. take m (c ∷ cs)) e ∙ take-front word_byte (c ∷ cs) ∙ f.0 in
    let d : drop n (c ∷ cs) ≡ past word_byte cs = ap (λ m. drop m (c ∷ cs)) e ∙ drop-front word_byte (c ∷ cs) ∙ f.1 in
    (omega (arith, e, ap length f.0), omega (arith, e, length-front-le word_byte (c ∷ cs)), rw (t, d) (letter_takes c cs is))

-- the number at the front of a text
pub number_taken : (text : List ℕ) (n : ℕ) → 0 < length text → class (get_or text 0 0) ≡ Digit → n ≡ length (front digit_byte text) → value_of (take n text) ≤ largest_number → (0 < n) × (n ≤ length text) × Takes text (Number (value_of (take n text))) (drop n text)
number_taken [] n h is e low = absurd (omega (arith, h))
number_taken (c ∷ cs) n h is e low =
    let f = digit_front c cs is in
    let t : take n (c ∷ cs) ≡ c ∷ front digit_byte cs = ap (λ m. take m (c ∷ cs)) e ∙ take-front digit_byte (c ∷ cs) ∙ f.0 in
    let d : drop n (c ∷ cs) ≡ past digit_byte cs = ap (λ m. drop m (c ∷ cs)) e ∙ drop-front digit_byte (c ∷ cs) ∙ f.1 in
    (omega (arith, e, ap length f.0), omega (arith, e, length-front-le digit_byte (c ∷ cs)), rw (t, d) (digit_takes c cs is (rw (← t) low)))

-- the digits at the front of a text are a number that is too large
pub number_stuck : (text : List ℕ) (n : ℕ) → 0 < length text → class (get_or text 0 0) ≡ Digit → n ≡ length (front digit_byte text) → largest_number < value_of (take n text) → IsStuck text × HasLargeNumber text
number_stuck [] n h is e big = absurd (omega (arith, h))
number_stuck (c ∷ cs) n h is e big =
    let t : take n (c ∷ cs) ≡ front digit_byte (c ∷ cs) = ap (λ m. take m (c ∷ cs)) e ∙ take-front digit_byte (c ∷ cs) in
    let large : largest_number < value_of (front digit_byte (c ∷ cs)) = rw (← t) big in (
      record {
        some = h;
        no_token = λ token rest k. no_number c cs token rest is (rw (digit_front c cs is).0 at large) k;
        no_gap = λ rest k. no_gap_at c cs rest Digit is (λ bad. absurd cc) (no_comment c cs Digit is (λ bad. absurd cc)) k;
      },
      record {
        digits = front digit_byte (c ∷ cs);
        rest = past digit_byte (c ∷ cs);
        parts = front_parts digit_byte (c ∷ cs);
        all = front_passes digit_byte (c ∷ cs);
        last = past_stops (c ∷ cs);
        large = large;
      },
    )

-- a separator at the front of a text
pub gap_at : (text : List ℕ) → 0 < length text → class (get_or text 0 0) ≡ Separator → (0 < 1) × (1 ≤ length text) × Skips text (drop 1 text)
gap_at [] h is = absurd (omega (arith, h))
gap_at (c ∷ cs) h is = (omega arith, omega arith, blank c cs is)
