-- Fronts of a text, step by step.
use Rattle.std.proofs.Common.{◌≡◌, ℕ, zero, suc, ◌+◌, ◌-◌, ◌*◌, ◌≤◌, ◌<◌, Bool, true, false, cond, List, [], ◌∷◌, ◌++◌, length, get_or, take, drop, drop-cons, length-drop, take_all, leb, None, Some, leb-false, leb-true, refl, sym, ap, ◌∙◌, arith, add-one}
use Rattle.std.specs.declared.option.Option.{Option}
use Rattle.std.specs.List.{AllByRecursion}
use Rattle.dice_base.specs.Lexemes.{value_from, value_of, digit_byte, MayFollow}
use Rattle.dice_base.specs.declared.token.TokenKind.TheVariants.{Number}
use Rattle.pascal_scanner.specs.Longest.{front, past}

pub front-step : (p : ℕ → Bool) (s : List ℕ) (i : ℕ) → i < length s → p (get_or s i 0) ≡ true → length (front p (drop i s)) ≡ 1 + length (front p (drop (i + 1) s))
front-step p s i h e =
    let one : length (front p (drop i s)) ≡ length (cond (p (get_or s i 0)) (get_or s i 0 ∷ front p (drop (suc i) s)) []) = ap (λ t. length (front p t)) (drop-cons s i 0 h) in
    let two : length (front p (drop i s)) ≡ length (get_or s i 0 ∷ front p (drop (suc i) s)) = one ∙ ap (λ b. length (cond b (get_or s i 0 ∷ front p (drop (suc i) s)) [])) e in
    rw add-one (omega (arith, two))

pub front-stop : (p : ℕ → Bool) (s : List ℕ) (i : ℕ) → i < length s → p (get_or s i 0) ≡ false → length (front p (drop i s)) ≡ 0
front-stop p s i h e =
    ap (λ t. length (front p t)) (drop-cons s i 0 h) ∙ ap (λ b. length (cond b (get_or s i 0 ∷ front p (drop (suc i) s)) [])) e

pub front-end : (p : ℕ → Bool) (s : List ℕ) (i : ℕ) → length s ≤ i → length (front p (drop i s)) ≡ 0
front-end p [] zero h = refl
front-end p [] (suc i) h = refl
front-end p (c ∷ cs) zero h = absurd (omega (arith, h))
front-end p (c ∷ cs) (suc i) h = front-end p cs i (omega (arith, h))

pub ruleset loop_steps = (front-step, front-stop, front-end)

-- digits only add to a value
pub value_from-le : (n : ℕ) (w : List ℕ) → n ≤ value_from n w
value_from-le n [] = omega arith
value_from-le n (c ∷ w) = omega (arith, value_from-le (10 * n + (c - 48)) w)

pub front_parts : (p : ℕ → Bool) (text : List ℕ) → text ≡ front p text ++ past p text
front_parts p [] = refl
front_parts p (c ∷ cs) = go (front_parts p cs) (p c) where
  go : cs ≡ front p cs ++ past p cs → (b : Bool) → c ∷ cs ≡ cond b (c ∷ front p cs) [] ++ cond b (past p cs) (c ∷ cs)
  go known true = ap (λ (t : List ℕ). c ∷ t) known
  go known false = refl

pub front_passes : (p : ℕ → Bool) (text : List ℕ) → AllByRecursion (λ b. p b ≡ true) (front p text)
front_passes p [] = tt
front_passes p (c ∷ cs) = go (front_passes p cs) (p c) refl where
  go : AllByRecursion (λ b. p b ≡ true) (front p cs) → (b : Bool) → p c ≡ b → AllByRecursion (λ b. p b ≡ true) (cond b (c ∷ front p cs) [])
  go known true e = (e, known)
  go known false e = tt

pub front_longest : (p : ℕ → Bool) (text w r : List ℕ) → text ≡ w ++ r → AllByRecursion (λ b. p b ≡ true) w → length w ≤ length (front p text)
front_longest p text [] r e each = omega arith
front_longest p [] (d ∷ w) r e each = absurd cc
front_longest p (c ∷ cs) (d ∷ w) r e each =
    let same : c ≡ d = cc in
    let more : cs ≡ w ++ r = cc in
    let passes : p c ≡ true = rw same each.0 in
    rw passes (omega (arith, front_longest p cs w r more each.1))

-- no digit follows the longest digits
pub past_stops : (text : List ℕ) → MayFollow (Number 0) (past digit_byte text)
past_stops [] = tt
past_stops (c ∷ cs) = go (past_stops cs) (digit_byte c) refl where
  go : MayFollow (Number 0) (past digit_byte cs) → (b : Bool) → digit_byte c ≡ b → MayFollow (Number 0) (cond b (past digit_byte cs) (c ∷ cs))
  go known true e = known
  go known false e = e

pub take-front : (p : ℕ → Bool) (text : List ℕ) → take (length (front p text)) text ≡ front p text
take-front p [] = refl
take-front p (c ∷ cs) = go (take-front p cs) (p c) where
  go : take (length (front p cs)) cs ≡ front p cs → (b : Bool) → take (length (cond b (c ∷ front p cs) [])) (c ∷ cs) ≡ cond b (c ∷ front p cs) []
  go known true = ap (λ (t : List ℕ). c ∷ t) known
  go known false = refl

pub drop-front : (p : ℕ → Bool) (text : List ℕ) → drop (length (front p text)) text ≡ past p text
drop-front p [] = refl
drop-front p (c ∷ cs) = go (drop-front p cs) (p c) where
  go : drop (length (front p cs)) cs ≡ past p cs → (b : Bool) → drop (length (cond b (c ∷ front p cs) [])) (c ∷ cs) ≡ cond b (past p cs) (c ∷ cs)
  go known true = known
  go known false = refl

pub length-front-le : (p : ℕ → Bool) (text : List ℕ) → length (front p text) ≤ length text
length-front-le p [] = omega arith
length-front-le p (c ∷ cs) = go (length-front-le p cs) (p c) where
  go : length (front p cs) ≤ length cs → (b : Bool) → length (cond b (c ∷ front p cs) []) ≤ length (c ∷ cs)
  go known true = omega (arith, known)
  go known false = omega arith

pub front-fits : (p : ℕ → Bool) (text : List ℕ) (n : ℕ) → n ≡ length (front p text) → n ≡ length (take n text)
front-fits p text n e = e ∙ sym (ap length (take-front p text)) ∙ ap (λ m. length (take m text)) (sym e)

-- a value that is too large already stays so
pub number_over : (value i : ℕ) (digits : List ℕ) → i < length digits → value_from value (drop i digits) ≡ value_of digits → 32767 < 10 * value + (get_or digits i 0 - 48) → 32767 < value_of digits
number_over value i digits h known big =
    let e : value_from value (drop i digits) ≡ value_from (10 * value + (get_or digits i 0 - 48)) (drop (suc i) digits) = ap (value_from value) (drop-cons digits i 0 h) in
    omega (arith, e, known, value_from-le (10 * value + (get_or digits i 0 - 48)) (drop (suc i) digits), big)

abbrev within : Bool → ℕ → Option ℕ
within b v = cond b (Some v) None

pub number-none : (v : ℕ) → 32767 < v → within (leb v 32767) v ≡ None
number-none v h = go (leb v 32767) refl where
  go : (b : Bool) → leb v 32767 ≡ b → within b v ≡ None
  go true e = absurd (omega (arith, h, leb-true v 32767 e))
  go false e = refl

pub number-some : (v n : ℕ) (b : Bool) → b ≡ leb v 32767 → Some n ≡ within b v → (v ≡ n) × (v ≤ 32767)
number-some v n true e h = (cc, leb-true v 32767 (sym e))
number-some v n false e h = absurd cc

pub number-large : (v : ℕ) (b : Bool) → b ≡ leb v 32767 → None ≡ within b v → 32767 < v
number-large v true e h = absurd cc
number-large v false e h = leb-false v 32767 (sym e)

-- all of what stands behind the first n
pub rest_whole : (n : ℕ) (xs : List ℕ) → take (length xs - n) (drop n xs) ≡ drop n xs
rest_whole n xs = take_all (length xs - n) (drop n xs) (omega (arith, length-drop n xs))
