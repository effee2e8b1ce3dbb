-- Fronts of a text, and tests of all its bytes, step by step.
use Rattle.std.proofs.Common.{◌≡◌, ℕ, zero, suc, ◌+◌, ◌-◌, ◌*◌, ◌≤◌, ◌<◌, Bool, true, false, ◌&&◌, cond, List, [], ◌∷◌, length, get_or, take, drop, drop-cons, length-drop, take_all, None, Some, leb, leb-true, refl, ap, ◌∙◌, arith, add-one}
use Rattle.std.specs.declared.option.Option.{Option}
use Rattle.dice_base.specs.Lexemes.{value_from, value_of}
use Rattle.pascal_scanner.specs.Longest.{front, past}
use Rattle.dice_command.specs.Words.{every}

pub front-step : (p : ℕ → Bool) (s : List ℕ) (i : ℕ) → i < length s → p (get_or s i 0) ≡ true → length (front p (drop i s)) ≡ 1 + length (front p (drop (i + 1) s))
front-step p s i h e =
    let one : length (front p (drop i s)) ≡ length (cond (p (get_or s i 0)) (get_or s i 0 ∷ front p (drop (suc i) s)) []) = ap (λ t. length (front p t)) (drop-cons s i 0 h) in
    let two : length (front p (drop i s)) ≡ length (get_or s i 0 ∷ front p (drop (suc i) s)) = one ∙ ap (λ b. length (cond b (get_or s i 0 ∷ front p (drop (suc i) s)) [])) e in
    rw add-one (omega (arith, two))

pub front-stop : (p : ℕ → Bool) (s : List ℕ) (i : ℕ) → i < length s → p (get_or s i 0) ≡ false → length (front p (drop i s)) ≡ 0
front-stop p s i h e =
    ap (λ t. length (front p t)) (drop-cons s i 0 h) ∙ ap (λ b. length (cond b (get_or s i 0 ∷ front p (drop (suc i) s)) [])) e

pub front-end : (p : ℕ → Bool) (s : List ℕ) (i : ℕ) → length s ≤ i → length (front p (drop i s)) ≡ 0
front-end p [] zero h = refl
front-end p [] (suc i) h = refl
front-end p (c ∷ cs) zero h = absurd (omega (arith, h))
front-end p (c ∷ cs) (suc i) h = front-end p cs i (omega (arith, h))

pub ruleset loop_steps = (front-step, front-stop, front-end)

pub take-front : (p : ℕ → Bool) (text : List ℕ) → take (length (front p text)) text ≡ front p text
take-front p [] = refl
take-front p (c ∷ cs) = go (take-front p cs) (p c) where
  go : take (length (front p cs)) cs ≡ front p cs → (b : Bool) → take (length (cond b (c ∷ front p cs) [])) (c ∷ cs) ≡ cond b (c ∷ front p cs) []
  go known true = ap (λ (t : List ℕ). c ∷ t) known
  go known false = refl

pub drop-front : (p : ℕ → Bool) (text : List ℕ) → drop (length (front p text)) text ≡ past p text
drop-front p [] = refl
drop-front p (c ∷ cs) = go (drop-front p cs) (p c) where
  go : drop (length (front p cs)) cs ≡ past p cs → (b : Bool) → drop (length (cond b (c ∷ front p cs) [])) (c ∷ cs) ≡ cond b (past p cs) (c ∷ cs)
  go known true = known
  go known false = refl

pub every-step : (p : ℕ → Bool) (s : List ℕ) (i : ℕ) → i < length s → p (get_or s i 0) ≡ true → every p (drop i s) ≡ every p (drop (i + 1) s)
every-step p s i h e =
    let one : every p (drop i s) ≡ every p (drop (suc i) s) = ap (every p) (drop-cons s i 0 h) ∙ ap (λ b. b && every p (drop (suc i) s)) e in
    rw add-one one

pub every-stop : (p : ℕ → Bool) (s : List ℕ) (i : ℕ) → i < length s → p (get_or s i 0) ≡ false → every p (drop i s) ≡ false
every-stop p s i h e = ap (every p) (drop-cons s i 0 h) ∙ ap (λ b. b && every p (drop (suc i) s)) e

pub every-end : (p : ℕ → Bool) (s : List ℕ) (i : ℕ) → length s ≤ i → every p (drop i s) ≡ true
every-end p [] zero h = refl
every-end p [] (suc i) h = refl
every-end p (c ∷ cs) zero h = absurd (omega (arith, h))
every-end p (c ∷ cs) (suc i) h = every-end p cs i (omega (arith, h))

pub ruleset every_steps = (every-step, every-stop, every-end)

-- digits only add to a value
value_from-le : (n : ℕ) (w : List ℕ) → n ≤ value_from n w
value_from-le n [] = omega arith
value_from-le n (c ∷ w) = omega (arith, value_from-le (10 * n + (c - 48)) w)

-- a value that is too large already stays so
pub number_over : (value i : ℕ) (digits : List ℕ) → i < length digits → value_from value (drop i digits) ≡ value_of digits → 1000000 < 10 * value + (get_or digits i 0 - 48) → 1000000 < value_of digits
number_over value i digits h known big =
    let e : value_from value (drop i digits) ≡ value_from (10 * value + (get_or digits i 0 - 48)) (drop (suc i) digits) = ap (value_from value) (drop-cons digits i 0 h) in
    omega (arith, e, known, value_from-le (10 * value + (get_or digits i 0 - 48)) (drop (suc i) digits), big)

abbrev within : Bool → ℕ → Option ℕ
within b v = cond b (Some v) None

pub number-none : (v : ℕ) → 1000000 < v → within (leb v 1000000) v ≡ None
number-none v h = go (leb v 1000000) refl where
  go : (b : Bool) → leb v 1000000 ≡ b → within b v ≡ None
  go true e = absurd (omega (arith, h, leb-true v 1000000 e))
  go false e = refl

-- the text without its front, as a range
pub past-at : (p : ℕ → Bool) (text : List ℕ) (n : ℕ) → n ≡ length (front p text) → take (length text - n) (drop n text) ≡ past p text
past-at p text n e =
    take_all (length text - n) (drop n text) (omega (arith, length-drop n text)) ∙ ap (λ k. drop k text) e ∙ drop-front p text

pub front-at : (p : ℕ → Bool) (text : List ℕ) (n : ℕ) → n ≡ length (front p text) → take n text ≡ front p text
front-at p text n e = ap (λ k. take k text) e ∙ take-front p text
