-- What an outcome that is not too deep comes to.
use Rattle.std.specs.Prelude.{◌≡◌, ℕ, suc, true, false, ◌-◌, ◌<◌, [], ◌∷◌, length, Result, Ok, Err}
use Rattle.std.proofs.Common.{refl, arith}
use Rattle.token_reader.specs.declared.stop.Stop.{Stop}
use Rattle.token_reader.specs.declared.stop.Stop.TheVariants.{Memory, At, Deep}
use Rattle.token_reader.specs.Readers.{Parser, Reads, is_deep}
use Rattle.token_reader.specs.declared.fault.ParseFault.{ParseFault}
use Rattle.token_reader.specs.Answers.{Answers, Settles, judged_again}
use Rattle.dice_base.specs.Tokens.{Toks}
use Rattle.token_reader.specs.Faults.{Fault, UnexpectedAt, PassesLevels, EndsInside, settled, second, read_whole}

abbrev pub ended : {A : Type 0} → Result A Stop → Result A Fault
ended (Ok a) = Ok a
ended (Err e) = Err EndsInside

pub settled_done : {A : Type 0} (x : Result A Stop) (ts : Toks) (n : ℕ) → length ts ≡ 0 → settled x ts n ≡ ended x
settled_done (Ok a) [] n e = refl
settled_done (Err s) [] n e = refl
settled_done x (t ∷ ts) n e = absurd (omega (arith, e))

pub settled_more : {A : Type 0} (x : Result A Stop) (ts : Toks) (n : ℕ) → 0 < length ts → settled x ts n ≡ Err (UnexpectedAt (n - length ts))
settled_more x [] n e = absurd (omega (arith, e))
settled_more (Ok a) (t ∷ ts) n e = refl
settled_more (Err s) (t ∷ ts) n e = refl

pub second_done : {A : Type 0} (a : A) (ts : Toks) (n : ℕ) → length ts ≡ 0 → second (Ok a) ts n ≡ Err PassesLevels
second_done a [] n e = refl
second_done a (t ∷ ts) n e = absurd (omega (arith, e))

pub second_more : {A : Type 0} (a : A) (ts : Toks) (n : ℕ) → 0 < length ts → second (Ok a) ts n ≡ settled (Ok a) ts n
second_more a [] n e = absurd (omega (arith, e))
second_more a (t ∷ ts) n e = refl

pub second_other : {A : Type 0} (s : Stop) (ts : Toks) (n : ℕ) → second {A = A} (Err s) ts n ≡ settled (Err s) ts n
second_other s ts n = refl

no_answer : {X : Type 0} → true ≡ false → X
no_answer e = absurd cc

pub settle_case : {A : Type 0} (p : ℕ → Parser A) (n : ℕ) (ts r : Toks) (o : Result A Stop) (result : Result A ParseFault) → Reads (p n ts) o r → is_deep o ≡ false
    → Settles o (settled o r (length ts)) result → Answers (read_whole p n ts) result
settle_case p n ts r (Ok a) result is even x = rw is x
settle_case p n ts r (Err Memory) result is even x = rw x tt
settle_case p n ts r (Err At) result is even x = rw is x
settle_case p n ts r (Err Deep) result is even x = no_answer even

pub again_case : {A : Type 0} (p : ℕ → Parser A) (n : ℕ) (ts r r' : Toks) (o s : Result A Stop) (result : Result A ParseFault) → Reads (p n ts) o r → is_deep o ≡ true
    → Reads (p (suc n) ts) s r' → Settles s (judged_again (s, r') (length r) (length ts)) result → Answers (read_whole p n ts) result
again_case p n ts r r' (Err Deep) (Ok a) result is d also x = rw (is, also) x
again_case p n ts r r' (Err Deep) (Err At) result is d also x = rw (is, also) x
again_case p n ts r r' (Err Deep) (Err Deep) result is d also x = rw (is, also) x
again_case p n ts r r' (Err Deep) (Err Memory) result is d also x = rw x tt
again_case p n ts r r' (Ok a) s result is d also x = absurd cc
again_case p n ts r r' (Err Memory) s result is d also x = absurd cc
again_case p n ts r r' (Err At) s result is d also x = absurd cc
