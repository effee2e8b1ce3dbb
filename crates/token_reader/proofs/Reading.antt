-- What a reader with the laws of each level answers is what holds of the tokens.
use Rattle.std.specs.Prelude.{◌≡◌, ℕ, suc, Bool, true, [], Result, Ok, Err}
use Rattle.std.proofs.Common.{refl, sym, ◌∙◌}
use Rattle.dice_base.specs.Tokens.{Toks, Classes, is_in}
use Rattle.dice_base.specs.Forms.{Form}
use Rattle.token_reader.specs.Readers.{Parser}
use Rattle.token_reader.specs.Faults.{Fault, UnexpectedAt, PassesLevels, EndsInside, read_whole, Said}
use Rattle.token_reader.specs.Answers.{Says, IsUnlessMemory, IsReading, Answers, Makes}
use Rattle.token_reader.specs.declared.fault.ParseFault.{ParseFault}
use Rattle.token_reader.specs.declared.fault.ParseFault.TheVariants as fault
use Rattle.token_reader.proofs.Laws.{Local, One}
use Rattle.token_reader.proofs.Levels.{Steady}
use Rattle.token_reader.proofs.Judge as judge

abbrev good : {A : Type 0} → A → Result A Fault
good a = Ok a

abbrev failed : {A : Type 0} → Fault → Result A Fault
failed f = Err f

abbrev answer : {B : Type 0} → B → Result B ParseFault
answer b = Ok b

abbrev refusal : {B : Type 0} → ParseFault → Result B ParseFault
refusal e = Err e

module _ {A B : Type 0} {L : Classes} {D F : Bool → Classes} (p : ℕ → Parser A) (g : ℕ → Form A)
    (laws : (d : ℕ) → One [] L (p d) (g d) D F) (local : (d : ℕ) → Local (p d)) (steady : (d : ℕ) → Steady (p d) (p (suc d)))
    (top : (w : Bool) → is_in (F w) 11 ≡ true) (make : A → B) (n : ℕ) (ts : Toks)
  where
    says_of : (v : Result A Fault) (r : Result A ParseFault) (result : Result B ParseFault) → Said g n ts v → Answers v r → Makes make r result → Says g n make ts result
    says_of v (Ok a) (Ok b) s e m = let t : Said g n ts (good a) = rw e at s in (a, t.0, t.1, m)
    says_of v (Ok a) (Err fault.NoMemory) s e m = tt
    says_of v (Ok a) (Err (fault.Unexpected i)) s e m = absurd m
    says_of v (Ok a) (Err fault.EndsEarly) s e m = absurd m
    says_of v (Ok a) (Err fault.TooDeep) s e m = absurd m
    says_of v (Err (fault.Unexpected i)) result s e m = rw m (rw e at s)
    says_of v (Err fault.EndsEarly) result s e m = rw m (rw e at s)
    says_of v (Err fault.TooDeep) result s e m = rw m (rw e at s)
    says_of v (Err fault.NoMemory) result s e m = rw m tt

    -- the value that was read
    of_tree : (a : A) (r : Result A ParseFault) (result : Result B ParseFault) → Answers (good a) r → Makes make r result → IsUnlessMemory result (answer (make a))
    of_tree a (Ok b) (Ok c) e m = let same : a ≡ b = cc in rw (m, same) refl
    of_tree a (Ok b) (Err fault.NoMemory) e m = tt
    of_tree a (Ok b) (Err (fault.Unexpected i)) e m = absurd m
    of_tree a (Ok b) (Err fault.EndsEarly) e m = absurd m
    of_tree a (Ok b) (Err fault.TooDeep) e m = absurd m
    of_tree a (Err fault.NoMemory) result e m = rw m tt
    of_tree a (Err (fault.Unexpected i)) result e m = absurd cc
    of_tree a (Err fault.EndsEarly) result e m = absurd cc
    of_tree a (Err fault.TooDeep) result e m = absurd cc

    -- the fault that was found
    of_unexpected : (i : ℕ) (r : Result A ParseFault) (result : Result B ParseFault) → Answers (failed (UnexpectedAt i)) r → Makes make r result
        → IsUnlessMemory result (refusal (fault.Unexpected i))
    of_unexpected i (Err (fault.Unexpected j)) result e m = let same : i ≡ j = cc in rw (m, same) refl
    of_unexpected i (Err fault.NoMemory) result e m = rw m tt
    of_unexpected i (Ok a) result e m = absurd cc
    of_unexpected i (Err fault.EndsEarly) result e m = absurd cc
    of_unexpected i (Err fault.TooDeep) result e m = absurd cc

    of_early : (r : Result A ParseFault) (result : Result B ParseFault) → Answers (failed EndsInside) r → Makes make r result
        → IsUnlessMemory result (refusal fault.EndsEarly)
    of_early (Err fault.EndsEarly) result e m = rw m refl
    of_early (Err fault.NoMemory) result e m = rw m tt
    of_early (Ok a) result e m = absurd cc
    of_early (Err (fault.Unexpected j)) result e m = absurd cc
    of_early (Err fault.TooDeep) result e m = absurd cc

    of_deep : (r : Result A ParseFault) (result : Result B ParseFault) → Answers (failed PassesLevels) r → Makes make r result
        → IsUnlessMemory result (refusal fault.TooDeep)
    of_deep (Err fault.TooDeep) result e m = rw m refl
    of_deep (Err fault.NoMemory) result e m = rw m tt
    of_deep (Ok a) result e m = absurd cc
    of_deep (Err (fault.Unexpected j)) result e m = absurd cc
    of_deep (Err fault.EndsEarly) result e m = absurd cc

    only_of : (r : Result A ParseFault) (result v : Result B ParseFault) → Answers (read_whole p n ts) r → Makes make r result
        → (v ≡ refusal fault.NoMemory → ⊥) → Says g n make ts v → IsUnlessMemory result v
    only_of r result (Ok b) e m some (a, w, x, is) =
        rw is (of_tree a r result (rw (judge.only_tree p g laws local steady top n ts a (w, x)) at e) m)
    only_of r result (Err (fault.Unexpected i)) e m some s =
        of_unexpected i r result (rw (judge.only_unexpected p g laws local steady top n i ts s) at e) m
    only_of r result (Err fault.EndsEarly) e m some s = of_early r result (rw (judge.only_early p g laws local steady top n ts s) at e) m
    only_of r result (Err fault.TooDeep) e m some s = of_deep r result (rw (judge.only_deep p g laws local steady top n ts s) at e) m
    only_of r result (Err fault.NoMemory) e m some s = absurd (some refl)

    pub is_reading : (r : Result A ParseFault) (result : Result B ParseFault) → Answers (read_whole p n ts) r → Makes make r result → IsReading g n make ts result
    is_reading r result e m = record {
      says = says_of (read_whole p n ts) r result (judge.said p g laws local steady top n ts) e m;
      only = λ v some s. only_of r result v e m some s;
    }
