-- What holds of a text holds of a result that is this text.
use Rattle.std.specs.Prelude.{◌≡◌, ℕ, List, Result, Ok, Err, IfOk}
use Rattle.std.proofs.Common.{sym, subst}
use Rattle.dice_base.specs.declared.fault.NoMemory.{NoMemory}

pub ok_moved : (Holds : List ℕ → Type 0) (text : List ℕ) → Holds text → (r : Result (List ℕ) NoMemory)
    → IfOk r (λ t. t ≡ text) → IfOk r Holds
ok_moved Holds text h (Ok t) is = subst Holds (sym is) h
ok_moved Holds text h (Err e) is = tt
