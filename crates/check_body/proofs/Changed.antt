-- A kind is that of the statement whose own text says the same.
use Rattle.std.proofs.Common.{IfOk, Result, Ok, Err, ℕ, ◌≡◌, sym, ◌∙◌}
use Rattle.dice_base.specs.declared.fault.NoMemory.{NoMemory}

pub kind_under : (r : Result ℕ NoMemory) (a b : ℕ) → b ≡ a → IfOk r (λ k. k ≡ a) → IfOk r (λ k. k ≡ b)
kind_under (Ok k) a b is told = told ∙ sym is
kind_under (Err e) a b is told = told
