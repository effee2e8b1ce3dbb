use Rattle.std.proofs.Common.{ℕ, List, ap, false, [], ◌∷◌}
use Rattle.pdp11_machine.specs.State.{MachineState, zero_machine}
use Rattle.pdp11_machine.proofs.Machine.new.Goals as goal

pub returns : goal.returns
unfolding zero_machine
returns c = ap (λ (words : List ℕ). let s : MachineState = record { memory = words; registers = 0 ∷ 0 ∷ 0 ∷ 0 ∷ 0 ∷ 0 ∷ 0 ∷ 0 ∷ []; flags = record { negative = false; zero = false; overflow = false; carry = false }; upper = 0 } in s) (c.in_ok-vec.ensures.items_if_clones_equal (λ y h. h))
