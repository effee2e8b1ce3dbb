use Rattle.std.proofs.Common.{ℕ, List, ap, ◌∙◌, false, [], ◌∷◌, ◌≡◌, replicate, vec_len, arith}
use Rattle.pdp11_machine.specs.State.{MachineState, zero_machine}
use Rattle.pdp11_machine.proofs.Machine.reset.Goals as goal

pub returns : goal.returns
unfolding zero_machine
returns c =
    let count : vec_len c.self.inside.memory ≡ 28672 = omega (arith, c.self.invariant.0) in
    ap (λ (words : List ℕ). let s : MachineState = record { memory = words; registers = 0 ∷ 0 ∷ 0 ∷ 0 ∷ 0 ∷ 0 ∷ 0 ∷ 0 ∷ []; flags = record { negative = false; zero = false; overflow = false; carry = false }; upper = 0 } in s)
    (c.fill.ensures.items (λ y h. h) ∙ ap (λ n. replicate n 0) count)
