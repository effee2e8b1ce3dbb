-- Traps: PDP-11/40 Processor Handbook, chapter 2, processor traps. This project's own: a trap whose words cannot be
-- reached is not taken and changes nothing.
use Rattle.std.specs.Prelude.{ℕ, ◌+◌, ◌/◌, ◌%◌, Bool, true, false, ◌&&◌, if◌then◌else◌, slice_index}
use Rattle.pdp11_machine.specs.State.{MachineState, reg, with_reg, is_place, with_word, status_of, with_status}

-- both words of the vector and both words below the stack's top can be reached
abbrev pub is_reachable : ℕ → MachineState → Bool
is_reachable vector s =
    is_place vector && is_place (vector + 2)
    && is_place ((reg s 6 + 65534) % 65536) && is_place ((reg s 6 + 65532) % 65536)

-- PS and then PC are pushed
abbrev pub with_trap_pushed : MachineState → MachineState
with_trap_pushed s =
    let status = with_word s ((reg s 6 + 65534) % 65536) (status_of s) in
    with_reg (with_word status ((reg s 6 + 65532) % 65536) (reg s 7)) 6 ((reg s 6 + 65532) % 65536)

-- PC and then PS are loaded from the vector
abbrev pub with_vector : ℕ → MachineState → MachineState
with_vector vector s =
    with_status (with_reg s 7 (slice_index s.memory (vector / 2))) (slice_index s.memory ((vector + 2) / 2))

-- the new state, and whether the trap was taken
abbrev pub trap_result : ℕ → MachineState → MachineState × Bool
trap_result vector s =
    if is_reachable vector s then (with_vector vector (with_trap_pushed s), true) else (s, false)
