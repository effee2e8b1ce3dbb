-- The steps that do not simply go on.
use Rattle.std.proofs.Common.{◌≡◌, ℕ, ◌+◌, ◌*◌, ◌%◌, ◌<◌, ◌≤◌, true, false, Some, zero, suc, sym, subst, ◌≢◌, arith, ◌⊎◌, inl, inr}
use Rattle.std.proofs.lemmas.Bool.{cases_eq}
use Rattle.std.proofs.lemmas.Bool.Decides.{nat_tests}
use Rattle.std.specs.Prelude.{slice_index, nat_eq}
use Rattle.pdp11_machine.specs.Words.{flags_of}
use Rattle.pdp11_machine.specs.Step.{machine_step}
use Rattle.pdp11_machine.specs.declared.StepEnd.TheVariants.{Went}
use Rattle.console_service.specs.Run.{quiet_step, gate_here, instruction, Stops}
use Rattle.console_service.specs.declared.instruction.Stop.TheVariants.{Ended, Error}
use Rattle.console_service.specs.Cpu.{Cpu, state_of}
use Rattle.console_service.proofs.Ops.{half, even_place, next}

stay : (q : ℕ) → q < 28672 → (2 * q + 0 + 0) % 65536 ≡ 2 * q
stay q h = omega arith

on_2 : (q : ℕ) → q + 1 < 28672 → (2 * q + 2 + 0) % 65536 ≡ 2 * (q + 1)
on_2 q h = omega arith

on_6 : (q : ℕ) → q + 3 < 28672 → (2 * q + 6 + 0) % 65536 ≡ 2 * (q + 3)
on_6 q h = omega arith

-- BVS over three words
pub bvs_taken : (c : Cpu) → c.pc + 4 < 28672 → slice_index c.mem c.pc ≡ 34051 → c.flags.overflow ≡ true → quiet_step (state_of c) ≡ Some (state_of (record c { pc = c.pc + 1 + 3 }))
bvs_taken c hp w v =
    let h : c.pc < 28672 = omega arith in let k : c.pc + 1 + 3 < 28672 = omega arith in
    simp (half, w, v, even_place, next, on_6)

pub bvs_not : (c : Cpu) → c.pc + 4 < 28672 → slice_index c.mem c.pc ≡ 34051 → c.flags.overflow ≡ false → quiet_step (state_of c) ≡ Some (state_of (record c { pc = c.pc + 1 }))
bvs_not c hp w v = let h : c.pc < 28672 = omega arith in simp (half, w, v, even_place, next)

-- BNE over one word
pub bne_taken : (c : Cpu) → c.pc + 2 < 28672 → slice_index c.mem c.pc ≡ 513 → c.flags.zero ≡ false → quiet_step (state_of c) ≡ Some (state_of (record c { pc = c.pc + 1 + 1 }))
bne_taken c hp w v =
    let h : c.pc < 28672 = omega arith in let k : c.pc + 1 + 1 < 28672 = omega arith in
    simp (half, w, v, even_place, next, on_2)

pub bne_not : (c : Cpu) → c.pc + 2 < 28672 → slice_index c.mem c.pc ≡ 513 → c.flags.zero ≡ true → quiet_step (state_of c) ≡ Some (state_of (record c { pc = c.pc + 1 }))
bne_not c hp w v = let h : c.pc < 28672 = omega arith in simp (half, w, v, even_place, next)

-- JMP to a word's value
pub jump_step : (c : Cpu) (q : ℕ) → c.pc + 1 < 28672 → slice_index c.mem c.pc ≡ 95 → slice_index c.mem (c.pc + 1) ≡ 2 * q → quiet_step (state_of c) ≡ Some (state_of (record c { pc = q }))
jump_step c q hp w a =
    let h : c.pc < 28672 = omega arith in
    simp (half, w, a, even_place, next)

-- a gate is passed
pub gate_step : (c : Cpu) → c.pc < 28672 → slice_index c.mem c.pc ≡ 160 → machine_step (state_of c).0 ≡ ((state_of (record c { pc = c.pc + 1 })).0, Went)
gate_step c h w = simp (half, w, even_place, next)

-- MOV SP,R5
pub frame_step : (c : Cpu) → c.pc < 28672 → slice_index c.mem c.pc ≡ 4485 → quiet_step (state_of c) ≡ Some (state_of (record c { r5 = 2 * c.sp; pc = c.pc + 1; flags = flags_of (2 * c.sp) false c.flags.carry }))
frame_step c h w = simp (half, w, even_place, next)

-- a gate stands here
pub gate_is_here : (c : Cpu) → c.pc < 28672 → (slice_index c.mem c.pc ≡ 160) ⊎ (slice_index c.mem c.pc ≡ 3) → gate_here (state_of c) ≡ true
gate_is_here c h (inl w) = simp (half, w, even_place)
gate_is_here c h (inr w) = simp (half, w, even_place)

-- EMT 0: the program has ended
pub end_stops : (c : Cpu) → c.pc < 28672 → slice_index c.mem c.pc ≡ 34816 → instruction (state_of c) ≡ Stops Ended (state_of (record c { pc = c.pc + 1 }))
end_stops c h w = simp (half, w, even_place, next)

pub end_no_gate : (c : Cpu) → c.pc < 28672 → slice_index c.mem c.pc ≡ 34816 → gate_here (state_of c) ≡ false
end_no_gate c h w = simp (half, w, even_place)

-- of each number from 1 up to the last
abbrev pub UpTo : (ℕ → Type 0) → ℕ → Type 0
UpTo P zero = Unit {0}
UpTo P (suc n) = P (suc n) × UpTo P n

up_to : (P : ℕ → Type 0) (last n : ℕ) → UpTo P last → 1 ≤ n → n ≤ last → P n
up_to P zero n all lo hi = absurd (omega (arith, lo, hi))
up_to P (suc last) n all lo hi = by (cases_eq n (suc last)) (λ le. up_to P last n all.1 lo le)
  where
    by : (n ≡ suc last) ⊎ (n ≢ suc last) → (n ≤ last → P n) → P n
    by (inl e) rest = subst P (sym e) all.0
    by (inr ne) rest = rest (omega (arith, ne, hi))

-- TRAP n, a run-time error
pub trap_stops : (c : Cpu) (n : ℕ) → c.pc < 28672 → 1 ≤ n → n ≤ 14 → slice_index c.mem c.pc ≡ 35072 + n → instruction (state_of c) ≡ Stops (Error n) (state_of (record c { pc = c.pc + 1 }))
trap_stops c n h lo hi = up_to (λ n. slice_index c.mem c.pc ≡ 35072 + n → instruction (state_of c) ≡ Stops (Error n) (state_of (record c { pc = c.pc + 1 }))) 14 n each lo hi
  where
    each : UpTo (λ n. slice_index c.mem c.pc ≡ 35072 + n → instruction (state_of c) ≡ Stops (Error n) (state_of (record c { pc = c.pc + 1 }))) 14
    each = (λ w. simp (half, w, even_place, next), (λ w. simp (half, w, even_place, next), (λ w. simp (half, w, even_place, next), (λ w. simp (half, w, even_place, next), (λ w. simp (half, w, even_place, next), (λ w. simp (half, w, even_place, next), (λ w. simp (half, w, even_place, next), (λ w. simp (half, w, even_place, next), (λ w. simp (half, w, even_place, next), (λ w. simp (half, w, even_place, next), (λ w. simp (half, w, even_place, next), (λ w. simp (half, w, even_place, next), (λ w. simp (half, w, even_place, next), (λ w. simp (half, w, even_place, next), tt))))))))))))))

pub trap_no_gate : (c : Cpu) (n : ℕ) → c.pc < 28672 → slice_index c.mem c.pc ≡ 35072 + n → gate_here (state_of c) ≡ false
trap_no_gate c n h w =
    let a : nat_eq (35072 + n) 160 ≡ false = grind (arith, nat_tests) in let b : nat_eq (35072 + n) 3 ≡ false = grind (arith, nat_tests) in
    simp (half, w, even_place, a, b)
