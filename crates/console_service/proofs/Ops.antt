-- The instructions that emitted code uses, as operations on a machine at whole words.
use Rattle.std.proofs.Common.{◌≡◌, ℕ, ◌+◌, ◌-◌, ◌*◌, ◌/◌, ◌%◌, ◌<◌, ◌≤◌, true, false, List, [], ◌∷◌, ◌++◌, length, Some, arith}
use Rattle.std.specs.Prelude.{slice_index, slice_set, nat_le, nat_lt}
use Rattle.std.proofs.lemmas.Bool.Decides.{nat_tests}
use Rattle.pdp11_machine.specs.State.{is_place}
use Rattle.pdp11_machine.specs.Words.{flags_of}
use Rattle.pdp11_arithmetic.specs.Words.{sum_overflows, difference_overflows}
use Rattle.dice_base.specs.IntegerText.{integer_text}
use Rattle.console_service.specs.declared.memory_map.TheConstants.{CONSOLE_ROOM_BYTES, GLOBALS_WORD, MEMORY_END_WORD}
use Rattle.console_service.specs.Run.{quiet_step}
use Rattle.console_service.specs.Cpu.{Cpu, state_of, HasAt}
use Rattle.console_service.proofs.Texts.{written_fits}

pub even_place : (p : ℕ) → p < 28672 → is_place (2 * p) ≡ true
even_place p h = grind (arith, nat_tests)

pub half : (p : ℕ) → 2 * p / 2 ≡ p
half p = omega arith

pub next : (p : ℕ) → p < 28672 → (2 * p + 2) % 65536 ≡ 2 * (p + 1)
next p h = omega arith

pub down : (s : ℕ) → 0 < s → s ≤ 28672 → (2 * s + 65534) % 65536 ≡ 2 * (s - 1)
down s g h = omega arith

pub two_on : (p : ℕ) → p + 1 + 1 ≡ p + 2
two_on p = omega arith

-- an operation: one instruction with its words
pub data Op : Type 0 where
  PushNumber : (n : ℕ) → Op
  PushWord : (g : ℕ) → Op
  PopWord : (g : ℕ) → Op
  AddTop : Op
  CompareTop : (n : ℕ) → Op
  PopR0 : Op
  PopR1 : Op
  StoreR0 : Op
  SetR1 : (n : ℕ) → Op
  PushZero : Op
  WriteInteger : Op
  WriteEnd : Op

-- MOV #n,-(SP); MOV @#g,-(SP); MOV (SP)+,@#g; ADD (SP)+,(SP); CMP (SP),#n; MOV (SP)+,R0; MOV (SP)+,R1; MOV R0,(SP);
-- MOV #n,R1; CLR -(SP); EMT 4; EMT 8
abbrev pub words_of : Op → List ℕ
words_of (PushNumber n) = 5606 ∷ n ∷ []
words_of (PushWord g) = 6118 ∷ (2 * g) ∷ []
words_of (PopWord g) = 5535 ∷ (2 * g) ∷ []
words_of AddTop = 25998 ∷ []
words_of (CompareTop n) = 9111 ∷ n ∷ []
words_of PopR0 = 5504 ∷ []
words_of PopR1 = 5505 ∷ []
words_of StoreR0 = 4110 ∷ []
words_of (SetR1 n) = 5569 ∷ n ∷ []
words_of PushZero = 2598 ∷ []
words_of WriteInteger = 34820 ∷ []
words_of WriteEnd = 34824 ∷ []

-- the machine after the operation
abbrev pub after : Op → Cpu → Cpu
after (PushNumber n) c = record c { sp = c.sp - 1; pc = c.pc + 2; mem = slice_set c.mem (c.sp - 1) n; flags = flags_of n false c.flags.carry }
after (PushWord g) c = record c { sp = c.sp - 1; pc = c.pc + 2; mem = slice_set c.mem (c.sp - 1) (slice_index c.mem g); flags = flags_of (slice_index c.mem g) false c.flags.carry }
after (PopWord g) c = record c { sp = c.sp + 1; pc = c.pc + 2; mem = slice_set c.mem g (slice_index c.mem c.sp); flags = flags_of (slice_index c.mem c.sp) false c.flags.carry }
after AddTop c =
    let x = slice_index c.mem (c.sp + 1) in
    let y = slice_index c.mem c.sp in
    record c { sp = c.sp + 1; pc = c.pc + 1; mem = slice_set c.mem (c.sp + 1) ((x + y) % 65536); flags = flags_of ((x + y) % 65536) (sum_overflows x y) (nat_le 65536 (x + y)) }
after (CompareTop n) c =
    let x = slice_index c.mem c.sp in
    record c { pc = c.pc + 2; flags = flags_of ((x + 65536 - n) % 65536) (difference_overflows x n) (nat_lt x n) }
after PopR0 c = record c { r0 = slice_index c.mem c.sp; sp = c.sp + 1; pc = c.pc + 1; flags = flags_of (slice_index c.mem c.sp) false c.flags.carry }
after PopR1 c = record c { r1 = slice_index c.mem c.sp; sp = c.sp + 1; pc = c.pc + 1; flags = flags_of (slice_index c.mem c.sp) false c.flags.carry }
after StoreR0 c = record c { pc = c.pc + 1; mem = slice_set c.mem c.sp c.r0; flags = flags_of c.r0 false c.flags.carry }
after (SetR1 n) c = record c { r1 = n; pc = c.pc + 2; flags = flags_of n false c.flags.carry }
after PushZero c = record c { sp = c.sp - 1; pc = c.pc + 1; mem = slice_set c.mem (c.sp - 1) 0; flags = flags_of 0 false false }
after WriteInteger c = record c { pc = c.pc + 1; console = record c.console { output = c.console.output ++ integer_text c.r0 c.r1 } }
after WriteEnd c = record c { pc = c.pc + 1; console = record c.console { output = c.console.output ++ 10 ∷ [] } }

-- the operation can be done, and writes only from one place up to another
abbrev pub Fits : ℕ → ℕ → Op → Cpu → Type 0
Fits lo hi (PushNumber n) c = (lo < c.sp) × (c.sp ≤ hi)
Fits lo hi (PushWord g) c = (lo < c.sp) × (c.sp ≤ hi) × (g < MEMORY_END_WORD)
Fits lo hi (PopWord g) c = (lo ≤ g) × (g < hi) × (c.sp < MEMORY_END_WORD)
Fits lo hi AddTop c = (lo ≤ c.sp) × (c.sp + 1 < hi)
Fits lo hi (CompareTop n) c = c.sp < MEMORY_END_WORD
Fits lo hi PopR0 c = c.sp < MEMORY_END_WORD
Fits lo hi PopR1 c = c.sp < MEMORY_END_WORD
Fits lo hi StoreR0 c = (lo ≤ c.sp) × (c.sp < hi)
Fits lo hi (SetR1 n) c = Unit {0}
Fits lo hi PushZero c = (lo < c.sp) × (c.sp ≤ hi)
Fits lo hi WriteInteger c = (0 < c.r1) × (c.r1 < 256) × (length c.console.output + length (integer_text c.r0 c.r1) ≤ CONSOLE_ROOM_BYTES)
Fits lo hi WriteEnd c = length c.console.output + 1 ≤ CONSOLE_ROOM_BYTES

-- each operation is one step of the machine
pub op_step : (lo hi : ℕ) (o : Op) (c : Cpu) → hi ≤ MEMORY_END_WORD → c.pc < GLOBALS_WORD → HasAt c.mem c.pc (words_of o) → Fits lo hi o c → quiet_step (state_of c) ≡ Some (state_of (after o c))
op_step lo hi (PushNumber n) c top hp has fit =
    let w = has.0 in let a = has.1.0 in
    let h : c.pc < 28672 = omega arith in let h1 : c.pc + 1 < 28672 = omega arith in
    let s : 0 < c.sp = omega (arith, fit.0) in let t : c.sp ≤ 28672 = omega (arith, fit.1) in let g : c.sp - 1 < 28672 = omega arith in
    simp (half, w, a, even_place, next, down, two_on)
op_step lo hi (PushWord g) c top hp has fit =
    let w = has.0 in let a = has.1.0 in
    let h : c.pc < 28672 = omega arith in let h1 : c.pc + 1 < 28672 = omega arith in
    let s : 0 < c.sp = omega (arith, fit.0) in let t : c.sp ≤ 28672 = omega (arith, fit.1) in let k : c.sp - 1 < 28672 = omega arith in let hg : g < 28672 = fit.2 in
    simp (half, w, a, even_place, next, down, two_on)
op_step lo hi (PopWord g) c top hp has fit =
    let w = has.0 in let a = has.1.0 in
    let h : c.pc < 28672 = omega arith in let h1 : c.pc + 1 < 28672 = omega arith in
    let t : c.sp < 28672 = fit.2 in let hg : g < 28672 = omega (arith, fit.1) in
    simp (half, w, a, even_place, next, two_on)
op_step lo hi AddTop c top hp has fit =
    let w = has.0 in
    let h : c.pc < 28672 = omega arith in
    let s : c.sp < 28672 = omega (arith, fit.1) in let t : c.sp + 1 < 28672 = omega (arith, fit.1) in
    simp (half, w, even_place, next)
op_step lo hi (CompareTop n) c top hp has fit =
    let w = has.0 in let a = has.1.0 in
    let h : c.pc < 28672 = omega arith in let h1 : c.pc + 1 < 28672 = omega arith in
    let s : c.sp < 28672 = fit in
    simp (half, w, a, even_place, next, two_on)
op_step lo hi PopR0 c top hp has fit =
    let w = has.0 in let h : c.pc < 28672 = omega arith in let s : c.sp < 28672 = fit in
    simp (half, w, even_place, next)
op_step lo hi PopR1 c top hp has fit =
    let w = has.0 in let h : c.pc < 28672 = omega arith in let s : c.sp < 28672 = fit in
    simp (half, w, even_place, next)
op_step lo hi StoreR0 c top hp has fit =
    let w = has.0 in
    let h : c.pc < 28672 = omega arith in
    let s : c.sp < 28672 = omega (arith, fit.1) in
    simp (half, w, even_place, next)
op_step lo hi (SetR1 n) c top hp has fit =
    let w = has.0 in let a = has.1.0 in
    let h : c.pc < 28672 = omega arith in let h1 : c.pc + 1 < 28672 = omega arith in
    simp (half, w, a, even_place, next, two_on)
op_step lo hi PushZero c top hp has fit =
    let w = has.0 in
    let h : c.pc < 28672 = omega arith in
    let s : 0 < c.sp = omega (arith, fit.0) in let t : c.sp ≤ 28672 = omega (arith, fit.1) in let g : c.sp - 1 < 28672 = omega arith in
    simp (half, w, even_place, next, down)
op_step lo hi WriteInteger c top hp has fit =
    let w = has.0 in let h : c.pc < 28672 = omega arith in
    let a : nat_le 1 c.r1 ≡ true = grind (arith, nat_tests, fit.0) in let b : nat_le c.r1 255 ≡ true = grind (arith, nat_tests, fit.1) in
    let room : length c.console.output + length (integer_text c.r0 c.r1) ≤ CONSOLE_ROOM_BYTES = fit.2 in
    simp (half, w, a, b, even_place, next, written_fits)
op_step lo hi WriteEnd c top hp has fit =
    let w = has.0 in let h : c.pc < 28672 = omega arith in
    let room : length c.console.output + length {A = ℕ} (10 ∷ []) ≤ CONSOLE_ROOM_BYTES = fit in
    simp (half, w, even_place, next, written_fits)
