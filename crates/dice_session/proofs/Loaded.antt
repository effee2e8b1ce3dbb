-- A machine into which a program was loaded stands for the state before its start.
use Rattle.std.proofs.Common.{◌≡◌, ◌≢◌, ℕ, ◌+◌, ◌*◌, ◌<◌, ◌≤◌, ◌⊎◌, inl, inr, false, List, [], ◌∷◌, length, replicate, refl, sym, ap, ◌∙◌, arith, length-set}
use Rattle.std.specs.Prelude.{slice_index, slice_set, ◌/◌, nat_eq, ◌||◌}
use Rattle.std.proofs.lemmas.Bool.Decides.{nat_tests}
use Rattle.std.proofs.lemmas.List.{get_or-set_same, get_or-set_other, length-replicate, get_or_past, get_or-replicate}
use Rattle.std.proofs.lemmas.Bool.{cases_lt}
use Rattle.pdp11_machine.specs.State.{MachineState, with_word, zero_machine}
use Rattle.console_service.specs.Console.{ConsoleState}
use Rattle.console_service.specs.Run.{gate_here}
use Rattle.console_service.specs.Cpu.{Cpu, state_of, HasAt}
use Rattle.console_service.specs.declared.memory_map.TheConstants.{CODE_WORD, GLOBALS_WORD, MEMORY_END_WORD}
use Rattle.pascal_semantics.specs.declared.form.Statement.{Statement}
use Rattle.pascal_semantics.specs.Charge.{program_charge}
use Rattle.pascal_semantics.specs.State.{loaded_state}
use Rattle.statement_code.specs.Emitted.{IsNoGate}
use Rattle.pascal_semantics.specs.Valid.{IsProgram, program_name}
use Rattle.dice_session.proofs.After.{parts_of}
use Rattle.image_plan.specs.Load.{IsLoad, extent_of}
use Rattle.dice_session.specs.Places.{with_words, with_start}
use Rattle.dice_session.specs.Simulates.{SimulatesRun}

-- ---- a memory with words written

memory_with : List ℕ → ℕ → List ℕ → List ℕ
memory_with mem p [] = mem
memory_with mem p (w ∷ ws) = memory_with (slice_set mem p w) (p + 1) ws

poked_memory : (m : MachineState) (p : ℕ) (ws : List ℕ) → with_words m p ws ≡ record m { memory = memory_with m.memory p ws }
unfolding with_words memory_with
poked_memory m p [] = refl
poked_memory m p (w ∷ ws) = poked_memory (with_word m (2 * p) w) (p + 1) ws ∙ ap (λ q. record m { memory = memory_with (slice_set m.memory q w) (p + 1) ws }) (half p)
  where
    half : (p : ℕ) → 2 * p / 2 ≡ p
    half p = omega (arith)

with_long : (mem : List ℕ) (p : ℕ) (ws : List ℕ) → length (memory_with mem p ws) ≡ length mem
unfolding memory_with
with_long mem p [] = refl
with_long mem p (w ∷ ws) = with_long (slice_set mem p w) (p + 1) ws ∙ length-set mem p w

with_kept : (mem : List ℕ) (p : ℕ) (ws : List ℕ) (k : ℕ) → (k < p) ⊎ (p + length ws ≤ k) → slice_index (memory_with mem p ws) k ≡ slice_index mem k
unfolding memory_with
with_kept mem p [] k out = refl
with_kept mem p (w ∷ ws) k out = with_kept (slice_set mem p w) (p + 1) ws k (later out) ∙ get_or-set_other mem p k w 0 (apart out)
  where
    later : (k < p) ⊎ (p + length (w ∷ ws) ≤ k) → (k < p + 1) ⊎ (p + 1 + length ws ≤ k)
    later (inl lt) = inl (omega (arith, lt))
    later (inr ge) = inr (omega (arith, ge))

    apart : (k < p) ⊎ (p + length (w ∷ ws) ≤ k) → k ≢ p
    apart (inl lt) = λ e. absurd (omega (arith, lt, e))
    apart (inr ge) = λ e. absurd (omega (arith, ge, e))

with_at : (mem : List ℕ) (p : ℕ) (ws : List ℕ) → p + length ws ≤ length mem → HasAt (memory_with mem p ws) p ws
unfolding memory_with
with_at mem p [] fits = tt
with_at mem p (w ∷ ws) fits = (
  with_kept (slice_set mem p w) (p + 1) ws p (inl (omega arith)) ∙ get_or-set_same mem p w 0 (omega (arith, fits)),
  with_at (slice_set mem p w) (p + 1) ws (omega (arith, fits, length-set mem p w)),
)

pub zeros : (n i : ℕ) → slice_index (replicate n 0) i ≡ 0
zeros n i = elim (cases_lt i n) [ inl low ↦ get_or-replicate n i 0 0 low | inr past ↦ get_or_past _ i 0 (rw length-replicate past) ]

-- ---- the machine

abbrev pub loaded_cpu : List ℕ → ConsoleState → Cpu
loaded_cpu mem k = record { r0 = 0; r1 = 0; r2 = 0; r3 = 0; r4 = 0; r5 = 0; sp = 28672; pc = 256; mem = mem; flags = record { negative = false; zero = false; overflow = false; carry = false }; upper = 0; console = k }

is_loaded : (ws : List ℕ) (k : ConsoleState) → state_of (loaded_cpu (memory_with (replicate 28672 0) 256 ws) k) ≡ (with_start (with_words zero_machine 256 ws), k)
unfolding zero_machine
is_loaded ws k = sym (ap (λ m. (with_start m, k)) (poked_memory zero_machine 256 ws))

has_first : (mem : List ℕ) (p : ℕ) (ws : List ℕ) → 1 ≤ length ws → HasAt mem p ws → slice_index mem p ≡ slice_index ws 0
has_first mem p [] some h = absurd (omega (arith, some))
has_first mem p (w ∷ ws) some h = h.0

no_gate : (mem : List ℕ) (k : ConsoleState) (w : ℕ) → slice_index mem 256 ≡ w → IsNoGate w → gate_here (state_of (loaded_cpu mem k)) ≡ false
no_gate mem k w e is =
    let a : nat_eq w 160 ≡ false = grind (arith, nat_tests, is.no_nop) in let b : nat_eq w 3 ≡ false = grind (arith, nat_tests, is.no_bpt) in
    ap (λ x. nat_eq x 160 || nat_eq x 3) e ∙ ap (λ x. x || nat_eq w 3) a ∙ b

-- ---- the whole

pub loaded_stands : (ss : List Statement) (ws : List ℕ) → IsProgram ss → IsLoad ss ws → SimulatesRun ss loaded_state (with_start (with_words zero_machine 256 ws))
loaded_stands ss ws is l k empty = record {
  cpu = c;
  is = is_loaded ws k;
  long = long;
  blocks = l.blocks;
  places = l.places;
  parts = l.parts;
  image = l.image mem long here;
  represents = record {
    control = record { lies = l.parts.program; is = l.parts.entry; begin = l.parts.begin; place = sym at.0; at = refl; no_gate = no_gate mem k (slice_index ws 0) (has_first mem 256 ws (omega (arith, l.long)) here) l.first };
    variables = record { count = length-replicate {A = ℕ} 4096 0; small = λ n. small n; each = λ n lt. behind (GLOBALS_WORD + n) (omega arith) ∙ sym (zeros 4096 n) };
    frames = refl;
    console = empty;
  };
  fresh = λ e. record { words = ws; long = l.long; only = refl };
}
  where
    mem : List ℕ
    mem = memory_with (replicate 28672 0) 256 ws

    c : Cpu
    c = loaded_cpu mem k

    long : length mem ≡ MEMORY_END_WORD
    long = with_long (replicate 28672 0) 256 ws ∙ length-replicate {A = ℕ} 28672 0

    most : 256 + length ws ≤ 10496
    most = omega (arith, l.long, is.fits)

    here : HasAt mem CODE_WORD ws
    here = with_at (replicate 28672 0) 256 ws (omega (arith, most, length-replicate {A = ℕ} 28672 0))

    behind : (n : ℕ) → GLOBALS_WORD ≤ n → slice_index mem n ≡ 0
    behind n le = with_kept (replicate 28672 0) 256 ws n (inr (omega (arith, most, le))) ∙ zeros 28672 n

    small : (n : ℕ) → slice_index (replicate 4096 0) n < 65536
    small n = omega (arith, zeros 4096 n)

    at : (l.parts.program.place ≡ CODE_WORD) × (length l.parts.program.words ≡ program_charge)
    at = parts_of l.parts.program.place (length l.parts.program.words) CODE_WORD program_charge (sym (ap extent_of l.parts.entry) ∙ l.places program_name)
