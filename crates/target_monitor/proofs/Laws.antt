-- What requests count, and what they leave as it was.
use Rattle.std.proofs.Common.{◌≡◌, ◌≢◌, ◌⊎◌, inl, inr, ℕ, suc, ◌+◌, ◌*◌, ◌/◌, ◌%◌, ◌<◌, ◌≤◌, Bool, true, false, List, [], ◌∷◌, length, refl, ◌∙◌, arith}
use Rattle.std.specs.Prelude.{◌&&◌, nat_eq, nat_le, slice_index, if◌then◌else◌}
use Rattle.std.proofs.lemmas.Bool.{and_parts, eqb-true, leb-true}
use Rattle.std.proofs.lemmas.List.{get_or-set_other}
use Rattle.pdp11_machine.specs.State.{MachineState, word_at, with_word}
use Rattle.console_service.specs.declared.memory_map.TheConstants.{CODE_BYTE, GLOBALS_BYTE}
use Rattle.console_service.specs.Run.{is_gate_word}
use Rattle.target_monitor.specs.declared.requests.Request.{Request}
use Rattle.target_monitor.specs.declared.requests.Request.TheVariants.{Reset, Poke, Peek, Registers, Gate, Go, Drain, Feed}
use Rattle.target_monitor.specs.declared.requests.Reply.{Reply}
use Rattle.target_monitor.specs.declared.target.ProgramStatus.{ProgramStatus}
use Rattle.target_monitor.specs.declared.target.ProgramStatus.TheVariants.{Unfinished, Ended, Failed}
use Rattle.target_monitor.specs.Served.{TargetState, count_after, is_in_code, with_words, gate_word, after_go, served}
use Rattle.target_monitor.specs.Counts.{is_reset, goes_on, is_run, IsPassive, SameBesideCode}

-- a fact of both outcomes is one of the outcome
if-either : {A : Type 0} (P : A → Type 0) (b : Bool) (x y : A) → (b ≡ true → P x) → P y → P (if b then x else y)
if-either P true x y p q = p refl
if-either P false x y p q = q

resets-after_go : (status : ProgramStatus) (gates : ℕ) (t : TargetState) → (after_go status gates t).0.resets ≡ t.resets
resets-after_go Unfinished gates t = refl
resets-after_go Ended gates t = refl
resets-after_go (Failed n) gates t = refl

-- the count of Resets rises by one at a Reset, and at no other request
pub resets-served : (r : Request) (t : TargetState) → (served r t).0.resets ≡ (if is_reset r then count_after t.resets else t.resets)
resets-served Reset t = refl
resets-served (Poke place words) t = if-either {A = TargetState × Reply} (λ x. x.0.resets ≡ t.resets) _ _ _ (λ e. refl) refl
resets-served (Peek place count) t = if-either {A = TargetState × Reply} (λ x. x.0.resets ≡ t.resets) _ _ _ (λ e. refl) refl
resets-served Registers t = refl
resets-served (Gate place breaks) t = if-either {A = TargetState × Reply} (λ x. x.0.resets ≡ t.resets) _ _ _ (λ e. refl) refl
resets-served (Go gates) t = resets-after_go t.status gates t
resets-served Drain t = refl
resets-served (Feed total piece) t = if-either {A = TargetState × Reply} (λ x. x.0.resets ≡ t.resets) _ _ _ (λ e. refl) refl

goes-after_go : (status : ProgramStatus) (gates : ℕ) (t : TargetState) → (after_go status gates t).0.goes ≡ (if goes_on status then count_after t.goes else t.goes)
goes-after_go Unfinished gates t = refl
goes-after_go Ended gates t = refl
goes-after_go (Failed n) gates t = refl

-- the count of Gos rises by one at a Go that is carried out, and at no other request
pub goes-served : (r : Request) (t : TargetState) → (served r t).0.goes ≡ (if is_run r t.status then count_after t.goes else t.goes)
goes-served Reset t = refl
goes-served (Poke place words) t = if-either {A = TargetState × Reply} (λ x. x.0.goes ≡ t.goes) _ _ _ (λ e. refl) refl
goes-served (Peek place count) t = if-either {A = TargetState × Reply} (λ x. x.0.goes ≡ t.goes) _ _ _ (λ e. refl) refl
goes-served Registers t = refl
goes-served (Gate place breaks) t = if-either {A = TargetState × Reply} (λ x. x.0.goes ≡ t.goes) _ _ _ (λ e. refl) refl
goes-served (Go gates) t = goes-after_go t.status gates t
goes-served Drain t = refl
goes-served (Feed total piece) t = if-either {A = TargetState × Reply} (λ x. x.0.goes ≡ t.goes) _ _ _ (λ e. refl) refl

same : (s : MachineState) → SameBesideCode s s
same s = record { registers = refl; flags = refl; upper = refl; words = λ k o. refl }

-- a word lies beside so many words from another on
abbrev Beside : ℕ → ℕ → ℕ → Type 0
Beside k first count = (k < first) ⊎ (first + count ≤ k)

beside_first : (k first count : ℕ) → Beside k first (suc count) → k ≢ first
beside_first k first count (inl lt) = omega (arith, lt)
beside_first k first count (inr le) = omega (arith, le)

beside_rest : (k first next count : ℕ) → next ≡ first + 1 → Beside k first (suc count) → Beside k next count
beside_rest k first next count e (inl lt) = inl (omega (arith, e, lt))
beside_rest k first next count e (inr le) = inr (omega (arith, e, le))

half_next : (place : ℕ) → (place + 2) / 2 ≡ place / 2 + 1
half_next place = omega arith

-- nothing but so many words from a word on differs
record SameBesideWords (first count : ℕ) (s u : MachineState) : Type 0 where
  registers : u.registers ≡ s.registers
  flags : u.flags ≡ s.flags
  upper : u.upper ≡ s.upper
  words : (k : ℕ) → Beside k first count → slice_index u.memory k ≡ slice_index s.memory k

same_written : (ws : List ℕ) (s : MachineState) (place : ℕ) → SameBesideWords (place / 2) (length ws) s (with_words s place ws)
unfolding with_words
same_written [] s place = record { registers = refl; flags = refl; upper = refl; words = λ k o. refl }
same_written (w ∷ ws) s place =
    let rest = same_written ws (with_word s place w) (place + 2) in
    record {
      registers = rest.registers;
      flags = rest.flags;
      upper = rest.upper;
      words = λ k o. rest.words k (beside_rest k (place / 2) ((place + 2) / 2) (length ws) (half_next place) o) ∙ get_or-set_other s.memory (place / 2) k w 0 (beside_first k (place / 2) (length ws) o);
    }

-- the code area and the area of patches hold these words
in_code : (place count : ℕ) → is_in_code place (2 * count) ≡ true → (256 ≤ place / 2) × (place / 2 + count ≤ 13568)
in_code place count e =
    let parts = and_parts (nat_eq (place % 2) 0 && nat_le CODE_BYTE place) (nat_le (place + 2 * count) GLOBALS_BYTE) e in
    let begin = and_parts (nat_eq (place % 2) 0) (nat_le CODE_BYTE place) parts.0 in
    let at = eqb-true (place % 2) 0 begin.0 in
    let from = leb-true CODE_BYTE place begin.1 in
    let to = leb-true (place + 2 * count) GLOBALS_BYTE parts.1 in
    (omega (arith, at, from, to), omega (arith, at, from, to))

beside_code : (k first count : ℕ) → 256 ≤ first → first + count ≤ 13568 → (k < 256) ⊎ (13568 ≤ k) → Beside k first count
beside_code k first count low high (inl lt) = inl (omega (arith, low, lt))
beside_code k first count low high (inr le) = inr (omega (arith, high, le))

same_poked : (ws : List ℕ) (s : MachineState) (place : ℕ) → is_in_code place (2 * length ws) ≡ true → SameBesideCode s (with_words s place ws)
same_poked ws s place e =
    let w = same_written ws s place in
    let (low, high) = in_code place (length ws) e in
    record { registers = w.registers; flags = w.flags; upper = w.upper; words = λ k o. w.words k (beside_code k (place / 2) (length ws) low high o) }

beside_one : (k first : ℕ) → 256 ≤ first → first + 1 ≤ 13568 → (k < 256) ⊎ (13568 ≤ k) → k ≢ first
beside_one k first low high (inl lt) = omega (arith, low, lt)
beside_one k first low high (inr le) = omega (arith, high, le)

same_gated : (s : MachineState) (place word : ℕ) → is_in_code place 2 ≡ true → SameBesideCode s (with_word s place word)
same_gated s place word e =
    let (low, high) = in_code place 1 e in
    record { registers = refl; flags = refl; upper = refl; words = λ k o. get_or-set_other s.memory (place / 2) k word 0 (beside_one k (place / 2) low high o) }

-- a request beside Reset and Go changes neither the registers nor the words outside the code area and that of patches
pub same-served : (r : Request) (t : TargetState) → IsPassive r → SameBesideCode t.machine (served r t).0.machine
same-served (Poke place words) t passive = if-either {A = TargetState × Reply} (λ x. SameBesideCode t.machine x.0.machine) _ _ _ (same_poked words t.machine place) (same t.machine)
same-served (Peek place count) t passive = if-either {A = TargetState × Reply} (λ x. SameBesideCode t.machine x.0.machine) _ _ _ (λ e. same t.machine) (same t.machine)
same-served Registers t passive = same t.machine
same-served (Gate place breaks) t passive = if-either {A = TargetState × Reply} (λ x. SameBesideCode t.machine x.0.machine) _ _ _ (λ e. same_gated t.machine place (gate_word breaks) (and_parts (is_in_code place 2) (is_gate_word (word_at t.machine place)) e).0) (same t.machine)
same-served Drain t passive = same t.machine
same-served (Feed total piece) t passive = if-either {A = TargetState × Reply} (λ x. SameBesideCode t.machine x.0.machine) _ _ _ (λ e. same t.machine) (same t.machine)
same-served other t passive = absurd passive
