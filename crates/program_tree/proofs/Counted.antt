-- Names that count up are names.
use Rattle.std.proofs.Common.{◌≡◌, ℕ, ◌+◌, ◌≤◌, ◌<◌, List, [], ◌∷◌, false, eqb, arith}
use Rattle.std.specs.List.{AllByRecursion, IsDistinct}
use Rattle.std.proofs.lemmas.Bool.{ne_eqb}
use Rattle.pascal_tree.specs.declared.program.Tree.{Tree}
use Rattle.pascal_tree.specs.Names.{Counts, program_names}
use Rattle.program_tree.specs.Named.{IsNameBelow, IsNamed, IsProgram}

counts-le : (a : ℕ) (ns : List ℕ) (b : ℕ) → Counts a ns b → a ≤ b
counts-le a [] b h = omega arith
counts-le a (n ∷ ns) b h = (let k : a + 1 ≤ b = counts-le (a + 1) ns b h.1 in omega arith)

counts-within : (a : ℕ) (ns : List ℕ) (b : ℕ) → 1 ≤ a → Counts a ns b → AllByRecursion (IsNameBelow b) ns
counts-within a [] b low h = tt
counts-within a (n ∷ ns) b low h =
    (let e : n ≡ a = h.0 in
    let k : a + 1 ≤ b = counts-le (a + 1) ns b h.1 in
    let from : 1 ≤ n = omega arith in
    let to : n < b = omega arith in
    ((from, to), counts-within (a + 1) ns b (omega arith) h.1))

above : (x a : ℕ) (ns : List ℕ) (b : ℕ) → x < a → Counts a ns b → AllByRecursion (λ y. eqb x y ≡ false) ns
above x a [] b less h = tt
above x a (n ∷ ns) b less h =
    (let e : n ≡ a = h.0 in
    (ne_eqb x n (λ (same : x ≡ n). omega arith), above x (a + 1) ns b (omega arith) h.1))

counts-distinct : (a : ℕ) (ns : List ℕ) (b : ℕ) → Counts a ns b → IsDistinct eqb ns
unfolding IsDistinct
counts-distinct a [] b h = tt
counts-distinct a (n ∷ ns) b h =
    (let e : n ≡ a = h.0 in (above n (a + 1) ns b (omega arith) h.1, counts-distinct (a + 1) ns b h.1))

pub named_by_counting : (p : Tree) → Counts 1 (program_names p) p.next → p.next ≤ 4294967295 → IsNamed p
named_by_counting p counts small = record {
  differ = counts-distinct 1 (program_names p) p.next counts;
  within = counts-within 1 (program_names p) p.next (omega arith) counts;
  small = small;
}

below_later : (next later : ℕ) (ns : List ℕ) → next ≤ later → AllByRecursion (IsNameBelow next) ns → AllByRecursion (IsNameBelow later) ns
below_later next later [] more h = tt
below_later next later (n ∷ ns) more h =
    (let from : 1 ≤ n = h.0.0 in
    let old : n < next = h.0.1 in
    let to : n < later = omega arith in
    ((from, to), below_later next later ns more h.1))

-- a greater next name leaves the items named
pub named_later : (p : Tree) (later : ℕ) → IsNamed p → p.next ≤ later → later ≤ 4294967295 → IsNamed (record p { next = later })
named_later p later h more small = record {
  differ = h.differ;
  within = below_later p.next later (program_names p) more h.within;
  small = small;
}

-- so it leaves the invariant, of which the rest does not speak of it
pub program_later : (p : Tree) (later : ℕ) → IsProgram p → p.next ≤ later → later ≤ 4294967295 → IsProgram (record p { next = later })
program_later p later h more small = record { named = named_later p later h.named more small; formed = h.formed }
