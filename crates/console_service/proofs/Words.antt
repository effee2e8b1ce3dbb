-- The words of a block that was laid.
use Rattle.std.proofs.Common.{◌≡◌, ◌≢◌, ℕ, zero, suc, ◌+◌, ◌*◌, ◌<◌, ◌≤◌, List, [], ◌∷◌, length, length-set, Some, refl, sym, ap, ◌∙◌, subst, arith, ◌⊎◌, inl, inr}
use Rattle.std.proofs.lemmas.Bool.{cases_lt, cases_eq}
use Rattle.std.specs.Prelude.{slice_index, slice_set}
use Rattle.std.proofs.lemmas.List.{get_or-set_same, get_or-set_other, set_past}
use Rattle.dice_base.specs.declared.link.LinkTo.{LinkTo}
use Rattle.console_service.specs.Cpu.{HasAt}
use Rattle.console_service.specs.Block.{Gate, Link, Block, linked, set_at, laid}
use Rattle.console_service.specs.Image.{NoLink, IsBlock}

pub has_index : (mem : List ℕ) (p k : ℕ) (ws : List ℕ) → HasAt mem p ws → k < length ws → slice_index mem (p + k) ≡ slice_index ws k
has_index mem p k [] h lt = absurd (omega (arith, lt))
has_index mem p zero (w ∷ ws) h lt = let e : p + 0 ≡ p = omega arith in ap (slice_index mem) e ∙ h.0
has_index mem p (suc k) (w ∷ ws) h lt = let e : p + suc k ≡ p + 1 + k = omega arith in ap (slice_index mem) e ∙ has_index mem (p + 1) k ws h.1 (omega (arith, lt))

pub index_has : (mem : List ℕ) (p : ℕ) (ws : List ℕ) → ((k : ℕ) → k < length ws → slice_index mem (p + k) ≡ slice_index ws k) → HasAt mem p ws
index_has mem p [] h = tt
index_has mem p (w ∷ ws) h = (let e : p ≡ p + 0 = omega arith in ap (slice_index mem) e ∙ h 0 (omega arith), index_has mem (p + 1) ws (λ k lt. let e : p + 1 + k ≡ p + suc k = omega arith in ap (slice_index mem) e ∙ h (suc k) (omega (arith, lt))))

-- a word that is no link stays
pub linked_other : (ws : List ℕ) (ls : List Link) (q : LinkTo → ℕ) (k : ℕ) → NoLink ls k → slice_index (linked ws ls q) k ≡ slice_index ws k
linked_other ws [] q k free = refl
linked_other ws (l ∷ ls) q k free = let ne : k ≢ l.at = λ e. free.0 (sym e) in linked_other (slice_set ws l.at (2 * q l.to)) ls q k free.1 ∙ get_or-set_other ws l.at k (2 * q l.to) 0 ne

-- the gate holds its word
pub laid_gate : (b : Block) (g : ℕ) (q : LinkTo → ℕ) (k : ℕ) → IsBlock b → b.part_at Gate ≡ Some k → slice_index (laid b g q) k ≡ g
laid_gate b g q k is e = linked_other (set_at (b.part_at Gate) g b.words) b.links q k (is.gate_free k e) ∙ ap (λ o. slice_index (set_at o g b.words) k) e ∙ get_or-set_same b.words k g 0 (is.gate_in k e)

-- words with different words at one place have the same links elsewhere
linked_apart : (ws us : List ℕ) (ls : List Link) (q : LinkTo → ℕ) (j : ℕ) → length ws ≡ length us → slice_index ws j ≡ slice_index us j → slice_index (linked ws ls q) j ≡ slice_index (linked us ls q) j
linked_apart ws us [] q j long same = same
linked_apart ws us (l ∷ ls) q j long same =
    let a : length (slice_set ws l.at (2 * q l.to)) ≡ length ws = simp length-set in
    let b : length (slice_set us l.at (2 * q l.to)) ≡ length us = simp length-set in
    linked_apart (slice_set ws l.at (2 * q l.to)) (slice_set us l.at (2 * q l.to)) ls q j (a ∙ long ∙ sym b) (by (cases_eq j l.at))
  where
    by : (j ≡ l.at) ⊎ (j ≢ l.at) → slice_index (slice_set ws l.at (2 * q l.to)) j ≡ slice_index (slice_set us l.at (2 * q l.to)) j
    by (inr ne) = get_or-set_other ws l.at j (2 * q l.to) 0 ne ∙ same ∙ sym (get_or-set_other us l.at j (2 * q l.to) 0 ne)
    by (inl e) = inside (cases_lt l.at (length ws))
      where
        inside : (l.at < length ws) ⊎ (length ws ≤ l.at) → slice_index (slice_set ws l.at (2 * q l.to)) j ≡ slice_index (slice_set us l.at (2 * q l.to)) j
        inside (inr past) = ap (λ x. slice_index x j) (set_past ws l.at (2 * q l.to) past) ∙ same ∙ sym (ap (λ x. slice_index x j) (set_past us l.at (2 * q l.to) (omega (arith, past, long))))
        inside (inl lt) = rw e (get_or-set_same ws l.at (2 * q l.to) 0 lt ∙ sym (get_or-set_same us l.at (2 * q l.to) 0 (omega (arith, lt, long))))

-- but for the gate, the words are the same whatever its word is
pub laid_other : (b : Block) (g h : ℕ) (q : LinkTo → ℕ) (k j : ℕ) → b.part_at Gate ≡ Some k → j ≢ k → slice_index (laid b g q) j ≡ slice_index (laid b h q) j
laid_other b g h q k j at ne =
    subst (λ o. slice_index (linked (set_at o g b.words) b.links q) j ≡ slice_index (linked (set_at o h b.words) b.links q) j) (sym at)
    (let x : length (slice_set b.words k g) ≡ length b.words = simp length-set in let y : length (slice_set b.words k h) ≡ length b.words = simp length-set in
    linked_apart (slice_set b.words k g) (slice_set b.words k h) b.links q j (x ∙ sym y) (get_or-set_other b.words k j g 0 ne ∙ sym (get_or-set_other b.words k j h 0 ne)))
