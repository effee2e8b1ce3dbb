-- A frame is laid out part by part.
use Rattle.std.proofs.Common.{◌≡◌, ℕ, ◌+◌, arith, List, [], ◌∷◌, ◌++◌, map, refl, sym, ap, ◌∙◌}
use Rattle.core_tree.specs.declared.shape.ShapeEntry.{ShapeEntry}
use Rattle.core_tree.specs.declared.program.CoreRoutine.{CoreRoutine}
use Rattle.core_tree.specs.Shapes.{counted_words}
use Rattle.frame_layout.specs.declared.frame.Frame.{Frame}
use Rattle.frame_layout.specs.declared.rows.LayoutRow.{LayoutRow}
use Rattle.frame_layout.specs.Slots.{Slot, empty_frame, frame_after, frame_with, parameter_slot, result_slots, routine_frame, slot_words, variable_slot}

frame-append : (entries : List ShapeEntry) (f : Frame) (ss ts : List Slot) → frame_after entries f (ss ++ ts) ≡ frame_after entries (frame_after entries f ss) ts
frame-append entries f [] ts = refl
frame-append entries f (s ∷ ss) ts = frame-append entries (frame_with entries f s) ss ts

pub frame_in_parts : (entries : List ShapeEntry) (r : CoreRoutine) (f g h k : Frame) → f ≡ empty_frame → g ≡ frame_after entries f (result_slots r.ident r.heading.result)
    → h ≡ frame_after entries g (map parameter_slot r.heading.parameters) → k ≡ frame_after entries h (map variable_slot r.variables) → k ≡ routine_frame entries r
frame_in_parts entries r f g h k first second third fourth =
    fourth ∙ (ap (λ x. frame_after entries x (map variable_slot r.variables)) (third ∙ ap (λ x. frame_after entries x (map parameter_slot r.heading.parameters)) (second ∙ ap (λ x. frame_after entries x (result_slots r.ident r.heading.result)) first))
    ∙ (sym (frame-append entries (frame_after entries empty_frame (result_slots r.ident r.heading.result)) (map parameter_slot r.heading.parameters) (map variable_slot r.variables))
    ∙ sym (frame-append entries empty_frame (result_slots r.ident r.heading.result) (map parameter_slot r.heading.parameters ++ map variable_slot r.variables))))

last_counted : (a b : ℕ) → counted_words (a + counted_words b) ≡ counted_words (a + b)
last_counted a b = omega arith

pub put_turn : (entries : List ShapeEntry) (f : Frame) (s : Slot) (ident : List ℕ) (rows : List LayoutRow) (n m : ℕ) → ident ≡ s.ident
    → rows ≡ f.rows ++ record { ident = ident; shape = s.shape; offset = f.words; by_place = s.by_place } ∷ []
    → n ≡ counted_words (slot_words entries s) → m ≡ counted_words (f.words + n) → record { rows = rows; words = m } ≡ frame_with entries f s
put_turn entries f s ident rows n m same rows_are n_is m_is =
    ap (λ r. record { rows = r; words = m }) (rows_are ∙ ap (λ i. f.rows ++ record { ident = i; shape = s.shape; offset = f.words; by_place = s.by_place } ∷ []) same)
    ∙ ap (λ k. record { rows = f.rows ++ record { ident = s.ident; shape = s.shape; offset = f.words; by_place = s.by_place } ∷ []; words = k }) (m_is ∙ (ap (λ k. counted_words (f.words + k)) n_is ∙ last_counted f.words (slot_words entries s)))
