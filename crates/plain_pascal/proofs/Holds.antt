-- A record of a `with` that is found keeps a state in order.
use Rattle.std.proofs.Common.{◌≡◌, ℕ, suc, ◌+◌, ◌-◌, List, [], ◌∷◌, ◌++◌, length, Some, None, sym, ◌∙◌, subst, arith, inl, inr}
use Rattle.std.specs.Prelude.{take}
use Rattle.core_tree.specs.declared.op.Op.TheVariants as op
use Rattle.core_tree.specs.declared.op.EffectOp.TheVariants as effect
use Rattle.core_tree.specs.Plain.{Operation, Exprs, part_at}
use Rattle.plain_pascal.specs.Program.{Kind, PlaceKind, Row, Program}
use Rattle.plain_pascal.specs.State.{Value, Word, Members, At, NoValue, OfStatement, OfExpr, PendingFrame, Activation, Data, Control}
use Rattle.plain_pascal.specs.Operations.{part}
use Rattle.plain_pascal.specs.Statements.{Does, held, held_in}
use Rattle.plain_pascal.specs.Step.{effected, given}
use Rattle.plain_pascal.specs.Typed.{IsEffect}
use Rattle.plain_pascal.specs.Valid.{IsOf, AreOf, AtStatement, InProgress, NewestStands, IsData, IsProgram, IsWellFormed, held_by_first, kinds_held, within}
use Rattle.plain_pascal.proofs.Gates.{Holding, lies_held, rehold}
use Rattle.plain_pascal.proofs.Joined.{joined_kinds, no_more_kinds}
use Rattle.plain_pascal.proofs.Held.{effect_outside, given_more, number_of, outer_part}
use Rattle.plain_pascal.proofs.Keeps.{at_work, effect_kind, effect_typed, operation_progress, progress_at}
use Rattle.plain_pascal.proofs.Leaves.{HoldingJust, held_data, one_held}
use Rattle.plain_pascal.proofs.Moves.{frames_moved}
use Rattle.plain_pascal.proofs.Places.{shorter_lies}

module _ (P : Program) (program : IsProgram P) (d : Data) (good : IsData d) (a : Activation) (xs : List Activation) (same : d.activations ≡ a ∷ xs) (n : ℕ) (cs : List Control) (number words : ℕ) (ps : Exprs) (kept : List Value) where
  abbrev acts : List Activation
  acts = a ∷ xs

  abbrev own : PendingFrame
  own = record { node = OfExpr (Operation (op.Effect (effect.Hold number words)) ps); kept = kept }

  abbrev Stand : List PendingFrame → Type 0
  Stand fs = NewestStands P acts (record { statement = n; frames = fs } ∷ cs) acts

  -- the record's place
  record_place : (done : List Kind) → IsEffect (effect.Hold number words) done → AreOf acts (length xs) done kept → IsOf acts (length xs) (PlaceKind words) (part kept 0)
  record_place (PlaceKind whole ∷ []) t ho = by kept ho
    where
      by : (vs : List Value) → AreOf acts (length xs) (PlaceKind whole ∷ []) vs → IsOf acts (length xs) (PlaceKind words) (part vs 0)
      by [] h = absurd h
      by (At p ∷ vs) h = shorter_lies acts (length xs) p words whole h.0 t
      by (Word w ∷ vs) h = absurd h.0
      by (Members ws ∷ vs) h = absurd h.0
      by (NoValue ∷ vs) h = absurd h.0
  record_place done t ho = absurd t

  joined_length : (ks js : List Kind) → length (ks ++ js) ≡ length ks + length js
  joined_length [] js = omega arith
  joined_length (k ∷ ks) js = let h : length (ks ++ js) ≡ length ks + length js = joined_length ks js in omega (arith, h)

  -- with one more hold the frames stay in order
  moved_progress : (row : Row) (fs : List PendingFrame) (hs : List Value) → InProgress P acts (length xs) row fs → InProgress P (rehold a xs hs ∷ xs) (length xs) row fs
  moved_progress row fs hs (rest, fr, inside) =
      (rest, frames_moved P acts (rehold a xs hs ∷ xs) (suc (length xs)) (λ newest less p k l. lies_held a xs hs newest p k l) (length xs) (omega arith) row rest fs fr, inside)

  hold_stands : (fs : List PendingFrame) → part_at ps (length kept) ≡ None → Stand (own ∷ fs) → NewestStands P (held_in acts (number - 1) (part kept 0)) (record { statement = n; frames = given NoValue fs } ∷ cs) (held_in acts (number - 1) (part kept 0))
  hold_stands fs full h =
      let (done, t, ho) = effect_typed P program n cs d good a xs same (effect.Hold number words) ps kept fs full h in
      by fs (record_place done t ho) at.held (progress_at P program n cs d good a xs same own fs at)
      (operation_progress P program n cs d good a xs same (op.Effect (effect.Hold number words)) ps kept fs NoValue full at.row (λ k js s hs. effect_kind P program n cs d good a xs same (within at.row (kinds_held at.row (own ∷ fs))) (effect.Hold number words) k js s)
      (progress_at P program n cs d good a xs same own fs at))
    where
      at : AtStatement P (a ∷ xs) (length xs) a (record { statement = n; frames = own ∷ fs })
      at = at_work P program n cs d good a xs same own fs h

      by : (gs : List PendingFrame) → IsOf acts (length xs) (PlaceKind words) (part kept 0) → AreOf acts (length xs) (kinds_held at.row (own ∷ gs)) a.holds → InProgress P acts (length xs) at.row (own ∷ gs) → InProgress P acts (length xs) at.row (given NoValue gs)
          → NewestStands P (held_in acts (number - 1) (part kept 0)) (record { statement = n; frames = given NoValue gs } ∷ cs) (held_in acts (number - 1) (part kept 0))
      by [] place hold (rest, fr, inside) after = absurd (let clash : OfExpr (Operation (op.Effect (effect.Hold number words)) ps) ≡ OfStatement at.row.form = fr.0 in grind (arith, clash))
      by (g ∷ (k ∷ gs)) place hold (rest, fr, inside) after = absurd (effect_outside P acts (length xs) at.row (fr.2 ∷ fr.3) (effect.Hold number words) ps kept g k gs fr.6 inside)
      by (g ∷ []) place hold (rest, fr, inside) after =
          let next : part_at at.row.form.parts (length g.kept) ≡ Some (Operation (op.Effect (effect.Hold number words)) ps) = outer_part at.row (Operation (op.Effect (effect.Hold number words)) ps) g inside.1 inside.0 in
          let counted : number ≡ suc (at.row.form.holds + length (held_by_first (length g.kept) at.row.form.parts)) =
          number_of at.row.form.parts (length g.kept) at.row.form.holds number words ps (program.forms n at.row at.found).numbered next in
          let around : at.row.form.holds ≡ length at.row.around = (program.forms n at.row at.found).holds in
          let both : length (at.row.around ++ held_by_first (length g.kept) at.row.form.parts) ≡ length at.row.around + length (held_by_first (length g.kept) at.row.form.parts) = joined_length at.row.around (held_by_first (length g.kept) at.row.form.parts) in
          let outer : number - 1 ≡ length (at.row.around ++ held_by_first (length g.kept) at.row.form.parts) = omega (arith, counted, around, both) in
          let holding : Holding P at.row.routine (at.row.around ++ held_by_first (length g.kept) at.row.form.parts) cs acts =
          (sym at.inside, h.0, h.2, ([], subst (λ js. AreOf acts (length xs) js a.holds) (sym (no_more_kinds (at.row.around ++ held_by_first (length g.kept) at.row.form.parts))) hold)) in
          let more : HoldingJust P at.row.routine ((at.row.around ++ held_by_first (length g.kept) at.row.form.parts) ++ PlaceKind words ∷ []) cs (held_in acts (number - 1) (part kept 0)) =
          one_held P at.row.routine cs (at.row.around ++ held_by_first (length g.kept) at.row.form.parts) (PlaceKind words) (part kept 0) (number - 1) acts outer holding
          (λ newest long. subst (λ m. IsOf acts m (PlaceKind words) (part kept 0)) (omega (arith, long)) place) in (
            more.1,
            inl (record {
              row = at.row;
              found = at.found;
              inside = at.inside;
              held = subst (λ js. AreOf (held_in acts (number - 1) (part kept 0)) (length xs) js (take (number - 1) a.holds ++ part kept 0 ∷ []))
                  (joined_kinds at.row.around (held_by_first (length g.kept) at.row.form.parts) (PlaceKind words ∷ []) ∙ sym (given_more at.row (op.Effect (effect.Hold number words)) ps g NoValue inside.1 inside.0)) more.3;
              frames = inr (moved_progress at.row (given NoValue (g ∷ [])) (take (number - 1) a.holds ++ part kept 0 ∷ []) after);
            }),
            more.2,
          )

  pub hold_well : (fs : List PendingFrame) → part_at ps (length kept) ≡ None → Stand (own ∷ fs) → IsWellFormed P (effected (Does (held number (part kept 0) d)) n fs cs)
  hold_well fs full h = record {
    data_good = held_data number (part kept 0) d good;
    stands = subst (λ ys. NewestStands P (held_in ys (number - 1) (part kept 0)) (record { statement = n; frames = given NoValue fs } ∷ cs) (held_in ys (number - 1) (part kept 0))) (sym same) (hold_stands fs full h);
  }
