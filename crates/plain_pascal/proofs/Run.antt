-- A whole run: of a program that was not started, and of one that is halted at a gate, which is passed first.
use Rattle.std.proofs.Common.{◌≡◌, ℕ, zero, suc, Bool, true, false, ◌-◌, List, [], ◌∷◌, Some, refl, sym, ap, ◌∙◌, subst, arith, inl}
use Rattle.dice_base.specs.declared.link.LinkTo.TheVariants.{Child}
use Rattle.plain_machine.specs.Links.{First}
use Rattle.plain_machine.specs.Meaning.{At}
use Rattle.plain_machine.specs.Plain.{settle, stretch_of, begun_at}
use Rattle.plain_machine.specs.Pauses.{go_on, drive, drive_from}
use Rattle.plain_pascal.specs.Resolved.{HasRow}
use Rattle.plain_pascal.specs.Standing.{Stands}
use Rattle.plain_pascal.specs.Program.{Program as Table, routine_of}
use Rattle.plain_pascal.specs.State.{Status, NotStarted, Halted, Ended, Failed, Data, Control, State as PascalState}
use Rattle.plain_pascal.specs.Run.{Marks, is_full, unless_held, with_event, event, next_gate, run_of, driven, passed, started, entry_in, cleared, fresh}
use Rattle.plain_pascal.specs.Blocks.{store, program_begun, gate, way_end, pascal, blocks_of}
use Rattle.core_tree.specs.Plain.{ProgramBlock}
use Rattle.plain_pascal.specs.Stages.{stage_of}
use Rattle.plain_pascal.specs.Marked.{pauses_of}
use Rattle.plain_pascal.proofs.Stage.{IsSpot, spot_is, gate_stage, program_block}
use Rattle.plain_pascal.proofs.Closed.{HasEntry}
use Rattle.plain_pascal.proofs.Named.{row_named, routine_found}
use Rattle.plain_pascal.proofs.Driven.{placed_passes}
use Rattle.plain_pascal.proofs.Placed.{IsTable, stands_placed, stands_kept, run_stage}

module _ (P : Table) (m : ℕ) (T : IsTable P m) where
  entry_end : (blocks_of P).link_end 1 (Child 0) ≡ Some (gate (entry_in (routine_of P 1)))
  entry_end = ap (λ r. way_end P r 1 (Child 0)) T.program.no_statement

  entry_spot : IsSpot P (gate (entry_in (routine_of P 1)))
  entry_spot = spot_is P 1 (Child 0) (gate (entry_in (routine_of P 1))) (T.closed 1 ProgramBlock (Child 0) (program_block P T.program T.closed) refl) entry_end

  start_stage : (d : Data) → stage_of (started P (fresh d)) ≡ settle pascal (blocks_of P) (suc m) (stage_of (fresh d))
  start_stage d =
      gate_stage P m (entry_in (routine_of P 1)) [] (program_begun d) entry_spot
      ∙ ap (λ s. settle pascal (blocks_of P) m (begun_at pascal (blocks_of P) s (store (program_begun d)) [])) (sym entry_end)
      ∙ ap (λ f. settle pascal (blocks_of P) m (stretch_of pascal (blocks_of P) (record { name = 1; start = At First; data_now = store d; older = [] }) f)) (sym (program_block P T.program T.closed))

  entry_row : HasRow P (entry_in (routine_of P 1)) 1
  entry_row =
      subst (λ n. HasRow P n 1) (sym (ap entry_in T.program.found))
      (subst (λ r. HasRow P T.program.row.entry r) (row_named P 1 T.program.row T.program.found) (routine_found P (HasEntry P) 1 T.program.row T.entries T.program.found))

  pub start_stands : (d : Data) → Stands P (started P (fresh d))
  start_stands d = (refl, (1, (inl entry_row, refl)))

  -- the first run of a program
  pub first_run : (marks : Marks) (k : ℕ) (d : Data) → stage_of (run_of P marks k (fresh d)).last ≡ drive_from pascal (blocks_of P) (suc m) (pauses_of marks) k (stage_of (fresh (cleared d)))
  first_run marks k d = run_stage P m T marks k (started P (fresh (cleared d))) (start_stands (cleared d)) ∙ ap (λ x. go_on pascal (blocks_of P) (suc m) (pauses_of marks) k x) (start_stage (cleared d))

  -- a run that goes on
  pub next_run : (marks : Marks) (k : ℕ) (c : Control) (older : List Control) (d : Data) → Stands P (record { status = Halted; control = c ∷ older; data_now = cleared d })
      → stage_of (run_of P marks (suc k) (record { status = Halted; control = c ∷ older; data_now = d })).last
      ≡ drive pascal (blocks_of P) (suc m) (pauses_of marks) (suc k) (stage_of (record { status = Halted; control = c ∷ older; data_now = cleared d }))
  next_run marks k c older d h =
      let s : PascalState = record { status = Halted; control = c ∷ older; data_now = cleared d } in
      let less : suc k - 1 ≡ k = omega arith in
      ap (λ j. stage_of (driven j P marks (passed P s)).last) less
      ∙ run_stage P m T marks k (passed P s) (stands_kept P m T s h refl)
      ∙ ap (λ x. go_on pascal (blocks_of P) (suc m) (pauses_of marks) k x) (placed_passes P m T.program T.closed c older (cleared d) (stands_placed P m T s h).0 (stands_placed P m T s h).1)

  -- the state to which a run comes stands
  module _ (marks : Marks) where
    stands_by : (k : ℕ) (st : Status) (control : List Control) (d : Data) → Stands P (record { status = st; control = control; data_now = d }) → Stands P (driven k P marks (record { status = st; control = control; data_now = d })).last
    unfolding driven
    stands_by k NotStarted control d h = absurd h
    stands_by k Halted [] d h = absurd h
    stands_by zero Halted (c ∷ older) d h = h
    stands_by (suc k) Halted (c ∷ older) d h = by (marks.breaks c.statement) (is_full s) (stands_by k (passed P s).status (passed P s).control (passed P s).data_now (stands_kept P m T s h refl))
      where
        s : PascalState
        s = record { status = Halted; control = c ∷ older; data_now = d }

        by : (b f : Bool) → Stands P (driven k P marks (passed P s)).last → Stands P (unless_held b f s (λ u. with_event (event (marks.traces (next_gate u)) (next_gate u)) (driven k P marks (passed P u)))).last
        by true f rest = h
        by false true rest = h
        by false false rest = rest
    stands_by zero Ended control d h = h
    stands_by (suc k) Ended control d h = h
    stands_by zero (Failed e n) control d h = h
    stands_by (suc k) (Failed e n) control d h = h

    pub run_stands : (k : ℕ) (s : PascalState) → Stands P s → Stands P (driven k P marks s).last
    run_stands k s h = stands_by k s.status s.control s.data_now h
