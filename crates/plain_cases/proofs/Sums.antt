-- While loops (6.8.3.8), stopped in the middle and gone on with; breaks and traced gates.
--
--     program a; var i, s: integer; begin i := 0; s := 0; while i < 5 do begin s := s + i; i := i + 1 end;
-- writeln(s:1) end.
use Rattle.std.specs.Prelude.{◌≡◌, ◌==◌, pos, true, [], ◌∷◌, None, codes, refl}
use Rattle.core_tree.specs.declared.op.Op.TheVariants as op
use Rattle.core_tree.specs.declared.op.WordOp.TheVariants as word
use Rattle.core_tree.specs.declared.op.EffectOp.TheVariants as effect
use Rattle.core_tree.specs.declared.op.Written.TheVariants as written
use Rattle.core_tree.specs.declared.op.Relation.TheVariants as relation
use Rattle.core_tree.specs.declared.form.StatementOp.TheVariants as stmt
use Rattle.core_tree.specs.Plain.{Routine}
use Rattle.plain_pascal.specs.Program.{Program, program_of}
use Rattle.plain_pascal.specs.State.{loaded_state}
use Rattle.plain_pascal.specs.Run.{Marks, Stopped, AtBreak, AtEnd, run_of, settled, driven}
use Rattle.plain_pascal.specs.Build.{node, two, integers, global, value, number, compound, statement, routine, no_marks}

abbrev source : Routine
source =
    (routine 1 0 [] None [] []
    (compound 3 None (
    (statement 4 None 0 0 (stmt.Assign integers) ((global 0) ∷ (number (pos 0)) ∷ []) []) ∷
    (statement 5 None 0 0 (stmt.Assign integers) ((global 1) ∷ (number (pos 0)) ∷ []) []) ∷
    (statement 6 None 0 0 stmt.While ((node (op.Word (word.Compare relation.Less)) ((value (global 0)) ∷ (number (pos 5)) ∷ [])) ∷ []) (
    (compound 7 None (
    (statement 8 None 0 0 (stmt.Assign integers) ((global 1) ∷ (two word.Add (value (global 1)) (value (global 0))) ∷ []) []) ∷
    (statement 9 None 0 0 (stmt.Assign integers) ((global 0) ∷ (two word.Add (value (global 0)) (number (pos 1))) ∷ []) []) ∷ [])) ∷ [])) ∷
    (statement 10 None 0 0 (stmt.Write true) ((node (op.Effect (effect.Write written.Integer true)) ((value (global 1)) ∷ (number (pos 1)) ∷ [])) ∷ []) []) ∷ [])))

abbrev P : Program
P = program_of source

-- the whole run
ending : (run_of P no_marks 1000 loaded_state).ending ≡ AtEnd
unfolding settled driven
ending = refl

output : (run_of P no_marks 1000 loaded_state).last.data_now.output ≡ codes "10\n"
unfolding settled driven
output = refl

-- a run of 6 gates
ending_1 : (run_of P no_marks 6 loaded_state).ending ≡ Stopped 8
unfolding settled driven
ending_1 = refl

output_1 : (run_of P no_marks 6 loaded_state).last.data_now.output ≡ []
unfolding settled driven
output_1 = refl

-- it goes on from there
rest : (run_of P no_marks 1000 (run_of P no_marks 6 loaded_state).last).last.data_now.output ≡ codes "10\n"
unfolding settled driven
rest = refl

-- one gate more is passed
one : (run_of P no_marks 1 (run_of P no_marks 6 loaded_state).last).ending ≡ Stopped 9
unfolding settled driven
one = refl

abbrev marks : Marks
marks = record { breaks = λ n. n == 8; traces = λ n. n == 8 }

-- a break is tried before its gate is passed
break : (run_of P marks 100 loaded_state).ending ≡ AtBreak 8
unfolding settled driven
break = refl

-- and the gate at which it is halted is passed first, with its event
events : (run_of P marks 100 (run_of P marks 100 loaded_state).last).events ≡ 8 ∷ []
unfolding settled driven
events = refl
