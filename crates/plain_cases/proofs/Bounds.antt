-- A sum above maxint is run-time error 3, and the variable is as before.
--
--     program o; var x: integer; begin x := 32767; write(-x:1); x := x + 1 end.
use Rattle.std.specs.Prelude.{◌≡◌, pos, true, false, [], ◌∷◌, None, codes, refl}
use Rattle.core_tree.specs.declared.op.Op.TheVariants as op
use Rattle.core_tree.specs.declared.op.WordOp.TheVariants as word
use Rattle.core_tree.specs.declared.op.EffectOp.TheVariants as effect
use Rattle.core_tree.specs.declared.op.Written.TheVariants as written
use Rattle.core_tree.specs.declared.form.StatementOp.TheVariants as stmt
use Rattle.core_tree.specs.Plain.{Routine}
use Rattle.plain_pascal.specs.Program.{Program, program_of}
use Rattle.plain_pascal.specs.State.{loaded_state}
use Rattle.plain_pascal.specs.Run.{InError, run_of, settled, driven}
use Rattle.plain_pascal.specs.Build.{node, two, integers, global, value, number, compound, statement, routine, no_marks}

abbrev source : Routine
source =
    (routine 1 0 [] None [] []
    (compound 3 None (
    (statement 4 None 0 0 (stmt.Assign integers) ((global 0) ∷ (number (pos 32767)) ∷ []) []) ∷
    (statement 5 None 0 0 (stmt.Write false) ((node (op.Effect (effect.Write written.Integer true)) ((node (op.Word word.Negate) ((value (global 0)) ∷ [])) ∷ (number (pos 1)) ∷ [])) ∷ []) []) ∷
    (statement 6 None 0 0 (stmt.Assign integers) ((global 0) ∷ (two word.Add (value (global 0)) (number (pos 1))) ∷ []) []) ∷ [])))

abbrev P : Program
P = program_of source

-- the whole run
ending : (run_of P no_marks 9 loaded_state).ending ≡ InError 3 6
unfolding settled driven
ending = refl

output : (run_of P no_marks 9 loaded_state).last.data_now.output ≡ codes "-32767"
unfolding settled driven
output = refl
