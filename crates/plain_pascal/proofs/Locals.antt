-- Each activation begins with zeros, whatever those before it left.
--
--     program l; procedure p; var n: integer; begin write(n:2); n := 7 end; begin p; p; writeln end.
use Rattle.std.specs.Prelude.{◌≡◌, pos, true, false, [], ◌∷◌, None, codes, refl}
use Rattle.core_tree.specs.declared.op.Op.TheVariants as op
use Rattle.core_tree.specs.declared.op.EffectOp.TheVariants as effect
use Rattle.core_tree.specs.declared.op.Written.TheVariants as written
use Rattle.core_tree.specs.declared.op.Scope.TheVariants as scope
use Rattle.core_tree.specs.declared.form.StatementOp.TheVariants as stmt
use Rattle.core_tree.specs.Plain.{Routine}
use Rattle.core_tree.specs.Shapes.{Integer}
use Rattle.plain_pascal.specs.Program.{Program, program_of}
use Rattle.plain_pascal.specs.State.{loaded_state}
use Rattle.plain_pascal.specs.Run.{AtEnd, run_of, settled, driven}
use Rattle.plain_pascal.specs.Build.{node, integers, local, value, number, compound, statement, variable, routine, no_marks}

abbrev pub source : Routine
source =
    (routine 1 0 [] None [] (
    (routine 2 1 [] None (variable Integer ∷ []) []
    (compound 4 None (
    (statement 5 None 1 0 (stmt.Write false) ((node (op.Effect (effect.Write written.Integer true)) ((value (local 0 0 1)) ∷ (number (pos 2)) ∷ [])) ∷ []) []) ∷
    (statement 6 None 1 0 (stmt.Assign integers) ((local 0 0 1) ∷ (number (pos 7)) ∷ []) []) ∷ []))) ∷ [])
    (compound 7 None (
    (statement 8 None 0 0 stmt.Call ((node (op.Call (record { routine = record { 0 = 2 }; scope = scope.Program; function = false })) []) ∷ []) []) ∷
    (statement 9 None 0 0 stmt.Call ((node (op.Call (record { routine = record { 0 = 2 }; scope = scope.Program; function = false })) []) ∷ []) []) ∷
    (statement 10 None 0 0 (stmt.Write true) [] []) ∷ [])))

abbrev pub P : Program
P = program_of source

-- the whole run
ending : (run_of P no_marks 1000 loaded_state).ending ≡ AtEnd
unfolding settled driven
ending = refl

output : (run_of P no_marks 1000 loaded_state).last.data_now.output ≡ codes " 0 0\n"
unfolding settled driven
output = refl
