-- Operands and arguments are evaluated from left to right.
--
--     program o; var c, x: integer; function f(k: integer): integer; begin c := 10 * c + k; f := k end; procedure
-- p(a, b: integer); begin end; begin x := f(1) - f(2); p(f(3), f(4)); writeln(c:1, x:4) end.
use Rattle.std.specs.Prelude.{◌≡◌, pos, true, false, [], ◌∷◌, Some, None, codes, refl}
use Rattle.core_tree.specs.declared.op.Op.TheVariants as op
use Rattle.core_tree.specs.declared.op.WordOp.TheVariants as word
use Rattle.core_tree.specs.declared.op.EffectOp.TheVariants as effect
use Rattle.core_tree.specs.declared.op.Written.TheVariants as written
use Rattle.core_tree.specs.declared.op.Scope.TheVariants as scope
use Rattle.core_tree.specs.declared.form.StatementOp.TheVariants as stmt
use Rattle.core_tree.specs.Plain.{Routine}
use Rattle.core_tree.specs.Shapes.{Integer}
use Rattle.plain_pascal.specs.Program.{Program, program_of}
use Rattle.plain_pascal.specs.State.{loaded_state}
use Rattle.plain_pascal.specs.Run.{AtEnd, run_of, settled, driven}
use Rattle.plain_pascal.specs.Build.{node, two, integers, global, local, value, number, compound, statement, formal, routine, no_marks}

abbrev source : Routine
source =
    (routine 1 0 [] None [] (
    (routine 3 1 (formal false Integer ∷ []) (Some Integer) [] []
    (compound 4 None (
    (statement 5 None 1 0 (stmt.Assign integers) ((global 0) ∷ (two word.Add (two word.Multiply (number (pos 10)) (value (global 0))) (value (local 0 1 2))) ∷ []) []) ∷
    (statement 6 None 1 0 (stmt.Assign integers) ((local 0 0 2) ∷ (value (local 0 1 2)) ∷ []) []) ∷ []))) ∷
    (routine 7 1 (formal false Integer ∷ formal false Integer ∷ []) None [] []
    (compound 8 None (
    (statement 9 None 1 0 stmt.Empty [] []) ∷ []))) ∷ [])
    (compound 10 None (
    (statement 11 None 0 0 (stmt.Assign integers) ((global 1) ∷ (two word.Subtract (node (op.Call (record { routine = record { 0 = 3 }; scope = scope.Program; function = true })) ((node (op.Argument integers) ((number (pos 1)) ∷ [])) ∷ [])) (node (op.Call (record { routine = record { 0 = 3 }; scope = scope.Program; function = true })) ((node (op.Argument integers) ((number (pos 2)) ∷ [])) ∷ []))) ∷ []) []) ∷
    (statement 12 None 0 0 stmt.Call ((node (op.Call (record { routine = record { 0 = 7 }; scope = scope.Program; function = false })) ((node (op.Argument integers) ((node (op.Call (record { routine = record { 0 = 3 }; scope = scope.Program; function = true })) ((node (op.Argument integers) ((number (pos 3)) ∷ [])) ∷ [])) ∷ [])) ∷ (node (op.Argument integers) ((node (op.Call (record { routine = record { 0 = 3 }; scope = scope.Program; function = true })) ((node (op.Argument integers) ((number (pos 4)) ∷ [])) ∷ [])) ∷ [])) ∷ [])) ∷ []) []) ∷
    (statement 13 None 0 0 (stmt.Write true) ((node (op.Effect (effect.Write written.Integer true)) ((value (global 0)) ∷ (number (pos 1)) ∷ [])) ∷ (node (op.Effect (effect.Write written.Integer true)) ((value (global 1)) ∷ (number (pos 4)) ∷ [])) ∷ []) []) ∷ [])))

abbrev P : Program
P = program_of source

-- the whole run
ending : (run_of P no_marks 1000 loaded_state).ending ≡ AtEnd
unfolding settled driven
ending = refl

output : (run_of P no_marks 1000 loaded_state).last.data_now.output ≡ codes "1234  -1\n"
unfolding settled driven
output = refl
