-- A function that calls itself (6.6.2), stopped below two pending calls.
--
--     program f; var r, c: integer; function fact(n: integer): integer; begin if n < 2 then fact := 1 else fact := n
-- * fact(n - 1); c := c + 1 end; begin r := fact(4); writeln(r:1, c:3) end.
use Rattle.std.specs.Prelude.{◌≡◌, pos, true, false, [], ◌∷◌, Some, None, codes, refl}
use Rattle.core_tree.specs.declared.op.Op.TheVariants as op
use Rattle.core_tree.specs.declared.op.WordOp.TheVariants as word
use Rattle.core_tree.specs.declared.op.EffectOp.TheVariants as effect
use Rattle.core_tree.specs.declared.op.Written.TheVariants as written
use Rattle.core_tree.specs.declared.op.Scope.TheVariants as scope
use Rattle.core_tree.specs.declared.op.Relation.TheVariants as relation
use Rattle.core_tree.specs.declared.form.StatementOp.TheVariants as stmt
use Rattle.core_tree.specs.Plain.{Routine}
use Rattle.core_tree.specs.Shapes.{Integer}
use Rattle.plain_pascal.specs.Program.{Program, program_of}
use Rattle.plain_pascal.specs.State.{loaded_state}
use Rattle.plain_pascal.specs.Run.{Stopped, AtEnd, run_of, settled, driven}
use Rattle.plain_pascal.specs.Build.{node, two, integers, global, local, value, number, compound, statement, formal, routine, no_marks}

abbrev source : Routine
source =
    (routine 1 0 [] None [] (
    (routine 3 1 (formal false Integer ∷ []) (Some Integer) [] []
    (compound 4 None (
    (statement 5 None 1 0 (stmt.If true) ((node (op.Word (word.Compare relation.Less)) ((value (local 0 1 2)) ∷ (number (pos 2)) ∷ [])) ∷ []) (
    (statement 6 None 1 0 (stmt.Assign integers) ((local 0 0 2) ∷ (number (pos 1)) ∷ []) []) ∷
    (statement 7 None 1 0 (stmt.Assign integers) ((local 0 0 2) ∷ (two word.Multiply (value (local 0 1 2)) (node (op.Call (record { routine = record { 0 = 3 }; scope = scope.Program; function = true })) ((node (op.Argument integers) ((two word.Subtract (value (local 0 1 2)) (number (pos 1))) ∷ [])) ∷ []))) ∷ []) []) ∷ [])) ∷
    (statement 8 None 1 0 (stmt.Assign integers) ((global 1) ∷ (two word.Add (value (global 1)) (number (pos 1))) ∷ []) []) ∷ []))) ∷ [])
    (compound 9 None (
    (statement 10 None 0 0 (stmt.Assign integers) ((global 0) ∷ (node (op.Call (record { routine = record { 0 = 3 }; scope = scope.Program; function = true })) ((node (op.Argument integers) ((number (pos 4)) ∷ [])) ∷ [])) ∷ []) []) ∷
    (statement 11 None 0 0 (stmt.Write true) ((node (op.Effect (effect.Write written.Integer true)) ((value (global 0)) ∷ (number (pos 1)) ∷ [])) ∷ (node (op.Effect (effect.Write written.Integer true)) ((value (global 1)) ∷ (number (pos 3)) ∷ [])) ∷ []) []) ∷ [])))

abbrev P : Program
P = program_of source

-- the whole run
ending : (run_of P no_marks 1000 loaded_state).ending ≡ AtEnd
unfolding settled driven
ending = refl

output : (run_of P no_marks 1000 loaded_state).last.data_now.output ≡ codes "24  4\n"
unfolding settled driven
output = refl

-- a run of 5 gates
ending_1 : (run_of P no_marks 5 loaded_state).ending ≡ Stopped 5
unfolding settled driven
ending_1 = refl

output_1 : (run_of P no_marks 5 loaded_state).last.data_now.output ≡ []
unfolding settled driven
output_1 = refl
