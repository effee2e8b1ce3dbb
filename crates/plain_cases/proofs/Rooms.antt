-- The stack has room for 109 activations of these; one more is run-time error 8 in the statement that calls.
--
--     program q; procedure p(n: integer); var a: array [1..17] of integer; begin if n > 1 then p(n - 1) end; begin
-- p(109); p(110) end.
use Rattle.std.specs.Prelude.{◌≡◌, pos, false, [], ◌∷◌, None, refl}
use Rattle.core_tree.specs.declared.op.Op.TheVariants as op
use Rattle.core_tree.specs.declared.op.WordOp.TheVariants as word
use Rattle.core_tree.specs.declared.op.Scope.TheVariants as scope
use Rattle.core_tree.specs.declared.op.Relation.TheVariants as relation
use Rattle.core_tree.specs.declared.form.StatementOp.TheVariants as stmt
use Rattle.core_tree.specs.Plain.{Routine}
use Rattle.core_tree.specs.Shapes.{Integer, Subrange, ArrayOf}
use Rattle.plain_pascal.specs.Program.{Program, program_of}
use Rattle.plain_pascal.specs.State.{loaded_state}
use Rattle.plain_pascal.specs.Run.{InError, run_of, settled, driven}
use Rattle.plain_pascal.specs.Build.{node, two, integers, local, value, number, compound, statement, formal, variable, routine, no_marks}

abbrev source : Routine
source =
    (routine 1 0 [] None [] (
    (routine 2 1 (formal false Integer ∷ []) None (variable (ArrayOf (Subrange Integer (pos 1) (pos 17)) Integer) ∷ []) []
    (compound 4 None (
    (statement 5 None 1 0 (stmt.If false) ((node (op.Word (word.Compare relation.Greater)) ((value (local 0 0 18)) ∷ (number (pos 1)) ∷ [])) ∷ []) (
    (statement 6 None 1 0 stmt.Call ((node (op.Call (record { routine = record { 0 = 2 }; scope = scope.Program; function = false })) ((node (op.Argument integers) ((two word.Subtract (value (local 0 0 18)) (number (pos 1))) ∷ [])) ∷ [])) ∷ []) []) ∷ [])) ∷ []))) ∷ [])
    (compound 7 None (
    (statement 8 None 0 0 stmt.Call ((node (op.Call (record { routine = record { 0 = 2 }; scope = scope.Program; function = false })) ((node (op.Argument integers) ((number (pos 109)) ∷ [])) ∷ [])) ∷ []) []) ∷
    (statement 9 None 0 0 stmt.Call ((node (op.Call (record { routine = record { 0 = 2 }; scope = scope.Program; function = false })) ((node (op.Argument integers) ((number (pos 110)) ∷ [])) ∷ [])) ∷ []) []) ∷ [])))

abbrev P : Program
P = program_of source

-- the whole run
ending : (run_of P no_marks 1000 loaded_state).ending ≡ InError 8 6
unfolding settled driven
ending = refl

output : (run_of P no_marks 1000 loaded_state).last.data_now.output ≡ []
unfolding settled driven
output = refl
