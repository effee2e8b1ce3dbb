-- Sets (6.7.1), and a set parameter.
--
--     program s; type t = set of 0..9; var a: t; procedure p(b: t); var k: integer; begin for k := 0 to 9 do if k in
-- b then write(k:2) end; begin a := [1, 3..5] - [4]; p(a + [9]); p(a * [0..3]); writeln end.
use Rattle.std.specs.Prelude.{◌≡◌, pos, negsuc, true, false, [], ◌∷◌, None, codes, refl}
use Rattle.core_tree.specs.declared.op.Op.TheVariants as op
use Rattle.core_tree.specs.declared.op.WordOp.TheVariants as word
use Rattle.core_tree.specs.declared.op.SetOp.TheVariants as set
use Rattle.core_tree.specs.declared.op.EffectOp.TheVariants as effect
use Rattle.core_tree.specs.declared.op.Written.TheVariants as written
use Rattle.core_tree.specs.declared.op.Storage.TheVariants as storage
use Rattle.core_tree.specs.declared.op.Scope.TheVariants as scope
use Rattle.core_tree.specs.declared.form.StatementOp.TheVariants as stmt
use Rattle.core_tree.specs.Plain.{Routine}
use Rattle.core_tree.specs.Shapes.{Integer, Subrange, SetOf}
use Rattle.plain_pascal.specs.Program.{Program, program_of}
use Rattle.plain_pascal.specs.State.{loaded_state}
use Rattle.plain_pascal.specs.Run.{AtEnd, run_of, settled, driven}
use Rattle.plain_pascal.specs.Build.{node, global, local, value, number, compound, statement, formal, variable, routine, no_marks}

abbrev source : Routine
source =
    (routine 1 0 [] None [] (
    (routine 4 1 (formal false (SetOf (Subrange Integer (pos 0) (pos 9))) ∷ []) None (variable Integer ∷ []) []
    (compound 6 None (
    (statement 7 None 1 0 (stmt.For (record { variable = (record { scope = (scope.Routine 0); offset = 8; by_place = false; frame_words = 9 }); first = negsuc 32766; last = pos 32767; down = false })) ((number (pos 0)) ∷ (number (pos 9)) ∷ []) (
    (statement 8 None 1 1 (stmt.If false) ((node (op.Word word.In) ((value (local 0 8 9)) ∷ (node (op.Set set.Load) ((local 0 0 9) ∷ [])) ∷ [])) ∷ []) (
    (statement 9 None 1 1 (stmt.Write false) ((node (op.Effect (effect.Write written.Integer true)) ((value (local 0 8 9)) ∷ (number (pos 2)) ∷ [])) ∷ []) []) ∷ [])) ∷ [])) ∷ []))) ∷ [])
    (compound 10 None (
    (statement 11 None 0 0 (stmt.Assign (storage.Set 0 9)) ((global 0) ∷ (node (op.Set set.Difference) ((node (op.Set set.IncludeRange) ((node (op.Set set.Include) ((node (op.Set set.Empty) []) ∷ (number (pos 1)) ∷ [])) ∷ (number (pos 3)) ∷ (number (pos 5)) ∷ [])) ∷ (node (op.Set set.Include) ((node (op.Set set.Empty) []) ∷ (number (pos 4)) ∷ [])) ∷ [])) ∷ []) []) ∷
    (statement 12 None 0 0 stmt.Call ((node (op.Call (record { routine = record { 0 = 4 }; scope = scope.Program; function = false })) ((node (op.Argument (storage.Set 0 9)) ((node (op.Set set.Union) ((node (op.Set set.Load) ((global 0) ∷ [])) ∷ (node (op.Set set.Include) ((node (op.Set set.Empty) []) ∷ (number (pos 9)) ∷ [])) ∷ [])) ∷ [])) ∷ [])) ∷ []) []) ∷
    (statement 13 None 0 0 stmt.Call ((node (op.Call (record { routine = record { 0 = 4 }; scope = scope.Program; function = false })) ((node (op.Argument (storage.Set 0 9)) ((node (op.Set set.Intersection) ((node (op.Set set.Load) ((global 0) ∷ [])) ∷ (node (op.Set set.IncludeRange) ((node (op.Set set.Empty) []) ∷ (number (pos 0)) ∷ (number (pos 3)) ∷ [])) ∷ [])) ∷ [])) ∷ [])) ∷ []) []) ∷
    (statement 14 None 0 0 (stmt.Write true) [] []) ∷ [])))

abbrev P : Program
P = program_of source

-- the whole run
ending : (run_of P no_marks 1000 loaded_state).ending ≡ AtEnd
unfolding settled driven
ending = refl

output : (run_of P no_marks 1000 loaded_state).last.data_now.output ≡ codes " 1 3 5 9 1 3\n"
unfolding settled driven
output = refl
