-- `for` (6.8.3.9): its bounds are evaluated once; no turn; up to maxint; down.
--
--     program e; var i, n: integer; begin n := 3; for i := 1 to n do n := n + 1; write(n:1, i:2); for i := 5 to 4 do
-- n := 100; for i := 32766 to maxint do n := n + 1; for i := 3 downto 1 do n := 2 * n; writeln(n:4) end.
use Rattle.std.specs.Prelude.{◌≡◌, pos, negsuc, true, false, [], ◌∷◌, None, codes, refl}
use Rattle.core_tree.specs.declared.op.Op.TheVariants as op
use Rattle.core_tree.specs.declared.op.WordOp.TheVariants as word
use Rattle.core_tree.specs.declared.op.EffectOp.TheVariants as effect
use Rattle.core_tree.specs.declared.op.Written.TheVariants as written
use Rattle.core_tree.specs.declared.op.Scope.TheVariants as scope
use Rattle.core_tree.specs.declared.form.StatementOp.TheVariants as stmt
use Rattle.core_tree.specs.Plain.{Routine}
use Rattle.plain_pascal.specs.Program.{Program, program_of}
use Rattle.plain_pascal.specs.State.{loaded_state}
use Rattle.plain_pascal.specs.Run.{AtEnd, run_of, settled, driven}
use Rattle.plain_pascal.specs.Build.{node, two, integers, global, value, number, compound, statement, routine, no_marks}

abbrev source : Routine
source =
    (routine 1 0 [] None [] []
    (compound 3 None (
    (statement 4 None 0 0 (stmt.Assign integers) ((global 1) ∷ (number (pos 3)) ∷ []) []) ∷
    (statement 5 None 0 0 (stmt.For (record { variable = (record { scope = scope.Program; offset = 0; by_place = false; frame_words = 0 }); first = negsuc 32766; last = pos 32767; down = false })) ((number (pos 1)) ∷ (value (global 1)) ∷ []) (
    (statement 6 None 0 1 (stmt.Assign integers) ((global 1) ∷ (two word.Add (value (global 1)) (number (pos 1))) ∷ []) []) ∷ [])) ∷
    (statement 7 None 0 0 (stmt.Write false) ((node (op.Effect (effect.Write written.Integer true)) ((value (global 1)) ∷ (number (pos 1)) ∷ [])) ∷ (node (op.Effect (effect.Write written.Integer true)) ((value (global 0)) ∷ (number (pos 2)) ∷ [])) ∷ []) []) ∷
    (statement 8 None 0 0 (stmt.For (record { variable = (record { scope = scope.Program; offset = 0; by_place = false; frame_words = 0 }); first = negsuc 32766; last = pos 32767; down = false })) ((number (pos 5)) ∷ (number (pos 4)) ∷ []) (
    (statement 9 None 0 1 (stmt.Assign integers) ((global 1) ∷ (number (pos 100)) ∷ []) []) ∷ [])) ∷
    (statement 10 None 0 0 (stmt.For (record { variable = (record { scope = scope.Program; offset = 0; by_place = false; frame_words = 0 }); first = negsuc 32766; last = pos 32767; down = false })) ((number (pos 32766)) ∷ (number (pos 32767)) ∷ []) (
    (statement 11 None 0 1 (stmt.Assign integers) ((global 1) ∷ (two word.Add (value (global 1)) (number (pos 1))) ∷ []) []) ∷ [])) ∷
    (statement 12 None 0 0 (stmt.For (record { variable = (record { scope = scope.Program; offset = 0; by_place = false; frame_words = 0 }); first = negsuc 32766; last = pos 32767; down = true })) ((number (pos 3)) ∷ (number (pos 1)) ∷ []) (
    (statement 13 None 0 1 (stmt.Assign integers) ((global 1) ∷ (two word.Multiply (number (pos 2)) (value (global 1))) ∷ []) []) ∷ [])) ∷
    (statement 14 None 0 0 (stmt.Write true) ((node (op.Effect (effect.Write written.Integer true)) ((value (global 1)) ∷ (number (pos 4)) ∷ [])) ∷ []) []) ∷ [])))

abbrev P : Program
P = program_of source

-- the whole run
ending : (run_of P no_marks 1000 loaded_state).ending ≡ AtEnd
unfolding settled driven
ending = refl

output : (run_of P no_marks 1000 loaded_state).last.data_now.output ≡ codes "6 3  64\n"
unfolding settled driven
output = refl
