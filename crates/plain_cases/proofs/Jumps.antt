-- `repeat` (6.8.3.7) is tested after each turn; a goto (6.8.2.4) leaves a `for`; `case` (6.8.3.5) without the value
-- is run-time error 5.
--
--     program j; label 9; var i, n: integer; begin n := 0; repeat n := n + 3 until n > 7; for i := 1 to 5 do if i = 3
-- then goto 9; 9: write(n:1, i:2); for i := 1 to 2 do n := n + i; write(n:3); case n of 11, 13: n := 0; 12: n := 5
-- end; case n of 1: n := 2 end end.
use Rattle.std.specs.Prelude.{◌≡◌, pos, negsuc, true, false, [], ◌∷◌, Some, None, codes, refl}
use Rattle.core_tree.specs.declared.op.Op.TheVariants as op
use Rattle.core_tree.specs.declared.op.WordOp.TheVariants as word
use Rattle.core_tree.specs.declared.op.EffectOp.TheVariants as effect
use Rattle.core_tree.specs.declared.op.Written.TheVariants as written
use Rattle.core_tree.specs.declared.op.Scope.TheVariants as scope
use Rattle.core_tree.specs.declared.op.Relation.TheVariants as relation
use Rattle.core_tree.specs.declared.form.StatementOp.TheVariants as stmt
use Rattle.core_tree.specs.Plain.{Routine}
use Rattle.plain_pascal.specs.Program.{Program, program_of}
use Rattle.plain_pascal.specs.State.{loaded_state}
use Rattle.plain_pascal.specs.Run.{InError, run_of, settled, driven}
use Rattle.plain_pascal.specs.Build.{node, two, integers, global, value, number, compound, statement, routine, no_marks}

abbrev source : Routine
source =
    (routine 1 0 [] None [] []
    (compound 4 None (
    (statement 5 None 0 0 (stmt.Assign integers) ((global 1) ∷ (number (pos 0)) ∷ []) []) ∷
    (statement 6 None 0 0 stmt.Repeat ((node (op.Word (word.Compare relation.Greater)) ((value (global 1)) ∷ (number (pos 7)) ∷ [])) ∷ []) (
    (statement 7 None 0 0 (stmt.Assign integers) ((global 1) ∷ (two word.Add (value (global 1)) (number (pos 3))) ∷ []) []) ∷ [])) ∷
    (statement 8 None 0 0 (stmt.For (record { variable = (record { scope = scope.Program; offset = 0; by_place = false; frame_words = 0 }); first = negsuc 32766; last = pos 32767; down = false })) ((number (pos 1)) ∷ (number (pos 5)) ∷ []) (
    (statement 9 None 0 1 (stmt.If false) ((node (op.Word (word.Compare relation.Equal)) ((value (global 0)) ∷ (number (pos 3)) ∷ [])) ∷ []) (
    (statement 10 None 0 1 (stmt.Goto 9) [] []) ∷ [])) ∷ [])) ∷
    (statement 11 (Some 9) 0 0 (stmt.Write false) ((node (op.Effect (effect.Write written.Integer true)) ((value (global 1)) ∷ (number (pos 1)) ∷ [])) ∷ (node (op.Effect (effect.Write written.Integer true)) ((value (global 0)) ∷ (number (pos 2)) ∷ [])) ∷ []) []) ∷
    (statement 12 None 0 0 (stmt.For (record { variable = (record { scope = scope.Program; offset = 0; by_place = false; frame_words = 0 }); first = negsuc 32766; last = pos 32767; down = false })) ((number (pos 1)) ∷ (number (pos 2)) ∷ []) (
    (statement 13 None 0 1 (stmt.Assign integers) ((global 1) ∷ (two word.Add (value (global 1)) (value (global 0))) ∷ []) []) ∷ [])) ∷
    (statement 14 None 0 0 (stmt.Write false) ((node (op.Effect (effect.Write written.Integer true)) ((value (global 1)) ∷ (number (pos 3)) ∷ [])) ∷ []) []) ∷
    (statement 15 None 0 0 (stmt.Case (record { value = pos 11; arm = 0 } ∷ record { value = pos 13; arm = 0 } ∷ record { value = pos 12; arm = 1 } ∷ [])) ((value (global 1)) ∷ []) (
    (statement 16 None 0 0 (stmt.Assign integers) ((global 1) ∷ (number (pos 0)) ∷ []) []) ∷
    (statement 17 None 0 0 (stmt.Assign integers) ((global 1) ∷ (number (pos 5)) ∷ []) []) ∷ [])) ∷
    (statement 18 None 0 0 (stmt.Case (record { value = pos 1; arm = 0 } ∷ [])) ((value (global 1)) ∷ []) (
    (statement 19 None 0 0 (stmt.Assign integers) ((global 1) ∷ (number (pos 2)) ∷ []) []) ∷ [])) ∷ [])))

abbrev P : Program
P = program_of source

-- the whole run
ending : (run_of P no_marks 1000 loaded_state).ending ≡ InError 5 18
unfolding settled driven
ending = refl

output : (run_of P no_marks 1000 loaded_state).last.data_now.output ≡ codes "9 3 12"
unfolding settled driven
output = refl
