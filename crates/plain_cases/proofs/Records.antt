-- `with` (6.8.3.10) holds its record; a variable parameter (6.6.3.3) stands for the actual variable; arrays and
-- records are copied.
--
--     program r; type v = record x, y: integer end; var a: array [1..3] of v; b: v; i: integer; procedure p(var w: v;
-- u: v); begin with w do begin x := u.y; y := u.x end; u.x := 9 end; begin i := 2; with a[i] do begin i := 3; x := 4;
-- y := 5 end; p(b, a[2]); writeln(b.x:1, b.y:2, a[2].x:2, i:2) end.
use Rattle.std.specs.Prelude.{◌≡◌, pos, true, false, [], ◌∷◌, None, codes, refl}
use Rattle.core_tree.specs.declared.op.Op.TheVariants as op
use Rattle.core_tree.specs.declared.op.PlaceOp.TheVariants as place
use Rattle.core_tree.specs.declared.op.EffectOp.TheVariants as effect
use Rattle.core_tree.specs.declared.op.Written.TheVariants as written
use Rattle.core_tree.specs.declared.op.Storage.TheVariants as storage
use Rattle.core_tree.specs.declared.op.Scope.TheVariants as scope
use Rattle.core_tree.specs.declared.form.StatementOp.TheVariants as stmt
use Rattle.core_tree.specs.Plain.{Routine}
use Rattle.core_tree.specs.Shapes.{Integer, RecordOf, NoField, Field}
use Rattle.plain_pascal.specs.Program.{Program, program_of}
use Rattle.plain_pascal.specs.State.{loaded_state}
use Rattle.plain_pascal.specs.Run.{AtEnd, run_of, settled, driven}
use Rattle.plain_pascal.specs.Build.{node, integers, global, local, reference, value, number, compound, statement, formal, routine, no_marks}

abbrev source : Routine
source =
    (routine 1 0 [] None [] (
    (routine 6 1 (formal true (RecordOf (Field [] Integer (Field [] Integer NoField))) ∷ formal false (RecordOf (Field [] Integer (Field [] Integer NoField))) ∷ []) None [] []
    (compound 7 None (
    (statement 8 None 1 0 stmt.With ((node (op.Effect (effect.Hold 1 2)) ((reference 0 0 3) ∷ [])) ∷ []) (
    (compound 9 None (
    (statement 10 None 1 1 (stmt.Assign integers) ((node (op.Place (place.Held 1 0)) []) ∷ (value (node (op.Place (place.Field 1)) ((local 0 1 3) ∷ []))) ∷ []) []) ∷
    (statement 11 None 1 1 (stmt.Assign integers) ((node (op.Place (place.Held 1 1)) []) ∷ (value (node (op.Place (place.Field 0)) ((local 0 1 3) ∷ []))) ∷ []) []) ∷ [])) ∷ [])) ∷
    (statement 12 None 1 0 (stmt.Assign integers) ((node (op.Place (place.Field 0)) ((local 0 1 3) ∷ [])) ∷ (number (pos 9)) ∷ []) []) ∷ []))) ∷ [])
    (compound 13 None (
    (statement 14 None 0 0 (stmt.Assign integers) ((global 8) ∷ (number (pos 2)) ∷ []) []) ∷
    (statement 15 None 0 0 stmt.With ((node (op.Effect (effect.Hold 1 2)) ((node (op.Place (place.Index (pos 1) (pos 3) 2)) ((global 0) ∷ (value (global 8)) ∷ [])) ∷ [])) ∷ []) (
    (compound 16 None (
    (statement 17 None 0 1 (stmt.Assign integers) ((global 8) ∷ (number (pos 3)) ∷ []) []) ∷
    (statement 18 None 0 1 (stmt.Assign integers) ((node (op.Place (place.Held 1 0)) []) ∷ (number (pos 4)) ∷ []) []) ∷
    (statement 19 None 0 1 (stmt.Assign integers) ((node (op.Place (place.Held 1 1)) []) ∷ (number (pos 5)) ∷ []) []) ∷ [])) ∷ [])) ∷
    (statement 20 None 0 0 stmt.Call ((node (op.Call (record { routine = record { 0 = 6 }; scope = scope.Program; function = false })) ((node op.ActualVariable ((global 6) ∷ [])) ∷ (node (op.Argument (storage.Structure 2)) ((node op.Structure ((node (op.Place (place.Index (pos 1) (pos 3) 2)) ((global 0) ∷ (number (pos 2)) ∷ [])) ∷ [])) ∷ [])) ∷ [])) ∷ []) []) ∷
    (statement 21 None 0 0 (stmt.Write true) ((node (op.Effect (effect.Write written.Integer true)) ((value (node (op.Place (place.Field 0)) ((global 6) ∷ []))) ∷ (number (pos 1)) ∷ [])) ∷ (node (op.Effect (effect.Write written.Integer true)) ((value (node (op.Place (place.Field 1)) ((global 6) ∷ []))) ∷ (number (pos 2)) ∷ [])) ∷ (node (op.Effect (effect.Write written.Integer true)) ((value (node (op.Place (place.Field 0)) ((node (op.Place (place.Index (pos 1) (pos 3) 2)) ((global 0) ∷ (number (pos 2)) ∷ [])) ∷ []))) ∷ (number (pos 2)) ∷ [])) ∷ (node (op.Effect (effect.Write written.Integer true)) ((value (global 8)) ∷ (number (pos 2)) ∷ [])) ∷ []) []) ∷ [])))

abbrev P : Program
P = program_of source

-- the whole run
ending : (run_of P no_marks 1000 loaded_state).ending ≡ AtEnd
unfolding settled driven
ending = refl

output : (run_of P no_marks 1000 loaded_state).last.data_now.output ≡ codes "5 4 4 3\n"
unfolding settled driven
output = refl
