-- Variables made by `new` (6.6.5.3); one that was given back is not there: run-time error 6.
--
--     program l; type p = ^node; node = record v: integer; next: p end; var h, q: p; i: integer; begin h := nil; for
-- i := 1 to 3 do begin new(q); q^.v := i * i; q^.next := h; h := q end; while h <> nil do begin write(h^.v:3); q :=
-- h; h := h^.next; dispose(q) end; writeln(q^.v) end.
use Rattle.std.specs.Prelude.{◌≡◌, pos, negsuc, true, false, [], ◌∷◌, None, codes, refl}
use Rattle.core_tree.specs.declared.op.Op.TheVariants as op
use Rattle.core_tree.specs.declared.op.PlaceOp.TheVariants as place
use Rattle.core_tree.specs.declared.op.WordOp.TheVariants as word
use Rattle.core_tree.specs.declared.op.EffectOp.TheVariants as effect
use Rattle.core_tree.specs.declared.op.Written.TheVariants as written
use Rattle.core_tree.specs.declared.op.Storage.TheVariants as storage
use Rattle.core_tree.specs.declared.op.Scope.TheVariants as scope
use Rattle.core_tree.specs.declared.op.Relation.TheVariants as relation
use Rattle.core_tree.specs.declared.form.StatementOp.TheVariants as stmt
use Rattle.core_tree.specs.Plain.{Routine}
use Rattle.plain_pascal.specs.Program.{Program, program_of}
use Rattle.plain_pascal.specs.State.{loaded_state}
use Rattle.plain_pascal.specs.Run.{InError, run_of, settled, driven}
use Rattle.plain_pascal.specs.Build.{node, two, integers, global, value, number, compound, statement, routine, no_marks}

abbrev source : Routine
source =
    (routine 1 0 [] None [] []
    (compound 6 None (
    (statement 7 None 0 0 (stmt.Assign storage.Pointer) ((global 0) ∷ (node (op.Word word.Nil) []) ∷ []) []) ∷
    (statement 8 None 0 0 (stmt.For (record { variable = (record { scope = scope.Program; offset = 2; by_place = false; frame_words = 0 }); first = negsuc 32766; last = pos 32767; down = false })) ((number (pos 1)) ∷ (number (pos 3)) ∷ []) (
    (compound 9 None (
    (statement 10 None 0 1 (stmt.New 2) ((global 1) ∷ []) []) ∷
    (statement 11 None 0 1 (stmt.Assign integers) ((node (op.Place (place.Field 0)) ((node (op.Place (place.Dereference 2)) ((global 1) ∷ [])) ∷ [])) ∷ (two word.Multiply (value (global 2)) (value (global 2))) ∷ []) []) ∷
    (statement 12 None 0 1 (stmt.Assign storage.Pointer) ((node (op.Place (place.Field 1)) ((node (op.Place (place.Dereference 2)) ((global 1) ∷ [])) ∷ [])) ∷ (value (global 0)) ∷ []) []) ∷
    (statement 13 None 0 1 (stmt.Assign storage.Pointer) ((global 0) ∷ (value (global 1)) ∷ []) []) ∷ [])) ∷ [])) ∷
    (statement 14 None 0 0 stmt.While ((node (op.Word (word.Compare relation.NotEqual)) ((value (global 0)) ∷ (node (op.Word word.Nil) []) ∷ [])) ∷ []) (
    (compound 15 None (
    (statement 16 None 0 0 (stmt.Write false) ((node (op.Effect (effect.Write written.Integer true)) ((value (node (op.Place (place.Field 0)) ((node (op.Place (place.Dereference 2)) ((global 0) ∷ [])) ∷ []))) ∷ (number (pos 3)) ∷ [])) ∷ []) []) ∷
    (statement 17 None 0 0 (stmt.Assign storage.Pointer) ((global 1) ∷ (value (global 0)) ∷ []) []) ∷
    (statement 18 None 0 0 (stmt.Assign storage.Pointer) ((global 0) ∷ (value (node (op.Place (place.Field 1)) ((node (op.Place (place.Dereference 2)) ((global 0) ∷ [])) ∷ []))) ∷ []) []) ∷
    (statement 19 None 0 0 (stmt.Dispose 2) ((value (global 1)) ∷ []) []) ∷ [])) ∷ [])) ∷
    (statement 20 None 0 0 (stmt.Write true) ((node (op.Effect (effect.Write written.Integer false)) ((value (node (op.Place (place.Field 0)) ((node (op.Place (place.Dereference 2)) ((global 1) ∷ [])) ∷ []))) ∷ [])) ∷ []) []) ∷ [])))

abbrev P : Program
P = program_of source

-- the whole run
ending : (run_of P no_marks 1000 loaded_state).ending ≡ InError 6 20
unfolding settled driven
ending = refl

output : (run_of P no_marks 1000 loaded_state).last.data_now.output ≡ codes "  9  4  1"
unfolding settled driven
output = refl
