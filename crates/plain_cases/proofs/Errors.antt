-- Both operands of `and` are evaluated: its second one is run-time error 4 at the statement of name 6.
--
--     program d; var x, y: integer; begin writeln(7 div (-2):1, (-7) mod 2:2); x := 1; if (x = 0) and (1 div y = 1)
-- then x := 2 end.
use Rattle.std.specs.Prelude.{◌≡◌, pos, true, false, [], ◌∷◌, None, codes, refl}
use Rattle.core_tree.specs.declared.op.Op.TheVariants as op
use Rattle.core_tree.specs.declared.op.WordOp.TheVariants as word
use Rattle.core_tree.specs.declared.op.EffectOp.TheVariants as effect
use Rattle.core_tree.specs.declared.op.Written.TheVariants as written
use Rattle.core_tree.specs.declared.op.Relation.TheVariants as relation
use Rattle.core_tree.specs.declared.form.StatementOp.TheVariants as stmt
use Rattle.core_tree.specs.Plain.{Routine}
use Rattle.plain_pascal.specs.Program.{Program, program_of}
use Rattle.plain_pascal.specs.State.{loaded_state}
use Rattle.plain_pascal.specs.Run.{InError, run_of, settled, driven}
use Rattle.plain_pascal.specs.Build.{node, two, integers, global, value, number, compound, statement, routine, no_marks}

abbrev source : Routine
source =
    (routine 1 0 [] None [] []
    (compound 3 None (
    (statement 4 None 0 0 (stmt.Write true) ((node (op.Effect (effect.Write written.Integer true)) ((two word.Divide (number (pos 7)) (node (op.Word word.Negate) ((number (pos 2)) ∷ []))) ∷ (number (pos 1)) ∷ [])) ∷ (node (op.Effect (effect.Write written.Integer true)) ((two word.Modulo (node (op.Word word.Negate) ((number (pos 7)) ∷ [])) (number (pos 2))) ∷ (number (pos 2)) ∷ [])) ∷ []) []) ∷
    (statement 5 None 0 0 (stmt.Assign integers) ((global 0) ∷ (number (pos 1)) ∷ []) []) ∷
    (statement 6 None 0 0 (stmt.If false) ((two word.And (node (op.Word (word.Compare relation.Equal)) ((value (global 0)) ∷ (number (pos 0)) ∷ [])) (node (op.Word (word.Compare relation.Equal)) ((two word.Divide (number (pos 1)) (value (global 1))) ∷ (number (pos 1)) ∷ []))) ∷ []) (
    (statement 7 None 0 0 (stmt.Assign integers) ((global 0) ∷ (number (pos 2)) ∷ []) []) ∷ [])) ∷ [])))

abbrev P : Program
P = program_of source

-- the whole run
ending : (run_of P no_marks 9 loaded_state).ending ≡ InError 4 6
unfolding settled driven
ending = refl

output : (run_of P no_marks 9 loaded_state).last.data_now.output ≡ codes "-3 1\n"
unfolding settled driven
output = refl
