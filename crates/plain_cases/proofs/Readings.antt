-- Reading (6.9.1): an integer, a character, the end of a line; there is no more input: run-time error 10.
--
--     program r; var c: char; n: integer; begin read(n, c); writeln(n + 1:4, c, eoln); readln; read(n) end.
use Rattle.std.specs.Prelude.{◌≡◌, pos, negsuc, true, false, [], ◌∷◌, None, codes, refl}
use Rattle.core_tree.specs.declared.op.Op.TheVariants as op
use Rattle.core_tree.specs.declared.op.WordOp.TheVariants as word
use Rattle.core_tree.specs.declared.op.EffectOp.TheVariants as effect
use Rattle.core_tree.specs.declared.op.Written.TheVariants as written
use Rattle.core_tree.specs.declared.form.StatementOp.TheVariants as stmt
use Rattle.core_tree.specs.Plain.{Routine}
use Rattle.plain_pascal.specs.Program.{Program, program_of}
use Rattle.plain_pascal.specs.Run.{InError, run_of, settled, driven}
use Rattle.plain_pascal.specs.Build.{node, two, global, value, number, compound, statement, routine, no_marks, with_input}

abbrev source : Routine
source =
    (routine 1 0 [] None [] []
    (compound 4 None (
    (statement 5 None 0 0 (stmt.Read false) ((node (op.Effect (effect.ReadInteger (negsuc 32766) (pos 32767))) ((global 1) ∷ [])) ∷ (node (op.Effect (effect.ReadChar (pos 0) (pos 127))) ((global 0) ∷ [])) ∷ []) []) ∷
    (statement 6 None 0 0 (stmt.Write true) ((node (op.Effect (effect.Write written.Integer true)) ((two word.Add (value (global 1)) (number (pos 1))) ∷ (number (pos 4)) ∷ [])) ∷ (node (op.Effect (effect.Write written.Char false)) ((value (global 0)) ∷ [])) ∷ (node (op.Effect (effect.Write written.Boolean false)) ((node (op.Word word.Eoln) []) ∷ [])) ∷ []) []) ∷
    (statement 7 None 0 0 (stmt.Read true) [] []) ∷
    (statement 8 None 0 0 (stmt.Read false) ((node (op.Effect (effect.ReadInteger (negsuc 32766) (pos 32767))) ((global 1) ∷ [])) ∷ []) []) ∷ [])))

abbrev P : Program
P = program_of source

-- the whole run
ending : (run_of P no_marks 9 (with_input (codes "  41x\n"))).ending ≡ InError 10 8
unfolding settled driven
ending = refl

output : (run_of P no_marks 9 (with_input (codes "  41x\n"))).last.data_now.output ≡ codes "  42x TRUE\n"
unfolding settled driven
output = refl

-- with other input
ending_1 : (run_of P no_marks 9 (with_input (codes "-8y"))).ending ≡ InError 10 7
unfolding settled driven
ending_1 = refl

output_1 : (run_of P no_marks 9 (with_input (codes "-8y"))).last.data_now.output ≡ codes "  -7y TRUE\n"
unfolding settled driven
output_1 = refl
