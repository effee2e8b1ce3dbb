-- The first column of some lines.
use Rattle.std.specs.Prelude.{◌≡◌, [], ◌∷◌, codes}
use Rattle.std.proofs.Common.{refl}
use Rattle.dice_base.specs.Lines.{joined, lines_of, whole_lines}
use Rattle.pascal_print.specs.FirstColumn.{first_column}

-- a line without a name may begin with a number, and a name may have more than six digits
some_names : first_column (joined (codes "     1 program a ;" ∷ codes "       label" ∷ codes "    12   7 ;"
    ∷ codes "         2 :" ∷ codes "   345" ∷ codes "1000000     i := 7" ∷ []))
    ≡ 1 ∷ 12 ∷ 345 ∷ 1000000 ∷ []
unfolding lines_of whole_lines
some_names = refl
