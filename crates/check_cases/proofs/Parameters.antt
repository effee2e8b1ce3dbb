-- Program parameters.
use Rattle.std.specs.Prelude.{◌≡◌, ℕ, true, false, List, [], ◌∷◌, Option, Some, None, codes}
use Rattle.std.proofs.Common.{refl}
use Rattle.check_decl.specs.BlockRules.{BlockJudge}
use Rattle.check_cases.specs.Forms.{at_name, empty, call, compound, block, checked, Fault, shown}

-- program z(x); begin end.
abbrev program_1 : BlockJudge
program_1 =
    (block None [] [] [] [] (at_name 2 (compound ((at_name 3 empty) ∷ []))))

case_1 : shown (checked ((codes "x") ∷ []) program_1) ≡ Fault 1 11
case_1 = refl

-- program z(input, input); begin end.
abbrev program_2 : BlockJudge
program_2 =
    (block None [] [] [] [] (at_name 2 (compound ((at_name 3 empty) ∷ []))))

case_2 : shown (checked ((codes "input") ∷ (codes "input") ∷ []) program_2) ≡ Fault 1 11
case_2 = refl

-- program z(x); begin y end.
abbrev program_3 : BlockJudge
program_3 =
    (block None [] [] [] [] (at_name 2 (compound ((at_name 3 (call (codes "y") [])) ∷ []))))

case_3 : shown (checked ((codes "x") ∷ []) program_3) ≡ Fault 1 11
case_3 = refl
