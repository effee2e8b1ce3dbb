-- Labels.
use Rattle.std.specs.Prelude.{◌≡◌, ℕ, true, false, List, [], ◌∷◌, Option, Some, None, codes}
use Rattle.std.proofs.Common.{refl}
use Rattle.check_decl.specs.BlockRules.{BlockJudge}
use Rattle.check_cases.specs.Forms.{name_of, access, value, at_name, at_label, empty, goto, compound, while_do, repeat_until, block, procedure, routine_at, checked, Fault, shown}

-- program z; label 10000; begin 10000: end.
abbrev program_1 : BlockJudge
program_1 =
    (block (Some (name_of 2, (10000 ∷ []))) [] [] [] [] (at_name 3 (compound ((at_label 4 10000 empty) ∷ []))))

case_1 : shown (checked [] program_1) ≡ Fault 2 7
case_1 = refl

-- program z; label 1; begin end.
abbrev program_2 : BlockJudge
program_2 =
    (block (Some (name_of 2, (1 ∷ []))) [] [] [] [] (at_name 3 (compound ((at_name 4 empty) ∷ []))))

case_2 : shown (checked [] program_2) ≡ Fault 2 7
case_2 = refl

-- program z; label 1; begin 1: ; 1: end.
abbrev program_3 : BlockJudge
program_3 =
    (block (Some (name_of 2, (1 ∷ []))) [] [] [] [] (at_name 3 (compound ((at_label 4 1 empty) ∷ (at_label 5 1
    empty) ∷ []))))

case_3 : shown (checked [] program_3) ≡ Fault 2 7
case_3 = refl

-- program z; begin 1: end.
abbrev program_4 : BlockJudge
program_4 =
    (block None [] [] [] [] (at_name 2 (compound ((at_label 3 1 empty) ∷ []))))

case_4 : shown (checked [] program_4) ≡ Fault 3 7
case_4 = refl

-- program z; label 1; begin begin 1: end; goto 1 end.
abbrev program_5 : BlockJudge
program_5 =
    (block (Some (name_of 2, (1 ∷ []))) [] [] [] [] (at_name 3 (compound ((at_name 4 (compound ((at_label 5 1
    empty) ∷ []))) ∷ (at_name 6 (goto 1)) ∷ []))))

case_5 : shown (checked [] program_5) ≡ Fault 6 7
case_5 = refl

-- program z; label 1; begin repeat 1: until false; while true do goto 1 end.
abbrev program_6 : BlockJudge
program_6 =
    (block (Some (name_of 2, (1 ∷ []))) [] [] [] [] (at_name 3 (compound ((at_name 4 (repeat_until ((at_label 5 1
    empty) ∷ []) (value (access (codes "false") [])))) ∷ (at_name 6 (while_do (value (access (codes "true") []))
    (at_name 7 (goto 1)))) ∷ []))))

case_6 : shown (checked [] program_6) ≡ Fault 7 7
case_6 = refl

-- program z; label 1; procedure p; begin goto 1 end; begin 1: end.
abbrev program_7 : BlockJudge
program_7 =
    (block (Some (name_of 2, (1 ∷ []))) [] [] [] ((routine_at 3 (procedure (codes "p") []) (Some (block None [] []
    [] [] (at_name 4 (compound ((at_name 5 (goto 1)) ∷ [])))))) ∷ []) (at_name 6 (compound ((at_label 7 1 empty)
    ∷ []))))

case_7 : shown (checked [] program_7) ≡ Fault 5 7
case_7 = refl

-- program z; begin goto 1 end.
abbrev program_8 : BlockJudge
program_8 =
    (block None [] [] [] [] (at_name 2 (compound ((at_name 3 (goto 1)) ∷ []))))

case_8 : shown (checked [] program_8) ≡ Fault 3 7
case_8 = refl

-- program z; label 1; begin end.
abbrev program_9 : BlockJudge
program_9 =
    (block (Some (name_of 2, (1 ∷ []))) [] [] [] [] (at_name 3 (compound ((at_name 4 empty) ∷ []))))

case_9 : shown (checked [] program_9) ≡ Fault 2 7
case_9 = refl
