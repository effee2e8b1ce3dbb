-- Forward headings.
use Rattle.std.specs.Prelude.{◌≡◌, ℕ, true, false, List, [], ◌∷◌, Option, Some, None, codes}
use Rattle.std.proofs.Common.{refl}
use Rattle.check_decl.specs.BlockRules.{BlockJudge}
use Rattle.check_cases.specs.Forms.{at_name, empty, compound, block, section, procedure, function, routine_at, checked, Fault, shown}

-- program z; procedure p; forward; begin end.
abbrev program_1 : BlockJudge
program_1 =
    (block None [] [] [] ((routine_at 2 (procedure (codes "p") []) None) ∷ []) (at_name 3 (compound ((at_name 4
    empty) ∷ []))))

case_1 : shown (checked [] program_1) ≡ Fault 2 10
case_1 = refl

-- program z; procedure p; forward; function p: integer; begin end; begin end.
abbrev program_2 : BlockJudge
program_2 =
    (block None [] [] [] ((routine_at 2 (procedure (codes "p") []) None) ∷ (routine_at 3 (function (codes "p") []
    (Some (codes "integer"))) (Some (block None [] [] [] [] (at_name 4 (compound ((at_name 5 empty) ∷ [])))))) ∷
    []) (at_name 6 (compound ((at_name 7 empty) ∷ []))))

case_2 : shown (checked [] program_2) ≡ Fault 2 10
case_2 = refl

-- program z; procedure p(a: integer); forward; procedure p(a: integer); begin end; begin end.
abbrev program_3 : BlockJudge
program_3 =
    (block None [] [] [] ((routine_at 2 (procedure (codes "p") ((section false ((codes "a") ∷ []) (codes
    "integer")) ∷ [])) None) ∷ (routine_at 3 (procedure (codes "p") ((section false ((codes "a") ∷ []) (codes
    "integer")) ∷ [])) (Some (block None [] [] [] [] (at_name 4 (compound ((at_name 5 empty) ∷ [])))))) ∷ [])
    (at_name 6 (compound ((at_name 7 empty) ∷ []))))

case_3 : shown (checked [] program_3) ≡ Fault 3 10
case_3 = refl

-- program z; function f: integer; forward; function f: integer; begin end; begin end.
abbrev program_4 : BlockJudge
program_4 =
    (block None [] [] [] ((routine_at 2 (function (codes "f") [] (Some (codes "integer"))) None) ∷ (routine_at 3
    (function (codes "f") [] (Some (codes "integer"))) (Some (block None [] [] [] [] (at_name 4 (compound
    ((at_name 5 empty) ∷ [])))))) ∷ []) (at_name 6 (compound ((at_name 7 empty) ∷ []))))

case_4 : shown (checked [] program_4) ≡ Fault 3 10
case_4 = refl

-- program z; procedure p; forward; begin end.
abbrev program_5 : BlockJudge
program_5 =
    (block None [] [] [] ((routine_at 2 (procedure (codes "p") []) None) ∷ []) (at_name 3 (compound ((at_name 4
    empty) ∷ []))))

case_5 : shown (checked [] program_5) ≡ Fault 2 10
case_5 = refl

-- program z; procedure p(a: integer); forward; procedure p(a: integer); begin end; begin end.
abbrev program_6 : BlockJudge
program_6 =
    (block None [] [] [] ((routine_at 2 (procedure (codes "p") ((section false ((codes "a") ∷ []) (codes
    "integer")) ∷ [])) None) ∷ (routine_at 3 (procedure (codes "p") ((section false ((codes "a") ∷ []) (codes
    "integer")) ∷ [])) (Some (block None [] [] [] [] (at_name 4 (compound ((at_name 5 empty) ∷ [])))))) ∷ [])
    (at_name 6 (compound ((at_name 7 empty) ∷ []))))

case_6 : shown (checked [] program_6) ≡ Fault 3 10
case_6 = refl
