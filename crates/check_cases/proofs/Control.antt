-- Control variables.
use Rattle.std.specs.Prelude.{◌≡◌, ℕ, true, false, List, [], ◌∷◌, Option, Some, None, codes}
use Rattle.std.proofs.Common.{refl}
use Rattle.check_decl.specs.BlockRules.{BlockJudge}
use Rattle.check_cases.specs.Forms.{number, access, value, argument, function_call, named_type, at_name, empty, assign, call, compound, for_do, variables_at, block, section, procedure, function, routine_at, checked, Fault, shown}

-- program z; var i: integer; begin for i := 1 to 2 do i := 3 end.
abbrev program_1 : BlockJudge
program_1 =
    (block None [] [] ((variables_at 2 ((codes "i") ∷ []) (named_type (codes "integer"))) ∷ []) [] (at_name 3
    (compound ((at_name 4 (for_do (codes "i") (number 1) (number 2) (at_name 5 (assign (access (codes "i") [])
    (number 3))))) ∷ []))))

case_1 : shown (checked [] program_1) ≡ Fault 4 8
case_1 = refl

-- program z; var i: integer; begin for i := 1 to 2 do read(i) end.
abbrev program_2 : BlockJudge
program_2 =
    (block None [] [] ((variables_at 2 ((codes "i") ∷ []) (named_type (codes "integer"))) ∷ []) [] (at_name 3
    (compound ((at_name 4 (for_do (codes "i") (number 1) (number 2) (at_name 5 (call (codes "read") ((argument
    (value (access (codes "i") [])) None) ∷ []))))) ∷ []))))

case_2 : shown (checked [] program_2) ≡ Fault 4 8
case_2 = refl

-- program z; var i: integer; begin for i := 1 to 2 do for i := 1 to 2 do end.
abbrev program_3 : BlockJudge
program_3 =
    (block None [] [] ((variables_at 2 ((codes "i") ∷ []) (named_type (codes "integer"))) ∷ []) [] (at_name 3
    (compound ((at_name 4 (for_do (codes "i") (number 1) (number 2) (at_name 5 (for_do (codes "i") (number 1)
    (number 2) (at_name 6 empty))))) ∷ []))))

case_3 : shown (checked [] program_3) ≡ Fault 4 8
case_3 = refl

-- program z; var i: integer; procedure p(var a: integer); begin end; begin for i := 1 to 2 do p(i) end.
abbrev program_4 : BlockJudge
program_4 =
    (block None [] [] ((variables_at 2 ((codes "i") ∷ []) (named_type (codes "integer"))) ∷ []) ((routine_at 3
    (procedure (codes "p") ((section true ((codes "a") ∷ []) (codes "integer")) ∷ [])) (Some (block None [] [] []
    [] (at_name 4 (compound ((at_name 5 empty) ∷ [])))))) ∷ []) (at_name 6 (compound ((at_name 7 (for_do (codes
    "i") (number 1) (number 2) (at_name 8 (call (codes "p") ((argument (value (access (codes "i") [])) None) ∷
    []))))) ∷ []))))

case_4 : shown (checked [] program_4) ≡ Fault 7 8
case_4 = refl

-- program z; var i: integer; procedure p; begin i := 1 end; begin for i := 1 to 2 do end.
abbrev program_5 : BlockJudge
program_5 =
    (block None [] [] ((variables_at 2 ((codes "i") ∷ []) (named_type (codes "integer"))) ∷ []) ((routine_at 3
    (procedure (codes "p") []) (Some (block None [] [] [] [] (at_name 4 (compound ((at_name 5 (assign (access
    (codes "i") []) (number 1))) ∷ [])))))) ∷ []) (at_name 6 (compound ((at_name 7 (for_do (codes "i") (number 1)
    (number 2) (at_name 8 empty))) ∷ []))))

case_5 : shown (checked [] program_5) ≡ Fault 7 8
case_5 = refl

-- program z; var i: integer; procedure p; begin for i := 1 to 2 do end; begin end.
abbrev program_6 : BlockJudge
program_6 =
    (block None [] [] ((variables_at 2 ((codes "i") ∷ []) (named_type (codes "integer"))) ∷ []) ((routine_at 3
    (procedure (codes "p") []) (Some (block None [] [] [] [] (at_name 4 (compound ((at_name 5 (for_do (codes "i")
    (number 1) (number 2) (at_name 6 empty))) ∷ [])))))) ∷ []) (at_name 7 (compound ((at_name 8 empty) ∷ []))))

case_6 : shown (checked [] program_6) ≡ Fault 5 8
case_6 = refl

-- program z; procedure p(i: integer); begin for i := 1 to 2 do end; begin end.
abbrev program_7 : BlockJudge
program_7 =
    (block None [] [] [] ((routine_at 2 (procedure (codes "p") ((section false ((codes "i") ∷ []) (codes
    "integer")) ∷ [])) (Some (block None [] [] [] [] (at_name 3 (compound ((at_name 4 (for_do (codes "i") (number
    1) (number 2) (at_name 5 empty))) ∷ [])))))) ∷ []) (at_name 6 (compound ((at_name 7 empty) ∷ []))))

case_7 : shown (checked [] program_7) ≡ Fault 4 8
case_7 = refl

-- program z; var i: integer; function f(var a: integer): integer; begin end; begin for i := 1 to 2 do write(f(i))
-- end.
abbrev program_8 : BlockJudge
program_8 =
    (block None [] [] ((variables_at 2 ((codes "i") ∷ []) (named_type (codes "integer"))) ∷ []) ((routine_at 3
    (function (codes "f") ((section true ((codes "a") ∷ []) (codes "integer")) ∷ []) (Some (codes "integer")))
    (Some (block None [] [] [] [] (at_name 4 (compound ((at_name 5 empty) ∷ [])))))) ∷ []) (at_name 6 (compound
    ((at_name 7 (for_do (codes "i") (number 1) (number 2) (at_name 8 (call (codes "write") ((argument
    (function_call (codes "f") ((argument (value (access (codes "i") [])) None) ∷ [])) None) ∷ []))))) ∷ []))))

case_8 : shown (checked [] program_8) ≡ Fault 7 8
case_8 = refl

-- program z; var i: integer; begin for i := 1 to 2 do begin x := 1; i := 2 end end.
abbrev program_9 : BlockJudge
program_9 =
    (block None [] [] ((variables_at 2 ((codes "i") ∷ []) (named_type (codes "integer"))) ∷ []) [] (at_name 3
    (compound ((at_name 4 (for_do (codes "i") (number 1) (number 2) (at_name 5 (compound ((at_name 6 (assign
    (access (codes "x") []) (number 1))) ∷ (at_name 7 (assign (access (codes "i") []) (number 2))) ∷ []))))) ∷
    []))))

case_9 : shown (checked [] program_9) ≡ Fault 4 8
case_9 = refl

-- program z; var i: integer; procedure p; begin end; begin for i := 1 to 2 do begin x := 1; i := 2 end end.
abbrev program_10 : BlockJudge
program_10 =
    (block None [] [] ((variables_at 2 ((codes "i") ∷ []) (named_type (codes "integer"))) ∷ []) ((routine_at 3
    (procedure (codes "p") []) (Some (block None [] [] [] [] (at_name 4 (compound ((at_name 5 empty) ∷ [])))))) ∷
    []) (at_name 6 (compound ((at_name 7 (for_do (codes "i") (number 1) (number 2) (at_name 8 (compound ((at_name
    9 (assign (access (codes "x") []) (number 1))) ∷ (at_name 10 (assign (access (codes "i") []) (number 2))) ∷
    []))))) ∷ []))))

case_10 : shown (checked [] program_10) ≡ Fault 7 8
case_10 = refl
