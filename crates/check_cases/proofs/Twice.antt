-- An identifier or a label that is declared twice.
use Rattle.std.specs.Prelude.{◌≡◌, ℕ, true, false, List, [], ◌∷◌, Option, Some, None, codes}
use Rattle.std.proofs.Common.{refl}
use Rattle.pascal_tree.specs.declared.expr.Prefix.TheVariants as prefix
use Rattle.pascal_tree.specs.declared.stmt.Constant.TheVariants as constant
use Rattle.check_decl.specs.BlockRules.{BlockJudge}
use Rattle.check_cases.specs.Forms.{name_of, named_type, enumeration, record_type, at_name, at_label, empty, compound, constant_at, type_at, variables_at, block, section, procedure, routine_at, checked, Fault, shown}

-- program z; const a = 1; type a = integer; begin end.
abbrev program_1 : BlockJudge
program_1 =
    (block None ((constant_at 2 (codes "a") (constant.Number prefix.Without 1)) ∷ []) ((type_at 3 (codes "a")
    (named_type (codes "integer"))) ∷ []) [] [] (at_name 4 (compound ((at_name 5 empty) ∷ []))))

case_1 : shown (checked [] program_1) ≡ Fault 3 2
case_1 = refl

-- program z; var a, b, a: integer; begin end.
abbrev program_2 : BlockJudge
program_2 =
    (block None [] [] ((variables_at 2 ((codes "a") ∷ (codes "b") ∷ (codes "a") ∷ []) (named_type (codes
    "integer"))) ∷ []) [] (at_name 3 (compound ((at_name 4 empty) ∷ []))))

case_2 : shown (checked [] program_2) ≡ Fault 2 2
case_2 = refl

-- program z; type c = (r, g, r); begin end.
abbrev program_3 : BlockJudge
program_3 =
    (block None [] ((type_at 2 (codes "c") (enumeration ((codes "r") ∷ (codes "g") ∷ (codes "r") ∷ []))) ∷ []) []
    [] (at_name 3 (compound ((at_name 4 empty) ∷ []))))

case_3 : shown (checked [] program_3) ≡ Fault 2 2
case_3 = refl

-- program z; var a: record x, y: integer; x: char end; begin end.
abbrev program_4 : BlockJudge
program_4 =
    (block None [] [] ((variables_at 2 ((codes "a") ∷ []) (record_type false ((
      ((codes "x") ∷ (codes "y") ∷ []),
      (named_type (codes "integer")),
    ) ∷ (((codes "x") ∷ []), (named_type (codes "char"))) ∷ []))) ∷ []) [] (at_name
    3 (compound ((at_name 4 empty) ∷ []))))

case_4 : shown (checked [] program_4) ≡ Fault 2 2
case_4 = refl

-- program z; procedure p(a: integer); var a: char; begin end; begin end.
abbrev program_5 : BlockJudge
program_5 =
    (block None [] [] [] ((routine_at 2 (procedure (codes "p") ((section false ((codes "a") ∷ []) (codes
    "integer")) ∷ [])) (Some (block None [] [] ((variables_at 3 ((codes "a") ∷ []) (named_type (codes "char"))) ∷
    []) [] (at_name 4 (compound ((at_name 5 empty) ∷ [])))))) ∷ []) (at_name 6 (compound ((at_name 7 empty) ∷
    []))))

case_5 : shown (checked [] program_5) ≡ Fault 3 2
case_5 = refl

-- program z; procedure p(a, a: integer); begin end; begin end.
abbrev program_6 : BlockJudge
program_6 =
    (block None [] [] [] ((routine_at 2 (procedure (codes "p") ((section false ((codes "a") ∷ (codes "a") ∷ [])
    (codes "integer")) ∷ [])) (Some (block None [] [] [] [] (at_name 3 (compound ((at_name 4 empty) ∷ [])))))) ∷
    []) (at_name 5 (compound ((at_name 6 empty) ∷ []))))

case_6 : shown (checked [] program_6) ≡ Fault 2 2
case_6 = refl

-- program z; label 1, 1; begin 1: end.
abbrev program_7 : BlockJudge
program_7 =
    (block (Some (name_of 2, (1 ∷ 1 ∷ []))) [] [] [] [] (at_name 3 (compound ((at_label 4 1 empty) ∷ []))))

case_7 : shown (checked [] program_7) ≡ Fault 2 2
case_7 = refl

-- program z; var a: (x, y); b: (y, z); begin end.
abbrev program_8 : BlockJudge
program_8 =
    (block None [] [] ((variables_at 2 ((codes "a") ∷ []) (enumeration ((codes "x") ∷ (codes "y") ∷ []))) ∷
    (variables_at 3 ((codes "b") ∷ []) (enumeration ((codes "y") ∷ (codes "z") ∷ []))) ∷ []) [] (at_name 4
    (compound ((at_name 5 empty) ∷ []))))

case_8 : shown (checked [] program_8) ≡ Fault 3 2
case_8 = refl

-- program z; var a: record q: (x, y) end; x: integer; begin end.
abbrev program_9 : BlockJudge
program_9 =
    (block None [] [] ((variables_at 2 ((codes "a") ∷ []) (record_type false ((
      ((codes "q") ∷ []),
      (enumeration
          ((codes "x") ∷ (codes "y") ∷ [])),
    ) ∷ []))) ∷ (variables_at 3 ((codes "x") ∷ []) (named_type (codes
    "integer"))) ∷ []) [] (at_name 4 (compound ((at_name 5 empty) ∷ []))))

case_9 : shown (checked [] program_9) ≡ Fault 3 2
case_9 = refl

-- program z; procedure p; forward; procedure p; forward; procedure p; begin end; begin end.
abbrev program_10 : BlockJudge
program_10 =
    (block None [] [] [] ((routine_at 2 (procedure (codes "p") []) None) ∷ (routine_at 3 (procedure (codes "p") [])
    None) ∷ (routine_at 4 (procedure (codes "p") []) (Some (block None [] [] [] [] (at_name 5 (compound ((at_name
    6 empty) ∷ [])))))) ∷ []) (at_name 7 (compound ((at_name 8 empty) ∷ []))))

case_10 : shown (checked [] program_10) ≡ Fault 3 2
case_10 = refl

-- program z; procedure p; forward; procedure p; begin end; procedure p; begin end; begin end.
abbrev program_11 : BlockJudge
program_11 =
    (block None [] [] [] ((routine_at 2 (procedure (codes "p") []) None) ∷ (routine_at 3 (procedure (codes "p") [])
    (Some (block None [] [] [] [] (at_name 4 (compound ((at_name 5 empty) ∷ [])))))) ∷ (routine_at 6 (procedure
    (codes "p") []) (Some (block None [] [] [] [] (at_name 7 (compound ((at_name 8 empty) ∷ [])))))) ∷ [])
    (at_name 9 (compound ((at_name 10 empty) ∷ []))))

case_11 : shown (checked [] program_11) ≡ Fault 6 2
case_11 = refl

-- program z; const a = 1; type a = integer; begin end.
abbrev program_12 : BlockJudge
program_12 =
    (block None ((constant_at 2 (codes "a") (constant.Number prefix.Without 1)) ∷ []) ((type_at 3 (codes "a")
    (named_type (codes "integer"))) ∷ []) [] [] (at_name 4 (compound ((at_name 5 empty) ∷ []))))

case_12 : shown (checked [] program_12) ≡ Fault 3 2
case_12 = refl

-- program z; var a: record q: (x, y) end; x: integer; begin end.
abbrev program_13 : BlockJudge
program_13 =
    (block None [] [] ((variables_at 2 ((codes "a") ∷ []) (record_type false ((
      ((codes "q") ∷ []),
      (enumeration
          ((codes "x") ∷ (codes "y") ∷ [])),
    ) ∷ []))) ∷ (variables_at 3 ((codes "x") ∷ []) (named_type (codes
    "integer"))) ∷ []) [] (at_name 4 (compound ((at_name 5 empty) ∷ []))))

case_13 : shown (checked [] program_13) ≡ Fault 3 2
case_13 = refl

-- program z; procedure p(a: integer); var a: char; begin end; begin end.
abbrev program_14 : BlockJudge
program_14 =
    (block None [] [] [] ((routine_at 2 (procedure (codes "p") ((section false ((codes "a") ∷ []) (codes
    "integer")) ∷ [])) (Some (block None [] [] ((variables_at 3 ((codes "a") ∷ []) (named_type (codes "char"))) ∷
    []) [] (at_name 4 (compound ((at_name 5 empty) ∷ [])))))) ∷ []) (at_name 6 (compound ((at_name 7 empty) ∷
    []))))

case_14 : shown (checked [] program_14) ≡ Fault 3 2
case_14 = refl
