-- An identifier that is unknown where it stands.
use Rattle.std.specs.Prelude.{◌≡◌, ℕ, true, false, List, [], ◌∷◌, Option, Some, None, codes}
use Rattle.std.proofs.Common.{refl}
use Rattle.pascal_tree.specs.declared.expr.Prefix.TheVariants as prefix
use Rattle.pascal_tree.specs.declared.stmt.Constant.TheVariants as constant
use Rattle.check_decl.specs.BlockRules.{BlockJudge}
use Rattle.check_cases.specs.Forms.{number, access, field, named_type, range, pointer, array, record_type, at_name, empty, assign, call, compound, with_do, constant_at, type_at, variables_at, block, procedure, routine_at, checked, Fault, shown}

-- program z; begin x := 1 end.
abbrev program_1 : BlockJudge
program_1 =
    (block None [] [] [] [] (at_name 2 (compound ((at_name 3 (assign (access (codes "x") []) (number 1))) ∷ []))))

case_1 : shown (checked [] program_1) ≡ Fault 3 1
case_1 = refl

-- program z; const k = 1; procedure p; var a: array [1..k] of integer; k: integer; begin end; begin end.
abbrev program_2 : BlockJudge
program_2 =
    (block None ((constant_at 2 (codes "k") (constant.Number prefix.Without 1)) ∷ []) [] [] ((routine_at 3
    (procedure (codes "p") []) (Some (block None [] [] ((variables_at 4 ((codes "a") ∷ []) (array false ((range
    (constant.Number prefix.Without 1) (constant.Named prefix.Without (codes "k"))) ∷ []) (named_type (codes
    "integer")))) ∷ (variables_at 5 ((codes "k") ∷ []) (named_type (codes "integer"))) ∷ []) [] (at_name 6
    (compound ((at_name 7 empty) ∷ [])))))) ∷ []) (at_name 8 (compound ((at_name 9 empty) ∷ []))))

case_2 : shown (checked [] program_2) ≡ Fault 4 1
case_2 = refl

-- program z; const k = k; begin end.
abbrev program_3 : BlockJudge
program_3 =
    (block None ((constant_at 2 (codes "k") (constant.Named prefix.Without (codes "k"))) ∷ []) [] [] [] (at_name 3
    (compound ((at_name 4 empty) ∷ []))))

case_3 : shown (checked [] program_3) ≡ Fault 2 1
case_3 = refl

-- program z; type t = array [1..2] of t; begin end.
abbrev program_4 : BlockJudge
program_4 =
    (block None [] ((type_at 2 (codes "t") (array false ((range (constant.Number prefix.Without 1) (constant.Number
    prefix.Without 2)) ∷ []) (named_type (codes "t")))) ∷ []) [] [] (at_name 3 (compound ((at_name 4 empty) ∷
    []))))

case_4 : shown (checked [] program_4) ≡ Fault 2 1
case_4 = refl

-- program z; type p = ^q; var q: integer; begin end.
abbrev program_5 : BlockJudge
program_5 =
    (block None [] ((type_at 2 (codes "p") (pointer (codes "q"))) ∷ []) ((variables_at 3 ((codes "q") ∷ [])
    (named_type (codes "integer"))) ∷ []) [] (at_name 4 (compound ((at_name 5 empty) ∷ []))))

case_5 : shown (checked [] program_5) ≡ Fault 2 1
case_5 = refl

-- program z; var q: ^n; n: integer; begin end.
abbrev program_6 : BlockJudge
program_6 =
    (block None [] [] ((variables_at 2 ((codes "q") ∷ []) (pointer (codes "n"))) ∷ (variables_at 3 ((codes "n") ∷
    []) (named_type (codes "integer"))) ∷ []) [] (at_name 4 (compound ((at_name 5 empty) ∷ []))))

case_6 : shown (checked [] program_6) ≡ Fault 2 1
case_6 = refl

-- program z; var r: record a: integer end; begin r.b := 1 end.
abbrev program_7 : BlockJudge
program_7 =
    (block None [] [] ((variables_at 2 ((codes "r") ∷ []) (record_type false ((
      ((codes "a") ∷ []),
      (named_type
          (codes "integer")),
    ) ∷ []))) ∷ []) [] (at_name 3 (compound ((at_name 4 (assign (access (codes "r") ((field
    (codes "b")) ∷ [])) (number 1))) ∷ []))))

case_7 : shown (checked [] program_7) ≡ Fault 4 1
case_7 = refl

-- program z; var i: integer; begin i.zz := 1 end.
abbrev program_8 : BlockJudge
program_8 =
    (block None [] [] ((variables_at 2 ((codes "i") ∷ []) (named_type (codes "integer"))) ∷ []) [] (at_name 3
    (compound ((at_name 4 (assign (access (codes "i") ((field (codes "zz")) ∷ [])) (number 1))) ∷ []))))

case_8 : shown (checked [] program_8) ≡ Fault 4 1
case_8 = refl

-- program z; type a = integer; var r: record b: a; a: integer end; begin end.
abbrev program_9 : BlockJudge
program_9 =
    (block None [] ((type_at 2 (codes "a") (named_type (codes "integer"))) ∷ []) ((variables_at 3 ((codes "r") ∷
    []) (record_type false ((((codes "b") ∷ []), (named_type (codes "a"))) ∷ (
      ((codes "a") ∷ []),
      (named_type
          (codes "integer")),
    ) ∷ []))) ∷ []) [] (at_name 4 (compound ((at_name 5 empty) ∷ []))))

case_9 : shown (checked [] program_9) ≡ Fault 3 1
case_9 = refl

-- program z; procedure p; begin q end; procedure q; begin end; begin end.
abbrev program_10 : BlockJudge
program_10 =
    (block None [] [] [] ((routine_at 2 (procedure (codes "p") []) (Some (block None [] [] [] [] (at_name 3
    (compound ((at_name 4 (call (codes "q") [])) ∷ [])))))) ∷ (routine_at 5 (procedure (codes "q") []) (Some
    (block None [] [] [] [] (at_name 6 (compound ((at_name 7 empty) ∷ [])))))) ∷ []) (at_name 8 (compound
    ((at_name 9 empty) ∷ []))))

case_10 : shown (checked [] program_10) ≡ Fault 4 1
case_10 = refl

-- program z; const k = 1; procedure p; var a: array [1..k] of integer; k: integer; begin end; begin end.
abbrev program_11 : BlockJudge
program_11 =
    (block None ((constant_at 2 (codes "k") (constant.Number prefix.Without 1)) ∷ []) [] [] ((routine_at 3
    (procedure (codes "p") []) (Some (block None [] [] ((variables_at 4 ((codes "a") ∷ []) (array false ((range
    (constant.Number prefix.Without 1) (constant.Named prefix.Without (codes "k"))) ∷ []) (named_type (codes
    "integer")))) ∷ (variables_at 5 ((codes "k") ∷ []) (named_type (codes "integer"))) ∷ []) [] (at_name 6
    (compound ((at_name 7 empty) ∷ [])))))) ∷ []) (at_name 8 (compound ((at_name 9 empty) ∷ []))))

case_11 : shown (checked [] program_11) ≡ Fault 4 1
case_11 = refl

-- program z; const k = k; begin end.
abbrev program_12 : BlockJudge
program_12 =
    (block None ((constant_at 2 (codes "k") (constant.Named prefix.Without (codes "k"))) ∷ []) [] [] [] (at_name 3
    (compound ((at_name 4 empty) ∷ []))))

case_12 : shown (checked [] program_12) ≡ Fault 2 1
case_12 = refl

-- program z; type p = ^q; var q: integer; begin end.
abbrev program_13 : BlockJudge
program_13 =
    (block None [] ((type_at 2 (codes "p") (pointer (codes "q"))) ∷ []) ((variables_at 3 ((codes "q") ∷ [])
    (named_type (codes "integer"))) ∷ []) [] (at_name 4 (compound ((at_name 5 empty) ∷ []))))

case_13 : shown (checked [] program_13) ≡ Fault 2 1
case_13 = refl

-- program z; procedure p; begin q end; procedure q; begin end; begin end.
abbrev program_14 : BlockJudge
program_14 =
    (block None [] [] [] ((routine_at 2 (procedure (codes "p") []) (Some (block None [] [] [] [] (at_name 3
    (compound ((at_name 4 (call (codes "q") [])) ∷ [])))))) ∷ (routine_at 5 (procedure (codes "q") []) (Some
    (block None [] [] [] [] (at_name 6 (compound ((at_name 7 empty) ∷ [])))))) ∷ []) (at_name 8 (compound
    ((at_name 9 empty) ∷ []))))

case_14 : shown (checked [] program_14) ≡ Fault 4 1
case_14 = refl

-- program z; type p = record a: integer end; var r: p; begin with r do b := 1; a := 1 end.
abbrev program_15 : BlockJudge
program_15 =
    (block None [] ((type_at 2 (codes "p") (record_type false ((((codes "a") ∷ []), (named_type (codes "integer")))
    ∷ []))) ∷ []) ((variables_at 3 ((codes "r") ∷ []) (named_type (codes "p"))) ∷ []) [] (at_name 4 (compound
    ((at_name 5 (with_do ((access (codes "r") []) ∷ []) (at_name 6 (assign (access (codes "b") []) (number 1)))))
    ∷ (at_name 7 (assign (access (codes "a") []) (number 1))) ∷ []))))

case_15 : shown (checked [] program_15) ≡ Fault 6 1
case_15 = refl
