-- Arguments that do not match.
use Rattle.std.specs.Prelude.{◌≡◌, ℕ, true, false, List, [], ◌∷◌, Option, Some, None, codes}
use Rattle.std.proofs.Common.{refl}
use Rattle.pascal_tree.specs.declared.expr.Prefix.TheVariants as prefix
use Rattle.pascal_tree.specs.declared.expr.AddOp.TheVariants as add
use Rattle.pascal_tree.specs.declared.stmt.Constant.TheVariants as constant
use Rattle.check_decl.specs.BlockRules.{BlockJudge}
use Rattle.check_cases.specs.Forms.{number, access, field, value, argument, function_call, paren, sum, named_type, range, pointer, record_type, at_name, empty, assign, call, compound, with_do, constant_at, variables_at, block, section, procedure, routine_at, checked, Fault, shown}

-- program z; const k = 1; procedure p(var x: integer); begin end; begin p(k) end.
abbrev program_1 : BlockJudge
program_1 =
    (block None ((constant_at 2 (codes "k") (constant.Number prefix.Without 1)) ∷ []) [] [] ((routine_at 3
    (procedure (codes "p") ((section true ((codes "x") ∷ []) (codes "integer")) ∷ [])) (Some (block None [] [] []
    [] (at_name 4 (compound ((at_name 5 empty) ∷ [])))))) ∷ []) (at_name 6 (compound ((at_name 7 (call (codes
    "p") ((argument (value (access (codes "k") [])) None) ∷ []))) ∷ []))))

case_1 : shown (checked [] program_1) ≡ Fault 7 5
case_1 = refl

-- program z; procedure p(a: integer); begin end; begin p end.
abbrev program_2 : BlockJudge
program_2 =
    (block None [] [] [] ((routine_at 2 (procedure (codes "p") ((section false ((codes "a") ∷ []) (codes
    "integer")) ∷ [])) (Some (block None [] [] [] [] (at_name 3 (compound ((at_name 4 empty) ∷ [])))))) ∷ [])
    (at_name 5 (compound ((at_name 6 (call (codes "p") [])) ∷ []))))

case_2 : shown (checked [] program_2) ≡ Fault 6 5
case_2 = refl

-- program z; procedure p(a: integer); begin end; begin p(1, 2) end.
abbrev program_3 : BlockJudge
program_3 =
    (block None [] [] [] ((routine_at 2 (procedure (codes "p") ((section false ((codes "a") ∷ []) (codes
    "integer")) ∷ [])) (Some (block None [] [] [] [] (at_name 3 (compound ((at_name 4 empty) ∷ [])))))) ∷ [])
    (at_name 5 (compound ((at_name 6 (call (codes "p") ((argument (number 1) None) ∷ (argument (number 2) None) ∷
    []))) ∷ []))))

case_3 : shown (checked [] program_3) ≡ Fault 6 5
case_3 = refl

-- program z; procedure p(a: integer); begin end; begin p(1: 2) end.
abbrev program_4 : BlockJudge
program_4 =
    (block None [] [] [] ((routine_at 2 (procedure (codes "p") ((section false ((codes "a") ∷ []) (codes
    "integer")) ∷ [])) (Some (block None [] [] [] [] (at_name 3 (compound ((at_name 4 empty) ∷ [])))))) ∷ [])
    (at_name 5 (compound ((at_name 6 (call (codes "p") ((argument (number 1) (Some (number 2))) ∷ []))) ∷ []))))

case_4 : shown (checked [] program_4) ≡ Fault 6 5
case_4 = refl

-- program z; var i: 1..3; procedure p(var a: integer); begin end; begin p(i) end.
abbrev program_5 : BlockJudge
program_5 =
    (block None [] [] ((variables_at 2 ((codes "i") ∷ []) (range (constant.Number prefix.Without 1)
    (constant.Number prefix.Without 3))) ∷ []) ((routine_at 3 (procedure (codes "p") ((section true ((codes "a")
    ∷ []) (codes "integer")) ∷ [])) (Some (block None [] [] [] [] (at_name 4 (compound ((at_name 5 empty) ∷
    [])))))) ∷ []) (at_name 6 (compound ((at_name 7 (call (codes "p") ((argument (value (access (codes "i") []))
    None) ∷ []))) ∷ []))))

case_5 : shown (checked [] program_5) ≡ Fault 7 5
case_5 = refl

-- program z; var r: packed record i: integer end; procedure p(var a: integer); begin end; begin p(r.i) end.
abbrev program_6 : BlockJudge
program_6 =
    (block None [] [] ((variables_at 2 ((codes "r") ∷ []) (record_type true ((
      ((codes "i") ∷ []),
      (named_type
          (codes "integer")),
    ) ∷ []))) ∷ []) ((routine_at 3 (procedure (codes "p") ((section true ((codes "a") ∷ [])
    (codes "integer")) ∷ [])) (Some (block None [] [] [] [] (at_name 4 (compound ((at_name 5 empty) ∷ [])))))) ∷
    []) (at_name 6 (compound ((at_name 7 (call (codes "p") ((argument (value (access (codes "r") ((field (codes
    "i")) ∷ []))) None) ∷ []))) ∷ []))))

case_6 : shown (checked [] program_6) ≡ Fault 7 5
case_6 = refl

-- program z; var r: packed record i: integer end; procedure p(var a: integer); begin end; begin with r do p(i) end.
abbrev program_7 : BlockJudge
program_7 =
    (block None [] [] ((variables_at 2 ((codes "r") ∷ []) (record_type true ((
      ((codes "i") ∷ []),
      (named_type
          (codes "integer")),
    ) ∷ []))) ∷ []) ((routine_at 3 (procedure (codes "p") ((section true ((codes "a") ∷ [])
    (codes "integer")) ∷ [])) (Some (block None [] [] [] [] (at_name 4 (compound ((at_name 5 empty) ∷ [])))))) ∷
    []) (at_name 6 (compound ((at_name 7 (with_do ((access (codes "r") []) ∷ []) (at_name 8 (call (codes "p")
    ((argument (value (access (codes "i") [])) None) ∷ []))))) ∷ []))))

case_7 : shown (checked [] program_7) ≡ Fault 8 5
case_7 = refl

-- program z; var i: integer; procedure p(var a: integer); begin end; begin p((i)) end.
abbrev program_8 : BlockJudge
program_8 =
    (block None [] [] ((variables_at 2 ((codes "i") ∷ []) (named_type (codes "integer"))) ∷ []) ((routine_at 3
    (procedure (codes "p") ((section true ((codes "a") ∷ []) (codes "integer")) ∷ [])) (Some (block None [] [] []
    [] (at_name 4 (compound ((at_name 5 empty) ∷ [])))))) ∷ []) (at_name 6 (compound ((at_name 7 (call (codes
    "p") ((argument (paren (value (access (codes "i") []))) None) ∷ []))) ∷ []))))

case_8 : shown (checked [] program_8) ≡ Fault 7 5
case_8 = refl

-- program z; var i: integer; procedure p(var a: integer); begin end; begin p(i + 1) end.
abbrev program_9 : BlockJudge
program_9 =
    (block None [] [] ((variables_at 2 ((codes "i") ∷ []) (named_type (codes "integer"))) ∷ []) ((routine_at 3
    (procedure (codes "p") ((section true ((codes "a") ∷ []) (codes "integer")) ∷ [])) (Some (block None [] [] []
    [] (at_name 4 (compound ((at_name 5 empty) ∷ [])))))) ∷ []) (at_name 6 (compound ((at_name 7 (call (codes
    "p") ((argument (sum prefix.Without (value (access (codes "i") [])) ((add.Plus, (number 1)) ∷ [])) None) ∷
    []))) ∷ []))))

case_9 : shown (checked [] program_9) ≡ Fault 7 5
case_9 = refl

-- program z; begin write end.
abbrev program_10 : BlockJudge
program_10 =
    (block None [] [] [] [] (at_name 2 (compound ((at_name 3 (call (codes "write") [])) ∷ []))))

case_10 : shown (checked [] program_10) ≡ Fault 3 5
case_10 = refl

-- program z; begin write(output) end.
abbrev program_11 : BlockJudge
program_11 =
    (block None [] [] [] [] (at_name 2 (compound ((at_name 3 (call (codes "write") ((argument (value (access (codes
    "output") [])) None) ∷ []))) ∷ []))))

case_11 : shown (checked [] program_11) ≡ Fault 3 5
case_11 = refl

-- program z; begin read end.
abbrev program_12 : BlockJudge
program_12 =
    (block None [] [] [] [] (at_name 2 (compound ((at_name 3 (call (codes "read") [])) ∷ []))))

case_12 : shown (checked [] program_12) ≡ Fault 3 5
case_12 = refl

-- program z; var i: integer; begin i := abs end.
abbrev program_13 : BlockJudge
program_13 =
    (block None [] [] ((variables_at 2 ((codes "i") ∷ []) (named_type (codes "integer"))) ∷ []) [] (at_name 3
    (compound ((at_name 4 (assign (access (codes "i") []) (value (access (codes "abs") [])))) ∷ []))))

case_13 : shown (checked [] program_13) ≡ Fault 4 5
case_13 = refl

-- program z; var i: integer; begin i := abs(1, 2) end.
abbrev program_14 : BlockJudge
program_14 =
    (block None [] [] ((variables_at 2 ((codes "i") ∷ []) (named_type (codes "integer"))) ∷ []) [] (at_name 3
    (compound ((at_name 4 (assign (access (codes "i") []) (function_call (codes "abs") ((argument (number 1)
    None) ∷ (argument (number 2) None) ∷ [])))) ∷ []))))

case_14 : shown (checked [] program_14) ≡ Fault 4 5
case_14 = refl

-- program z; var i: integer; begin read(i: 3) end.
abbrev program_15 : BlockJudge
program_15 =
    (block None [] [] ((variables_at 2 ((codes "i") ∷ []) (named_type (codes "integer"))) ∷ []) [] (at_name 3
    (compound ((at_name 4 (call (codes "read") ((argument (value (access (codes "i") [])) (Some (number 3))) ∷
    []))) ∷ []))))

case_15 : shown (checked [] program_15) ≡ Fault 4 5
case_15 = refl

-- program z; var p: ^integer; begin new(p, 1) end.
abbrev program_16 : BlockJudge
program_16 =
    (block None [] [] ((variables_at 2 ((codes "p") ∷ []) (pointer (codes "integer"))) ∷ []) [] (at_name 3
    (compound ((at_name 4 (call (codes "new") ((argument (value (access (codes "p") [])) None) ∷ (argument
    (number 1) None) ∷ []))) ∷ []))))

case_16 : shown (checked [] program_16) ≡ Fault 4 5
case_16 = refl

-- program z; begin write(output) end.
abbrev program_17 : BlockJudge
program_17 =
    (block None [] [] [] [] (at_name 2 (compound ((at_name 3 (call (codes "write") ((argument (value (access (codes
    "output") [])) None) ∷ []))) ∷ []))))

case_17 : shown (checked [] program_17) ≡ Fault 3 5
case_17 = refl
