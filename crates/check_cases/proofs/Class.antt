-- An identifier of another class than its place asks for.
use Rattle.std.specs.Prelude.{◌≡◌, ℕ, true, false, List, [], ◌∷◌, Option, Some, None, codes}
use Rattle.std.proofs.Common.{refl}
use Rattle.pascal_tree.specs.declared.expr.Prefix.TheVariants as prefix
use Rattle.pascal_tree.specs.declared.stmt.Constant.TheVariants as constant
use Rattle.check_decl.specs.BlockRules.{BlockJudge}
use Rattle.check_cases.specs.Forms.{number, access, field, value, argument, named_type, enumeration, pointer, record_type, at_name, empty, assign, call, compound, case_of, for_do, with_do, constant_at, type_at, variables_at, block, section, procedure, function, routine_at, checked, Fault, shown}

-- program z; type p = ^r; c = (r, g); begin end.
abbrev program_1 : BlockJudge
program_1 =
    (block None [] ((type_at 2 (codes "p") (pointer (codes "r"))) ∷ (type_at 3 (codes "c") (enumeration ((codes
    "r") ∷ (codes "g") ∷ []))) ∷ []) [] [] (at_name 4 (compound ((at_name 5 empty) ∷ []))))

case_1 : shown (checked [] program_1) ≡ Fault 2 3
case_1 = refl

-- program z; var r: record a: integer end; x: integer; begin r.x := 1 end.
abbrev program_2 : BlockJudge
program_2 =
    (block None [] [] ((variables_at 2 ((codes "r") ∷ []) (record_type false ((
      ((codes "a") ∷ []),
      (named_type
          (codes "integer")),
    ) ∷ []))) ∷ (variables_at 3 ((codes "x") ∷ []) (named_type (codes "integer"))) ∷ []) []
    (at_name 4 (compound ((at_name 5 (assign (access (codes "r") ((field (codes "x")) ∷ [])) (number 1))) ∷
    []))))

case_2 : shown (checked [] program_2) ≡ Fault 5 3
case_2 = refl

-- program z; var i, j: integer; begin i.j := 1 end.
abbrev program_3 : BlockJudge
program_3 =
    (block None [] [] ((variables_at 2 ((codes "i") ∷ (codes "j") ∷ []) (named_type (codes "integer"))) ∷ []) []
    (at_name 3 (compound ((at_name 4 (assign (access (codes "i") ((field (codes "j")) ∷ [])) (number 1))) ∷
    []))))

case_3 : shown (checked [] program_3) ≡ Fault 4 3
case_3 = refl

-- program z; type a = integer; var r: record a: integer; b: a end; begin end.
abbrev program_4 : BlockJudge
program_4 =
    (block None [] ((type_at 2 (codes "a") (named_type (codes "integer"))) ∷ []) ((variables_at 3 ((codes "r") ∷
    []) (record_type false ((((codes "a") ∷ []), (named_type (codes "integer"))) ∷ (
      ((codes "b") ∷ []),
      (named_type (codes "a")),
    ) ∷ []))) ∷ []) [] (at_name 4 (compound ((at_name 5 empty) ∷ []))))

case_4 : shown (checked [] program_4) ≡ Fault 3 3
case_4 = refl

-- program z; procedure p(x: char; y: x); begin end; begin end.
abbrev program_5 : BlockJudge
program_5 =
    (block None [] [] [] ((routine_at 2 (procedure (codes "p") ((section false ((codes "x") ∷ []) (codes "char")) ∷
    (section false ((codes "y") ∷ []) (codes "x")) ∷ [])) (Some (block None [] [] [] [] (at_name 3 (compound
    ((at_name 4 empty) ∷ [])))))) ∷ []) (at_name 5 (compound ((at_name 6 empty) ∷ []))))

case_5 : shown (checked [] program_5) ≡ Fault 2 3
case_5 = refl

-- program z; var t: integer; u: t; begin end.
abbrev program_6 : BlockJudge
program_6 =
    (block None [] [] ((variables_at 2 ((codes "t") ∷ []) (named_type (codes "integer"))) ∷ (variables_at 3 ((codes
    "u") ∷ []) (named_type (codes "t"))) ∷ []) [] (at_name 4 (compound ((at_name 5 empty) ∷ []))))

case_6 : shown (checked [] program_6) ≡ Fault 3 3
case_6 = refl

-- program z; const k = 1; begin k := 2 end.
abbrev program_7 : BlockJudge
program_7 =
    (block None ((constant_at 2 (codes "k") (constant.Number prefix.Without 1)) ∷ []) [] [] [] (at_name 3 (compound
    ((at_name 4 (assign (access (codes "k") []) (number 2))) ∷ []))))

case_7 : shown (checked [] program_7) ≡ Fault 4 3
case_7 = refl

-- program z; begin writeln(integer) end.
abbrev program_8 : BlockJudge
program_8 =
    (block None [] [] [] [] (at_name 2 (compound ((at_name 3 (call (codes "writeln") ((argument (value (access
    (codes "integer") [])) None) ∷ []))) ∷ []))))

case_8 : shown (checked [] program_8) ≡ Fault 3 3
case_8 = refl

-- program z; begin abs(1) end.
abbrev program_9 : BlockJudge
program_9 =
    (block None [] [] [] [] (at_name 2 (compound ((at_name 3 (call (codes "abs") ((argument (number 1) None) ∷
    []))) ∷ []))))

case_9 : shown (checked [] program_9) ≡ Fault 3 3
case_9 = refl

-- program z; var x: integer; procedure p; begin end; begin x := p end.
abbrev program_10 : BlockJudge
program_10 =
    (block None [] [] ((variables_at 2 ((codes "x") ∷ []) (named_type (codes "integer"))) ∷ []) ((routine_at 3
    (procedure (codes "p") []) (Some (block None [] [] [] [] (at_name 4 (compound ((at_name 5 empty) ∷ [])))))) ∷
    []) (at_name 6 (compound ((at_name 7 (assign (access (codes "x") []) (value (access (codes "p") [])))) ∷
    []))))

case_10 : shown (checked [] program_10) ≡ Fault 7 3
case_10 = refl

-- program z; function f: integer; begin f := 1 end; begin f := 2 end.
abbrev program_11 : BlockJudge
program_11 =
    (block None [] [] [] ((routine_at 2 (function (codes "f") [] (Some (codes "integer"))) (Some (block None [] []
    [] [] (at_name 3 (compound ((at_name 4 (assign (access (codes "f") []) (number 1))) ∷ [])))))) ∷ []) (at_name
    5 (compound ((at_name 6 (assign (access (codes "f") []) (number 2))) ∷ []))))

case_11 : shown (checked [] program_11) ≡ Fault 6 3
case_11 = refl

-- program z; const k = 1; begin read(k) end.
abbrev program_12 : BlockJudge
program_12 =
    (block None ((constant_at 2 (codes "k") (constant.Number prefix.Without 1)) ∷ []) [] [] [] (at_name 3 (compound
    ((at_name 4 (call (codes "read") ((argument (value (access (codes "k") [])) None) ∷ []))) ∷ []))))

case_12 : shown (checked [] program_12) ≡ Fault 4 3
case_12 = refl

-- program z; var r: record i: integer end; begin with r do for i := 1 to 2 do end.
abbrev program_13 : BlockJudge
program_13 =
    (block None [] [] ((variables_at 2 ((codes "r") ∷ []) (record_type false ((
      ((codes "i") ∷ []),
      (named_type
          (codes "integer")),
    ) ∷ []))) ∷ []) [] (at_name 3 (compound ((at_name 4 (with_do ((access (codes "r") []) ∷ [])
    (at_name 5 (for_do (codes "i") (number 1) (number 2) (at_name 6 empty))))) ∷ []))))

case_13 : shown (checked [] program_13) ≡ Fault 5 3
case_13 = refl

-- program z; type a = integer; var r: record a: integer; b: a end; begin end.
abbrev program_14 : BlockJudge
program_14 =
    (block None [] ((type_at 2 (codes "a") (named_type (codes "integer"))) ∷ []) ((variables_at 3 ((codes "r") ∷
    []) (record_type false ((((codes "a") ∷ []), (named_type (codes "integer"))) ∷ (
      ((codes "b") ∷ []),
      (named_type (codes "a")),
    ) ∷ []))) ∷ []) [] (at_name 4 (compound ((at_name 5 empty) ∷ []))))

case_14 : shown (checked [] program_14) ≡ Fault 3 3
case_14 = refl

-- program z; var t: integer; u: t; begin end.
abbrev program_15 : BlockJudge
program_15 =
    (block None [] [] ((variables_at 2 ((codes "t") ∷ []) (named_type (codes "integer"))) ∷ (variables_at 3 ((codes
    "u") ∷ []) (named_type (codes "t"))) ∷ []) [] (at_name 4 (compound ((at_name 5 empty) ∷ []))))

case_15 : shown (checked [] program_15) ≡ Fault 3 3
case_15 = refl

-- program z; type p = ^r; c = (r, g); begin end.
abbrev program_16 : BlockJudge
program_16 =
    (block None [] ((type_at 2 (codes "p") (pointer (codes "r"))) ∷ (type_at 3 (codes "c") (enumeration ((codes
    "r") ∷ (codes "g") ∷ []))) ∷ []) [] [] (at_name 4 (compound ((at_name 5 empty) ∷ []))))

case_16 : shown (checked [] program_16) ≡ Fault 2 3
case_16 = refl

-- program z; const a = 1; var r: record a: integer end; i: integer; begin with r do case i of a: end end.
abbrev program_17 : BlockJudge
program_17 =
    (block None ((constant_at 2 (codes "a") (constant.Number prefix.Without 1)) ∷ []) [] ((variables_at 3 ((codes
    "r") ∷ []) (record_type false ((((codes "a") ∷ []), (named_type (codes "integer"))) ∷ []))) ∷ (variables_at 4
    ((codes "i") ∷ []) (named_type (codes "integer"))) ∷ []) [] (at_name 5 (compound ((at_name 6 (with_do
    ((access (codes "r") []) ∷ []) (at_name 7 (case_of (value (access (codes "i") [])) ((
      ((constant.Named
          prefix.Without (codes "a")) ∷ []),
      (at_name 8 empty),
    ) ∷ []))))) ∷ []))))

case_17 : shown (checked [] program_17) ≡ Fault 7 3
case_17 = refl
