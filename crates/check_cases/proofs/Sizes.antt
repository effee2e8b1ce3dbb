-- Types that are too large.
use Rattle.std.specs.Prelude.{◌≡◌, ℕ, true, false, List, [], ◌∷◌, Option, Some, None, codes}
use Rattle.std.proofs.Common.{refl}
use Rattle.pascal_tree.specs.declared.expr.Prefix.TheVariants as prefix
use Rattle.pascal_tree.specs.declared.stmt.Constant.TheVariants as constant
use Rattle.check_decl.specs.BlockRules.{BlockJudge}
use Rattle.check_cases.specs.Forms.{named_type, range, array, set, record_type, at_name, empty, compound, type_at, variables_at, block, checked, Fault, shown}

-- program z; type t = array [integer] of char; begin end.
abbrev program_1 : BlockJudge
program_1 =
    (block None [] ((type_at 2 (codes "t") (array false ((named_type (codes "integer")) ∷ []) (named_type (codes
    "char")))) ∷ []) [] [] (at_name 3 (compound ((at_name 4 empty) ∷ []))))

case_1 : shown (checked [] program_1) ≡ Fault 2 9
case_1 = refl

-- program z; type t = array [1..4097] of integer; begin end.
abbrev program_2 : BlockJudge
program_2 =
    (block None [] ((type_at 2 (codes "t") (array false ((range (constant.Number prefix.Without 1) (constant.Number
    prefix.Without 4097)) ∷ []) (named_type (codes "integer")))) ∷ []) [] [] (at_name 3 (compound ((at_name 4
    empty) ∷ []))))

case_2 : shown (checked [] program_2) ≡ Fault 2 9
case_2 = refl

-- program z; type t = array [1..64, 1..65] of integer; begin end.
abbrev program_3 : BlockJudge
program_3 =
    (block None [] ((type_at 2 (codes "t") (array false ((range (constant.Number prefix.Without 1) (constant.Number
    prefix.Without 64)) ∷ (range (constant.Number prefix.Without 1) (constant.Number prefix.Without 65)) ∷ [])
    (named_type (codes "integer")))) ∷ []) [] [] (at_name 3 (compound ((at_name 4 empty) ∷ []))))

case_3 : shown (checked [] program_3) ≡ Fault 2 9
case_3 = refl

-- program z; type t = array [1..513] of set of char; begin end.
abbrev program_4 : BlockJudge
program_4 =
    (block None [] ((type_at 2 (codes "t") (array false ((range (constant.Number prefix.Without 1) (constant.Number
    prefix.Without 513)) ∷ []) (set false (named_type (codes "char"))))) ∷ []) [] [] (at_name 3 (compound
    ((at_name 4 empty) ∷ []))))

case_4 : shown (checked [] program_4) ≡ Fault 2 9
case_4 = refl

-- program z; type t = array [1..64, 1..65] of integer; begin end.
abbrev program_5 : BlockJudge
program_5 =
    (block None [] ((type_at 2 (codes "t") (array false ((range (constant.Number prefix.Without 1) (constant.Number
    prefix.Without 64)) ∷ (range (constant.Number prefix.Without 1) (constant.Number prefix.Without 65)) ∷ [])
    (named_type (codes "integer")))) ∷ []) [] [] (at_name 3 (compound ((at_name 4 empty) ∷ []))))

case_5 : shown (checked [] program_5) ≡ Fault 2 9
case_5 = refl

-- program z; type t0 = integer; t1 = record a, b: t0 end; t2 = record a, b: t1 end; t3 = record a, b: t2 end; t4 =
-- record a, b: t3 end; t5 = record a, b: t4 end; t6 = record a, b: t5 end; t7 = record a, b: t6 end; t8 = record a,
-- b: t7 end; t9 = record a, b: t8 end; t10 = record a, b: t9 end; t11 = record a, b: t10 end; t12 = record a, b: t11
-- end; t13 = record a, b: t12 end; var x: t12; begin end.
abbrev program_6 : BlockJudge
program_6 =
    (block None [] ((type_at 2 (codes "t0") (named_type (codes "integer"))) ∷ (type_at 3 (codes "t1") (record_type
    false ((((codes "a") ∷ (codes "b") ∷ []), (named_type (codes "t0"))) ∷ []))) ∷ (type_at 4 (codes "t2")
    (record_type false ((((codes "a") ∷ (codes "b") ∷ []), (named_type (codes "t1"))) ∷ []))) ∷ (type_at 5 (codes
    "t3") (record_type false ((((codes "a") ∷ (codes "b") ∷ []), (named_type (codes "t2"))) ∷ []))) ∷ (type_at 6
    (codes "t4") (record_type false ((((codes "a") ∷ (codes "b") ∷ []), (named_type (codes "t3"))) ∷ []))) ∷
    (type_at 7 (codes "t5") (record_type false ((((codes "a") ∷ (codes "b") ∷ []), (named_type (codes "t4"))) ∷
    []))) ∷ (type_at 8 (codes "t6") (record_type false ((
      ((codes "a") ∷ (codes "b") ∷ []),
      (named_type (codes
          "t5")),
    ) ∷ []))) ∷ (type_at 9 (codes "t7") (record_type false ((
      ((codes "a") ∷ (codes "b") ∷ []),
      (named_type
          (codes "t6")),
    ) ∷ []))) ∷ (type_at 10 (codes "t8") (record_type false ((
      ((codes "a") ∷ (codes "b") ∷ []),
      (named_type (codes "t7")),
    ) ∷ []))) ∷ (type_at 11 (codes "t9") (record_type false ((
      ((codes "a") ∷ (codes "b")
          ∷ []),
      (named_type (codes "t8")),
    ) ∷ []))) ∷ (type_at 12 (codes "t10") (record_type false ((
      ((codes "a") ∷
          (codes "b") ∷ []),
      (named_type (codes "t9")),
    ) ∷ []))) ∷ (type_at 13 (codes "t11") (record_type false
    ((((codes "a") ∷ (codes "b") ∷ []), (named_type (codes "t10"))) ∷ []))) ∷ (type_at 14 (codes "t12")
    (record_type false ((((codes "a") ∷ (codes "b") ∷ []), (named_type (codes "t11"))) ∷ []))) ∷ (type_at 15
    (codes "t13") (record_type false ((((codes "a") ∷ (codes "b") ∷ []), (named_type (codes "t12"))) ∷ []))) ∷
    []) ((variables_at 16 ((codes "x") ∷ []) (named_type (codes "t12"))) ∷ []) [] (at_name 17 (compound ((at_name
    18 empty) ∷ []))))

case_6 : shown (checked [] program_6) ≡ Fault 15 9
case_6 = refl
