-- Constants out of range, and case constants that stand twice.
use Rattle.std.specs.Prelude.{◌≡◌, ℕ, true, false, List, [], ◌∷◌, Option, Some, None, codes}
use Rattle.std.proofs.Common.{refl}
use Rattle.pascal_tree.specs.declared.expr.Prefix.TheVariants as prefix
use Rattle.pascal_tree.specs.declared.stmt.Constant.TheVariants as constant
use Rattle.check_decl.specs.BlockRules.{BlockJudge}
use Rattle.check_cases.specs.Forms.{chars, access, value, argument, named_type, range, array, set, at_name, empty, call, compound, case_of, constant_at, type_at, variables_at, block, checked, Fault, shown}

-- program z; var i: integer; begin case i of 1, 1: end end.
abbrev program_1 : BlockJudge
program_1 =
    (block None [] [] ((variables_at 2 ((codes "i") ∷ []) (named_type (codes "integer"))) ∷ []) [] (at_name 3
    (compound ((at_name 4 (case_of (value (access (codes "i") [])) ((
      ((constant.Number prefix.Without 1) ∷
          (constant.Number prefix.Without 1) ∷ []),
      (at_name 5 empty),
    ) ∷ []))) ∷ []))))

case_1 : shown (checked [] program_1) ≡ Fault 4 6
case_1 = refl

-- program z; var i: integer; begin case i of 1: ; -1: ; 1: end end.
abbrev program_2 : BlockJudge
program_2 =
    (block None [] [] ((variables_at 2 ((codes "i") ∷ []) (named_type (codes "integer"))) ∷ []) [] (at_name 3
    (compound ((at_name 4 (case_of (value (access (codes "i") [])) ((
      ((constant.Number prefix.Without 1) ∷ []),
      (at_name 5 empty),
    ) ∷ (((constant.Number prefix.Minus 1) ∷ []), (at_name 6 empty)) ∷ (
      ((constant.Number
          prefix.Without 1) ∷ []),
      (at_name 7 empty),
    ) ∷ []))) ∷ []))))

case_2 : shown (checked [] program_2) ≡ Fault 4 6
case_2 = refl

-- program z; type t = 5..4; begin end.
abbrev program_3 : BlockJudge
program_3 =
    (block None [] ((type_at 2 (codes "t") (range (constant.Number prefix.Without 5) (constant.Number
    prefix.Without 4))) ∷ []) [] [] (at_name 3 (compound ((at_name 4 empty) ∷ []))))

case_3 : shown (checked [] program_3) ≡ Fault 2 6
case_3 = refl

-- program z; type t = set of 0..128; begin end.
abbrev program_4 : BlockJudge
program_4 =
    (block None [] ((type_at 2 (codes "t") (set false (range (constant.Number prefix.Without 0) (constant.Number
    prefix.Without 128)))) ∷ []) [] [] (at_name 3 (compound ((at_name 4 empty) ∷ []))))

case_4 : shown (checked [] program_4) ≡ Fault 2 6
case_4 = refl

-- program z; type t = set of integer; begin end.
abbrev program_5 : BlockJudge
program_5 =
    (block None [] ((type_at 2 (codes "t") (set false (named_type (codes "integer")))) ∷ []) [] [] (at_name 3
    (compound ((at_name 4 empty) ∷ []))))

case_5 : shown (checked [] program_5) ≡ Fault 2 6
case_5 = refl

-- program z; type t = set of -1..5; begin end.
abbrev program_6 : BlockJudge
program_6 =
    (block None [] ((type_at 2 (codes "t") (set false (range (constant.Number prefix.Minus 1) (constant.Number
    prefix.Without 5)))) ∷ []) [] [] (at_name 3 (compound ((at_name 4 empty) ∷ []))))

case_6 : shown (checked [] program_6) ≡ Fault 2 6
case_6 = refl

-- program z; begin
-- write('xxxxxxxxxxxxxxxxxxxxxxxxxxxxxxxxxxxxxxxxxxxxxxxxxxxxxxxxxxxxxxxxxxxxxxxxxxxxxxxxxxxxxxxxxxxxxxxxxxxxxxxxxxxxxxxxxxxxxxxxxxxxxxxxxxxxxxxxxxxxxxxxxxxxxxxxxxxxxxxxxxxxxxxxxxxxxxxxxxxxxxxxxxxxxxxxxxxxxxxxxxxxxxxxxxxxxxxxxxxxxxxxxxxxxxxxxxxxxxxxxxxxxxxxxxxxxxxx')
-- end.
abbrev program_7 : BlockJudge
program_7 =
    (block None [] [] [] [] (at_name 2 (compound ((at_name 3 (call (codes "write") ((argument (chars (codes
    "xxxxxxxxxxxxxxxxxxxxxxxxxxxxxxxxxxxxxxxxxxxxxxxxxxxxxxxxxxxxxxxxxxxxxxxxxxxxxxxxxxxxxxxxxxxxxxxxxxxxxxxxxxxxxxxxxxxxxxxxxxxxxxxxxxxxxxxxxxxxxxxxxxxxxxxxxxxxxxxxxxxxxxxxxxxxxxxxxxxxxxxxxxxxxxxxxxxxxxxxxxxxxxxxxxxxxxxxxxxxxxxxxxxxxxxxxxxxxxxxxxxxxxxxxxxxxxxx"))
    None) ∷ []))) ∷ []))))

case_7 : shown (checked [] program_7) ≡ Fault 3 6
case_7 = refl

-- program z; const k =
-- 'xxxxxxxxxxxxxxxxxxxxxxxxxxxxxxxxxxxxxxxxxxxxxxxxxxxxxxxxxxxxxxxxxxxxxxxxxxxxxxxxxxxxxxxxxxxxxxxxxxxxxxxxxxxxxxxxxxxxxxxxxxxxxxxxxxxxxxxxxxxxxxxxxxxxxxxxxxxxxxxxxxxxxxxxxxxxxxxxxxxxxxxxxxxxxxxxxxxxxxxxxxxxxxxxxxxxxxxxxxxxxxxxxxxxxxxxxxxxxxxxxxxxxxxxxxxxxxxx';
-- begin end.
abbrev program_8 : BlockJudge
program_8 =
    (block None ((constant_at 2 (codes "k") (constant.Str (codes
    "xxxxxxxxxxxxxxxxxxxxxxxxxxxxxxxxxxxxxxxxxxxxxxxxxxxxxxxxxxxxxxxxxxxxxxxxxxxxxxxxxxxxxxxxxxxxxxxxxxxxxxxxxxxxxxxxxxxxxxxxxxxxxxxxxxxxxxxxxxxxxxxxxxxxxxxxxxxxxxxxxxxxxxxxxxxxxxxxxxxxxxxxxxxxxxxxxxxxxxxxxxxxxxxxxxxxxxxxxxxxxxxxxxxxxxxxxxxxxxxxxxxxxxxxxxxxxxxx")))
    ∷ []) [] [] [] (at_name 3 (compound ((at_name 4 empty) ∷ []))))

case_8 : shown (checked [] program_8) ≡ Fault 2 6
case_8 = refl

-- program z; var s: packed array [1..256] of char; begin write(s) end.
abbrev program_9 : BlockJudge
program_9 =
    (block None [] [] ((variables_at 2 ((codes "s") ∷ []) (array true ((range (constant.Number prefix.Without 1)
    (constant.Number prefix.Without 256)) ∷ []) (named_type (codes "char")))) ∷ []) [] (at_name 3 (compound
    ((at_name 4 (call (codes "write") ((argument (value (access (codes "s") [])) None) ∷ []))) ∷ []))))

case_9 : shown (checked [] program_9) ≡ Fault 4 6
case_9 = refl

-- program z; type t = set of 0..128; begin end.
abbrev program_10 : BlockJudge
program_10 =
    (block None [] ((type_at 2 (codes "t") (set false (range (constant.Number prefix.Without 0) (constant.Number
    prefix.Without 128)))) ∷ []) [] [] (at_name 3 (compound ((at_name 4 empty) ∷ []))))

case_10 : shown (checked [] program_10) ≡ Fault 2 6
case_10 = refl

-- program z; type t = 5..4; begin end.
abbrev program_11 : BlockJudge
program_11 =
    (block None [] ((type_at 2 (codes "t") (range (constant.Number prefix.Without 5) (constant.Number
    prefix.Without 4))) ∷ []) [] [] (at_name 3 (compound ((at_name 4 empty) ∷ []))))

case_11 : shown (checked [] program_11) ≡ Fault 2 6
case_11 = refl
