-- Rules of types that are broken.
use Rattle.std.specs.Prelude.{◌≡◌, ℕ, true, false, List, [], ◌∷◌, Option, Some, None, codes}
use Rattle.std.proofs.Common.{refl}
use Rattle.pascal_tree.specs.declared.expr.Prefix.TheVariants as prefix
use Rattle.pascal_tree.specs.declared.expr.RelOp.TheVariants as rel
use Rattle.pascal_tree.specs.declared.expr.AddOp.TheVariants as add
use Rattle.pascal_tree.specs.declared.expr.MulOp.TheVariants as mul
use Rattle.pascal_tree.specs.declared.stmt.Constant.TheVariants as constant
use Rattle.check_decl.specs.BlockRules.{BlockJudge}
use Rattle.check_cases.specs.Forms.{number, chars, nil_value, access, value, argument, function_call, set_of_values, term, sum, relation, named_type, range, pointer, array, set, record_type, at_name, empty, assign, call, compound, if_then, case_of, for_do, with_do, constant_at, type_at, variables_at, block, section, procedure, function, routine_at, checked, Fault, shown}

-- program z; begin read(3) end.
abbrev program_1 : BlockJudge
program_1 =
    (block None [] [] [] [] (at_name 2 (compound ((at_name 3 (call (codes "read") ((argument (number 3) None) ∷
    []))) ∷ []))))

case_1 : shown (checked [] program_1) ≡ Fault 3 4
case_1 = refl

-- program z; var b: boolean; begin b := 1 end.
abbrev program_2 : BlockJudge
program_2 =
    (block None [] [] ((variables_at 2 ((codes "b") ∷ []) (named_type (codes "boolean"))) ∷ []) [] (at_name 3
    (compound ((at_name 4 (assign (access (codes "b") []) (number 1))) ∷ []))))

case_2 : shown (checked [] program_2) ≡ Fault 4 4
case_2 = refl

-- program z; var b: boolean; begin if 1 then b := true end.
abbrev program_3 : BlockJudge
program_3 =
    (block None [] [] ((variables_at 2 ((codes "b") ∷ []) (named_type (codes "boolean"))) ∷ []) [] (at_name 3
    (compound ((at_name 4 (if_then (number 1) (at_name 5 (assign (access (codes "b") []) (value (access (codes
    "true") [])))) None)) ∷ []))))

case_3 : shown (checked [] program_3) ≡ Fault 4 4
case_3 = refl

-- program z; var a: array [1..3] of integer; b: array [1..3] of integer; begin a := b end.
abbrev program_4 : BlockJudge
program_4 =
    (block None [] [] ((variables_at 2 ((codes "a") ∷ []) (array false ((range (constant.Number prefix.Without 1)
    (constant.Number prefix.Without 3)) ∷ []) (named_type (codes "integer")))) ∷ (variables_at 3 ((codes "b") ∷
    []) (array false ((range (constant.Number prefix.Without 1) (constant.Number prefix.Without 3)) ∷ [])
    (named_type (codes "integer")))) ∷ []) [] (at_name 4 (compound ((at_name 5 (assign (access (codes "a") [])
    (value (access (codes "b") [])))) ∷ []))))

case_4 : shown (checked [] program_4) ≡ Fault 5 4
case_4 = refl

-- program z; var s: array [1..3] of char; begin s := 'abc' end.
abbrev program_5 : BlockJudge
program_5 =
    (block None [] [] ((variables_at 2 ((codes "s") ∷ []) (array false ((range (constant.Number prefix.Without 1)
    (constant.Number prefix.Without 3)) ∷ []) (named_type (codes "char")))) ∷ []) [] (at_name 3 (compound
    ((at_name 4 (assign (access (codes "s") []) (chars (codes "abc")))) ∷ []))))

case_5 : shown (checked [] program_5) ≡ Fault 4 4
case_5 = refl

-- program z; var s: packed array [1..3] of char; begin s := 'abcd' end.
abbrev program_6 : BlockJudge
program_6 =
    (block None [] [] ((variables_at 2 ((codes "s") ∷ []) (array true ((range (constant.Number prefix.Without 1)
    (constant.Number prefix.Without 3)) ∷ []) (named_type (codes "char")))) ∷ []) [] (at_name 3 (compound
    ((at_name 4 (assign (access (codes "s") []) (chars (codes "abcd")))) ∷ []))))

case_6 : shown (checked [] program_6) ≡ Fault 4 4
case_6 = refl

-- program z; var s: packed array [0..2] of char; begin s := 'abc' end.
abbrev program_7 : BlockJudge
program_7 =
    (block None [] [] ((variables_at 2 ((codes "s") ∷ []) (array true ((range (constant.Number prefix.Without 0)
    (constant.Number prefix.Without 2)) ∷ []) (named_type (codes "char")))) ∷ []) [] (at_name 3 (compound
    ((at_name 4 (assign (access (codes "s") []) (chars (codes "abc")))) ∷ []))))

case_7 : shown (checked [] program_7) ≡ Fault 4 4
case_7 = refl

-- program z; var c: char; begin c := 'ab' end.
abbrev program_8 : BlockJudge
program_8 =
    (block None [] [] ((variables_at 2 ((codes "c") ∷ []) (named_type (codes "char"))) ∷ []) [] (at_name 3
    (compound ((at_name 4 (assign (access (codes "c") []) (chars (codes "ab")))) ∷ []))))

case_8 : shown (checked [] program_8) ≡ Fault 4 4
case_8 = refl

-- program z; var s: set of 0..9; t: packed set of 0..9; begin s := t end.
abbrev program_9 : BlockJudge
program_9 =
    (block None [] [] ((variables_at 2 ((codes "s") ∷ []) (set false (range (constant.Number prefix.Without 0)
    (constant.Number prefix.Without 9)))) ∷ (variables_at 3 ((codes "t") ∷ []) (set true (range (constant.Number
    prefix.Without 0) (constant.Number prefix.Without 9)))) ∷ []) [] (at_name 4 (compound ((at_name 5 (assign
    (access (codes "s") []) (value (access (codes "t") [])))) ∷ []))))

case_9 : shown (checked [] program_9) ≡ Fault 5 4
case_9 = refl

-- program z; var s: set of 0..9; c: set of char; begin s := c end.
abbrev program_10 : BlockJudge
program_10 =
    (block None [] [] ((variables_at 2 ((codes "s") ∷ []) (set false (range (constant.Number prefix.Without 0)
    (constant.Number prefix.Without 9)))) ∷ (variables_at 3 ((codes "c") ∷ []) (set false (named_type (codes
    "char")))) ∷ []) [] (at_name 4 (compound ((at_name 5 (assign (access (codes "s") []) (value (access (codes
    "c") [])))) ∷ []))))

case_10 : shown (checked [] program_10) ≡ Fault 5 4
case_10 = refl

-- program z; var s: set of 0..9; begin s := [1, 'a'] end.
abbrev program_11 : BlockJudge
program_11 =
    (block None [] [] ((variables_at 2 ((codes "s") ∷ []) (set false (range (constant.Number prefix.Without 0)
    (constant.Number prefix.Without 9)))) ∷ []) [] (at_name 3 (compound ((at_name 4 (assign (access (codes "s")
    []) (set_of_values ((number 1) ∷ (chars (codes "a")) ∷ [])))) ∷ []))))

case_11 : shown (checked [] program_11) ≡ Fault 4 4
case_11 = refl

-- program z; var s: set of 0..9; begin if s < s then end.
abbrev program_12 : BlockJudge
program_12 =
    (block None [] [] ((variables_at 2 ((codes "s") ∷ []) (set false (range (constant.Number prefix.Without 0)
    (constant.Number prefix.Without 9)))) ∷ []) [] (at_name 3 (compound ((at_name 4 (if_then (relation (value
    (access (codes "s") [])) rel.Less (value (access (codes "s") []))) (at_name 5 empty) None)) ∷ []))))

case_12 : shown (checked [] program_12) ≡ Fault 4 4
case_12 = refl

-- program z; type p = ^integer; var a: p; b: ^integer; begin a := b end.
abbrev program_13 : BlockJudge
program_13 =
    (block None [] ((type_at 2 (codes "p") (pointer (codes "integer"))) ∷ []) ((variables_at 3 ((codes "a") ∷ [])
    (named_type (codes "p"))) ∷ (variables_at 4 ((codes "b") ∷ []) (pointer (codes "integer"))) ∷ []) [] (at_name
    5 (compound ((at_name 6 (assign (access (codes "a") []) (value (access (codes "b") [])))) ∷ []))))

case_13 : shown (checked [] program_13) ≡ Fault 6 4
case_13 = refl

-- program z; type p = ^integer; var a: p; begin if a < nil then end.
abbrev program_14 : BlockJudge
program_14 =
    (block None [] ((type_at 2 (codes "p") (pointer (codes "integer"))) ∷ []) ((variables_at 3 ((codes "a") ∷ [])
    (named_type (codes "p"))) ∷ []) [] (at_name 4 (compound ((at_name 5 (if_then (relation (value (access (codes
    "a") [])) rel.Less nil_value) (at_name 6 empty) None)) ∷ []))))

case_14 : shown (checked [] program_14) ≡ Fault 5 4
case_14 = refl

-- program z; var i: integer; begin i := input end.
abbrev program_15 : BlockJudge
program_15 =
    (block None [] [] ((variables_at 2 ((codes "i") ∷ []) (named_type (codes "integer"))) ∷ []) [] (at_name 3
    (compound ((at_name 4 (assign (access (codes "i") []) (value (access (codes "input") [])))) ∷ []))))

case_15 : shown (checked [] program_15) ≡ Fault 4 4
case_15 = refl

-- program z; begin writeln(input) end.
abbrev program_16 : BlockJudge
program_16 =
    (block None [] [] [] [] (at_name 2 (compound ((at_name 3 (call (codes "writeln") ((argument (value (access
    (codes "input") [])) None) ∷ []))) ∷ []))))

case_16 : shown (checked [] program_16) ≡ Fault 3 4
case_16 = refl

-- program z; begin write(1, output) end.
abbrev program_17 : BlockJudge
program_17 =
    (block None [] [] [] [] (at_name 2 (compound ((at_name 3 (call (codes "write") ((argument (number 1) None) ∷
    (argument (value (access (codes "output") [])) None) ∷ []))) ∷ []))))

case_17 : shown (checked [] program_17) ≡ Fault 3 4
case_17 = refl

-- program z; var r: record a: integer end; begin write(r) end.
abbrev program_18 : BlockJudge
program_18 =
    (block None [] [] ((variables_at 2 ((codes "r") ∷ []) (record_type false ((
      ((codes "a") ∷ []),
      (named_type
          (codes "integer")),
    ) ∷ []))) ∷ []) [] (at_name 3 (compound ((at_name 4 (call (codes "write") ((argument (value
    (access (codes "r") [])) None) ∷ []))) ∷ []))))

case_18 : shown (checked [] program_18) ≡ Fault 4 4
case_18 = refl

-- program z; begin write(1: true) end.
abbrev program_19 : BlockJudge
program_19 =
    (block None [] [] [] [] (at_name 2 (compound ((at_name 3 (call (codes "write") ((argument (number 1) (Some
    (value (access (codes "true") [])))) ∷ []))) ∷ []))))

case_19 : shown (checked [] program_19) ≡ Fault 3 4
case_19 = refl

-- program z; var b: boolean; begin read(b) end.
abbrev program_20 : BlockJudge
program_20 =
    (block None [] [] ((variables_at 2 ((codes "b") ∷ []) (named_type (codes "boolean"))) ∷ []) [] (at_name 3
    (compound ((at_name 4 (call (codes "read") ((argument (value (access (codes "b") [])) None) ∷ []))) ∷ []))))

case_20 : shown (checked [] program_20) ≡ Fault 4 4
case_20 = refl

-- program z; const c = 'a'; begin write(-c) end.
abbrev program_21 : BlockJudge
program_21 =
    (block None ((constant_at 2 (codes "c") (constant.Str (codes "a"))) ∷ []) [] [] [] (at_name 3 (compound
    ((at_name 4 (call (codes "write") ((argument (sum prefix.Minus (value (access (codes "c") [])) []) None) ∷
    []))) ∷ []))))

case_21 : shown (checked [] program_21) ≡ Fault 4 4
case_21 = refl

-- program z; const c = 'a'; d = -c; begin end.
abbrev program_22 : BlockJudge
program_22 =
    (block None ((constant_at 2 (codes "c") (constant.Str (codes "a"))) ∷ (constant_at 3 (codes "d")
    (constant.Named prefix.Minus (codes "c"))) ∷ []) [] [] [] (at_name 4 (compound ((at_name 5 empty) ∷ []))))

case_22 : shown (checked [] program_22) ≡ Fault 3 4
case_22 = refl

-- program z; type t = 1..true; begin end.
abbrev program_23 : BlockJudge
program_23 =
    (block None [] ((type_at 2 (codes "t") (range (constant.Number prefix.Without 1) (constant.Named prefix.Without
    (codes "true")))) ∷ []) [] [] (at_name 3 (compound ((at_name 4 empty) ∷ []))))

case_23 : shown (checked [] program_23) ≡ Fault 2 4
case_23 = refl

-- program z; function f; begin end; begin end.
abbrev program_24 : BlockJudge
program_24 =
    (block None [] [] [] ((routine_at 2 (function (codes "f") [] None) (Some (block None [] [] [] [] (at_name 3
    (compound ((at_name 4 empty) ∷ [])))))) ∷ []) (at_name 5 (compound ((at_name 6 empty) ∷ []))))

case_24 : shown (checked [] program_24) ≡ Fault 2 4
case_24 = refl

-- program z; type r = record end; function f: r; begin end; begin end.
abbrev program_25 : BlockJudge
program_25 =
    (block None [] ((type_at 2 (codes "r") (record_type false [])) ∷ []) [] ((routine_at 3 (function (codes "f") []
    (Some (codes "r"))) (Some (block None [] [] [] [] (at_name 4 (compound ((at_name 5 empty) ∷ [])))))) ∷ [])
    (at_name 6 (compound ((at_name 7 empty) ∷ []))))

case_25 : shown (checked [] program_25) ≡ Fault 3 4
case_25 = refl

-- program z; begin dispose(nil) end.
abbrev program_26 : BlockJudge
program_26 =
    (block None [] [] [] [] (at_name 2 (compound ((at_name 3 (call (codes "dispose") ((argument nil_value None) ∷
    []))) ∷ []))))

case_26 : shown (checked [] program_26) ≡ Fault 3 4
case_26 = refl

-- program z; var i: integer; begin case i of 'a': end end.
abbrev program_27 : BlockJudge
program_27 =
    (block None [] [] ((variables_at 2 ((codes "i") ∷ []) (named_type (codes "integer"))) ∷ []) [] (at_name 3
    (compound ((at_name 4 (case_of (value (access (codes "i") [])) ((
      ((constant.Str (codes "a")) ∷ []),
      (at_name
          5 empty),
    ) ∷ []))) ∷ []))))

case_27 : shown (checked [] program_27) ≡ Fault 4 4
case_27 = refl

-- program z; var i: integer; c: char; begin for i := 1 to c do end.
abbrev program_28 : BlockJudge
program_28 =
    (block None [] [] ((variables_at 2 ((codes "i") ∷ []) (named_type (codes "integer"))) ∷ (variables_at 3 ((codes
    "c") ∷ []) (named_type (codes "char"))) ∷ []) [] (at_name 4 (compound ((at_name 5 (for_do (codes "i") (number
    1) (value (access (codes "c") [])) (at_name 6 empty))) ∷ []))))

case_28 : shown (checked [] program_28) ≡ Fault 5 4
case_28 = refl

-- program z; var i: integer; begin i := -true end.
abbrev program_29 : BlockJudge
program_29 =
    (block None [] [] ((variables_at 2 ((codes "i") ∷ []) (named_type (codes "integer"))) ∷ []) [] (at_name 3
    (compound ((at_name 4 (assign (access (codes "i") []) (sum prefix.Minus (value (access (codes "true") []))
    []))) ∷ []))))

case_29 : shown (checked [] program_29) ≡ Fault 4 4
case_29 = refl

-- program z; var i: integer; begin i := odd(3) end.
abbrev program_30 : BlockJudge
program_30 =
    (block None [] [] ((variables_at 2 ((codes "i") ∷ []) (named_type (codes "integer"))) ∷ []) [] (at_name 3
    (compound ((at_name 4 (assign (access (codes "i") []) (function_call (codes "odd") ((argument (number 3)
    None) ∷ [])))) ∷ []))))

case_30 : shown (checked [] program_30) ≡ Fault 4 4
case_30 = refl

-- program z; procedure p(a: integer); begin end; begin p(true, 2) end.
abbrev program_31 : BlockJudge
program_31 =
    (block None [] [] [] ((routine_at 2 (procedure (codes "p") ((section false ((codes "a") ∷ []) (codes
    "integer")) ∷ [])) (Some (block None [] [] [] [] (at_name 3 (compound ((at_name 4 empty) ∷ [])))))) ∷ [])
    (at_name 5 (compound ((at_name 6 (call (codes "p") ((argument (value (access (codes "true") [])) None) ∷
    (argument (number 2) None) ∷ []))) ∷ []))))

case_31 : shown (checked [] program_31) ≡ Fault 6 4
case_31 = refl

-- program z; begin if eof(input, input) then end.
abbrev program_32 : BlockJudge
program_32 =
    (block None [] [] [] [] (at_name 2 (compound ((at_name 3 (if_then (function_call (codes "eof") ((argument
    (value (access (codes "input") [])) None) ∷ (argument (value (access (codes "input") [])) None) ∷ []))
    (at_name 4 empty) None)) ∷ []))))

case_32 : shown (checked [] program_32) ≡ Fault 3 4
case_32 = refl

-- program z; var s: set of 0..9; t: packed set of 0..9; begin s := [1]; t := t + [2] * [3]; s := t end.
abbrev program_33 : BlockJudge
program_33 =
    (block None [] [] ((variables_at 2 ((codes "s") ∷ []) (set false (range (constant.Number prefix.Without 0)
    (constant.Number prefix.Without 9)))) ∷ (variables_at 3 ((codes "t") ∷ []) (set true (range (constant.Number
    prefix.Without 0) (constant.Number prefix.Without 9)))) ∷ []) [] (at_name 4 (compound ((at_name 5 (assign
    (access (codes "s") []) (set_of_values ((number 1) ∷ [])))) ∷ (at_name 6 (assign (access (codes "t") []) (sum
    prefix.Without (value (access (codes "t") [])) ((
      add.Plus,
      (term (set_of_values ((number 2) ∷ []))
          ((mul.Times, (set_of_values ((number 3) ∷ []))) ∷ [])),
    ) ∷ [])))) ∷ (at_name 7 (assign (access (codes "s") [])
    (value (access (codes "t") [])))) ∷ []))))

case_33 : shown (checked [] program_33) ≡ Fault 7 4
case_33 = refl

-- program z; begin for input := 3 downto 9 do end.
abbrev program_34 : BlockJudge
program_34 =
    (block None [] [] [] [] (at_name 2 (compound ((at_name 3 (for_do (codes "input") (number 3) (number 9) (at_name
    4 empty))) ∷ []))))

case_34 : shown (checked [] program_34) ≡ Fault 3 4
case_34 = refl

-- program z; type p = record q: record a: integer end; a: char end; var r: p; i: integer; begin with r do i := a end.
abbrev program_35 : BlockJudge
program_35 =
    (block None [] ((type_at 2 (codes "p") (record_type false ((
      ((codes "q") ∷ []),
      (record_type false ((
        ((codes
            "a") ∷ []),
        (named_type (codes "integer")),
      ) ∷ [])),
    ) ∷ (((codes "a") ∷ []), (named_type (codes "char"))) ∷
    []))) ∷ []) ((variables_at 3 ((codes "r") ∷ []) (named_type (codes "p"))) ∷ (variables_at 4 ((codes "i") ∷
    []) (named_type (codes "integer"))) ∷ []) [] (at_name 5 (compound ((at_name 6 (with_do ((access (codes "r")
    []) ∷ []) (at_name 7 (assign (access (codes "i") []) (value (access (codes "a") [])))))) ∷ []))))

case_35 : shown (checked [] program_35) ≡ Fault 7 4
case_35 = refl

-- program z; var i: integer; begin with i do i := 1; j := 1 end.
abbrev program_36 : BlockJudge
program_36 =
    (block None [] [] ((variables_at 2 ((codes "i") ∷ []) (named_type (codes "integer"))) ∷ []) [] (at_name 3
    (compound ((at_name 4 (with_do ((access (codes "i") []) ∷ []) (at_name 5 (assign (access (codes "i") [])
    (number 1))))) ∷ (at_name 6 (assign (access (codes "j") []) (number 1))) ∷ []))))

case_36 : shown (checked [] program_36) ≡ Fault 4 4
case_36 = refl
