-- Programs without a fault, with their layouts and sizes.
use Rattle.std.specs.Prelude.{◌≡◌, true, false, [], ◌∷◌, Some, None, codes}
use Rattle.std.proofs.Common.{refl}
use Rattle.pascal_tree.specs.declared.expr.Prefix.TheVariants as prefix
use Rattle.pascal_tree.specs.declared.expr.RelOp.TheVariants as rel
use Rattle.pascal_tree.specs.declared.expr.AddOp.TheVariants as add
use Rattle.pascal_tree.specs.declared.expr.MulOp.TheVariants as mul
use Rattle.pascal_tree.specs.declared.stmt.Constant.TheVariants as constant
use Rattle.check_decl.specs.BlockRules.{BlockJudge}
use Rattle.check_cases.specs.Forms.{name_of, number, chars, nil_value, access, index, field, arrow, value, argument, function_call, set_of_values, term, sum, relation, named_type, range, pointer, array, set, record_type, at_name, at_label, empty, assign, call, goto, compound, if_then, case_of, while_do, repeat_until, for_do, with_do, constant_at, type_at, variables_at, block, section, procedure, function, routine_at, checked, Layouts, shown, sizes}

-- program a; var i, s: integer; begin i := 0; s := 0; while i < 5 do begin s := s + i; i := i + 1 end; writeln(s:1)
-- end.
abbrev program_1 : BlockJudge
program_1 =
    (block None [] [] ((variables_at 2 ((codes "i") ∷ (codes "s") ∷ []) (named_type (codes "integer"))) ∷ []) []
    (at_name 3 (compound ((at_name 4 (assign (access (codes "i") []) (number 0))) ∷ (at_name 5 (assign (access
    (codes "s") []) (number 0))) ∷ (at_name 6 (while_do (relation (value (access (codes "i") [])) rel.Less
    (number 5)) (at_name 7 (compound ((at_name 8 (assign (access (codes "s") []) (sum prefix.Without (value
    (access (codes "s") [])) ((add.Plus, (value (access (codes "i") []))) ∷ [])))) ∷ (at_name 9 (assign (access
    (codes "i") []) (sum prefix.Without (value (access (codes "i") [])) ((add.Plus, (number 1)) ∷ [])))) ∷
    []))))) ∷ (at_name 10 (call (codes "writeln") ((argument (value (access (codes "s") [])) (Some (number 1))) ∷
    []))) ∷ []))))

case_1 : shown (checked [] program_1) ≡ Layouts ((1, 2, (0 ∷ 1 ∷ [])) ∷ [])
case_1 = refl

sizes_1 : sizes (checked [] program_1) ≡ None
sizes_1 = refl

-- program f; var r, c: integer; function fact(n: integer): integer; begin if n < 2 then fact := 1 else fact := n *
-- fact(n - 1); c := c + 1 end; begin r := fact(4); writeln(r:1, c:3) end.
abbrev program_2 : BlockJudge
program_2 =
    (block None [] [] ((variables_at 2 ((codes "r") ∷ (codes "c") ∷ []) (named_type (codes "integer"))) ∷ [])
    ((routine_at 3 (function (codes "fact") ((section false ((codes "n") ∷ []) (codes "integer")) ∷ []) (Some
    (codes "integer"))) (Some (block None [] [] [] [] (at_name 4 (compound ((at_name 5 (if_then (relation (value
    (access (codes "n") [])) rel.Less (number 2)) (at_name 6 (assign (access (codes "fact") []) (number 1)))
    (Some (at_name 7 (assign (access (codes "fact") []) (term (value (access (codes "n") [])) ((
      mul.Times,
      (function_call (codes "fact") ((argument (sum prefix.Without (value (access (codes "n") [])) ((
        add.Minus,
        (number 1),
      ) ∷ [])) None) ∷ [])),
    ) ∷ []))))))) ∷ (at_name 8 (assign (access (codes "c") []) (sum prefix.Without
    (value (access (codes "c") [])) ((add.Plus, (number 1)) ∷ [])))) ∷ [])))))) ∷ []) (at_name 9 (compound
    ((at_name 10 (assign (access (codes "r") []) (function_call (codes "fact") ((argument (number 4) None) ∷
    [])))) ∷ (at_name 11 (call (codes "writeln") ((argument (value (access (codes "r") [])) (Some (number 1))) ∷
    (argument (value (access (codes "c") [])) (Some (number 3))) ∷ []))) ∷ []))))

case_2 : shown (checked [] program_2) ≡ Layouts ((1, 2, (0 ∷ 1 ∷ [])) ∷ (3, 2, (0 ∷ 1 ∷ [])) ∷ [])
case_2 = refl

sizes_2 : sizes (checked [] program_2) ≡ None
sizes_2 = refl

-- program h; const k = 1; var x: integer; procedure p; const k = 2; begin x := x + k end; begin x := k; p;
-- writeln(x:1) end.
abbrev program_3 : BlockJudge
program_3 =
    (block None ((constant_at 2 (codes "k") (constant.Number prefix.Without 1)) ∷ []) [] ((variables_at 3 ((codes
    "x") ∷ []) (named_type (codes "integer"))) ∷ []) ((routine_at 4 (procedure (codes "p") []) (Some (block None
    ((constant_at 5 (codes "k") (constant.Number prefix.Without 2)) ∷ []) [] [] [] (at_name 6 (compound ((at_name
    7 (assign (access (codes "x") []) (sum prefix.Without (value (access (codes "x") [])) ((
      add.Plus,
      (value
          (access (codes "k") [])),
    ) ∷ [])))) ∷ [])))))) ∷ []) (at_name 8 (compound ((at_name 9 (assign (access (codes
    "x") []) (value (access (codes "k") [])))) ∷ (at_name 10 (call (codes "p") [])) ∷ (at_name 11 (call (codes
    "writeln") ((argument (value (access (codes "x") [])) (Some (number 1))) ∷ []))) ∷ []))))

case_3 : shown (checked [] program_3) ≡ Layouts ((1, 1, (0 ∷ [])) ∷ (4, 0, []) ∷ [])
case_3 = refl

sizes_3 : sizes (checked [] program_3) ≡ None
sizes_3 = refl

-- program l; type p = ^node; node = record v: integer; next: p end; var h, q: p; i: integer; begin h := nil; for i :=
-- 1 to 3 do begin new(q); q^.v := i * i; q^.next := h; h := q end; while h <> nil do begin write(h^.v:3); q := h; h
-- := h^.next; dispose(q) end; writeln end.
abbrev program_4 : BlockJudge
program_4 =
    (block None [] ((type_at 2 (codes "p") (pointer (codes "node"))) ∷ (type_at 3 (codes "node") (record_type false
    ((((codes "v") ∷ []), (named_type (codes "integer"))) ∷ (((codes "next") ∷ []), (named_type (codes "p"))) ∷
    []))) ∷ []) ((variables_at 4 ((codes "h") ∷ (codes "q") ∷ []) (named_type (codes "p"))) ∷ (variables_at 5
    ((codes "i") ∷ []) (named_type (codes "integer"))) ∷ []) [] (at_name 6 (compound ((at_name 7 (assign (access
    (codes "h") []) nil_value)) ∷ (at_name 8 (for_do (codes "i") (number 1) (number 3) (at_name 9 (compound
    ((at_name 10 (call (codes "new") ((argument (value (access (codes "q") [])) None) ∷ []))) ∷ (at_name 11
    (assign (access (codes "q") (arrow ∷ (field (codes "v")) ∷ [])) (term (value (access (codes "i") []))
    ((mul.Times, (value (access (codes "i") []))) ∷ [])))) ∷ (at_name 12 (assign (access (codes "q") (arrow ∷
    (field (codes "next")) ∷ [])) (value (access (codes "h") [])))) ∷ (at_name 13 (assign (access (codes "h") [])
    (value (access (codes "q") [])))) ∷ []))))) ∷ (at_name 14 (while_do (relation (value (access (codes "h") []))
    rel.NotEqual nil_value) (at_name 15 (compound ((at_name 16 (call (codes "write") ((argument (value (access
    (codes "h") (arrow ∷ (field (codes "v")) ∷ []))) (Some (number 3))) ∷ []))) ∷ (at_name 17 (assign (access
    (codes "q") []) (value (access (codes "h") [])))) ∷ (at_name 18 (assign (access (codes "h") []) (value
    (access (codes "h") (arrow ∷ (field (codes "next")) ∷ []))))) ∷ (at_name 19 (call (codes "dispose")
    ((argument (value (access (codes "q") [])) None) ∷ []))) ∷ []))))) ∷ (at_name 20 (call (codes "writeln") []))
    ∷ []))))

case_4 : shown (checked [] program_4) ≡ Layouts ((1, 3, (0 ∷ 1 ∷ 2 ∷ [])) ∷ [])
case_4 = refl

sizes_4 : sizes (checked [] program_4) ≡ None
sizes_4 = refl

-- program k; var i: integer; begin i := 3; case i of 1, 2: i := 0 end end.
abbrev program_5 : BlockJudge
program_5 =
    (block None [] [] ((variables_at 2 ((codes "i") ∷ []) (named_type (codes "integer"))) ∷ []) [] (at_name 3
    (compound ((at_name 4 (assign (access (codes "i") []) (number 3))) ∷ (at_name 5 (case_of (value (access
    (codes "i") [])) ((
      ((constant.Number prefix.Without 1) ∷ (constant.Number prefix.Without 2) ∷ []),
      (at_name 6
          (assign (access (codes "i") []) (number 0))),
    ) ∷ []))) ∷ []))))

case_5 : shown (checked [] program_5) ≡ Layouts ((1, 1, (0 ∷ [])) ∷ [])
case_5 = refl

sizes_5 : sizes (checked [] program_5) ≡ None
sizes_5 = refl

-- program q; procedure p(n: integer); var a: array [1..17] of integer; begin if n > 1 then p(n - 1) end; begin p(109)
-- end.
abbrev program_6 : BlockJudge
program_6 =
    (block None [] [] [] ((routine_at 2 (procedure (codes "p") ((section false ((codes "n") ∷ []) (codes
    "integer")) ∷ [])) (Some (block None [] [] ((variables_at 3 ((codes "a") ∷ []) (array false ((range
    (constant.Number prefix.Without 1) (constant.Number prefix.Without 17)) ∷ []) (named_type (codes
    "integer")))) ∷ []) [] (at_name 4 (compound ((at_name 5 (if_then (relation (value (access (codes "n") []))
    rel.Greater (number 1)) (at_name 6 (call (codes "p") ((argument (sum prefix.Without (value (access (codes
    "n") [])) ((add.Minus, (number 1)) ∷ [])) None) ∷ []))) None)) ∷ [])))))) ∷ []) (at_name 7 (compound
    ((at_name 8 (call (codes "p") ((argument (number 109) None) ∷ []))) ∷ []))))

case_6 : shown (checked [] program_6) ≡ Layouts ((1, 0, []) ∷ (2, 18, (0 ∷ 1 ∷ [])) ∷ [])
case_6 = refl

sizes_6 : sizes (checked [] program_6) ≡ None
sizes_6 = refl

-- program r; var c: char; n: integer; begin read(n, c); writeln(n + 1:4, c, eoln) end.
abbrev program_7 : BlockJudge
program_7 =
    (block None [] [] ((variables_at 2 ((codes "c") ∷ []) (named_type (codes "char"))) ∷ (variables_at 3 ((codes
    "n") ∷ []) (named_type (codes "integer"))) ∷ []) [] (at_name 4 (compound ((at_name 5 (call (codes "read")
    ((argument (value (access (codes "n") [])) None) ∷ (argument (value (access (codes "c") [])) None) ∷ []))) ∷
    (at_name 6 (call (codes "writeln") ((argument (sum prefix.Without (value (access (codes "n") [])) ((
      add.Plus,
      (number 1),
    ) ∷ [])) (Some (number 4))) ∷ (argument (value (access (codes "c") [])) None) ∷ (argument (value
    (access (codes "eoln") [])) None) ∷ []))) ∷ []))))

case_7 : shown (checked [] program_7) ≡ Layouts ((1, 2, (0 ∷ 1 ∷ [])) ∷ [])
case_7 = refl

sizes_7 : sizes (checked [] program_7) ≡ None
sizes_7 = refl

-- program z; type p = ^q; q = integer; var a: p; begin end.
abbrev program_8 : BlockJudge
program_8 =
    (block None [] ((type_at 2 (codes "p") (pointer (codes "q"))) ∷ (type_at 3 (codes "q") (named_type (codes
    "integer"))) ∷ []) ((variables_at 4 ((codes "a") ∷ []) (named_type (codes "p"))) ∷ []) [] (at_name 5
    (compound ((at_name 6 empty) ∷ []))))

case_8 : shown (checked [] program_8) ≡ Layouts ((1, 1, (0 ∷ [])) ∷ [])
case_8 = refl

sizes_8 : sizes (checked [] program_8) ≡ None
sizes_8 = refl

-- program z; type p = ^p; begin end.
abbrev program_9 : BlockJudge
program_9 =
    (block None [] ((type_at 2 (codes "p") (pointer (codes "p"))) ∷ []) [] [] (at_name 3 (compound ((at_name 4
    empty) ∷ []))))

case_9 : shown (checked [] program_9) ≡ Layouts ((1, 0, []) ∷ [])
case_9 = refl

sizes_9 : sizes (checked [] program_9) ≡ None
sizes_9 = refl

-- program z; procedure q; forward; procedure p; begin q end; procedure q; begin end; begin end.
abbrev program_10 : BlockJudge
program_10 =
    (block None [] [] [] ((routine_at 2 (procedure (codes "q") []) None) ∷ (routine_at 3 (procedure (codes "p") [])
    (Some (block None [] [] [] [] (at_name 4 (compound ((at_name 5 (call (codes "q") [])) ∷ [])))))) ∷
    (routine_at 6 (procedure (codes "q") []) (Some (block None [] [] [] [] (at_name 7 (compound ((at_name 8
    empty) ∷ [])))))) ∷ []) (at_name 9 (compound ((at_name 10 empty) ∷ []))))

case_10 : shown (checked [] program_10) ≡ Layouts ((1, 0, []) ∷ (3, 0, []) ∷ (6, 0, []) ∷ [])
case_10 = refl

sizes_10 : sizes (checked [] program_10) ≡ None
sizes_10 = refl

-- program z; type t = char; procedure p(x: t); type t = integer; begin end; begin end.
abbrev program_11 : BlockJudge
program_11 =
    (block None [] ((type_at 2 (codes "t") (named_type (codes "char"))) ∷ []) [] ((routine_at 3 (procedure (codes
    "p") ((section false ((codes "x") ∷ []) (codes "t")) ∷ [])) (Some (block None [] ((type_at 4 (codes "t")
    (named_type (codes "integer"))) ∷ []) [] [] (at_name 5 (compound ((at_name 6 empty) ∷ [])))))) ∷ []) (at_name
    7 (compound ((at_name 8 empty) ∷ []))))

case_11 : shown (checked [] program_11) ≡ Layouts ((1, 0, []) ∷ (3, 1, (0 ∷ [])) ∷ [])
case_11 = refl

sizes_11 : sizes (checked [] program_11) ≡ None
sizes_11 = refl

-- program z; function f: integer; var f: integer; begin f := 1 end; begin end.
abbrev program_12 : BlockJudge
program_12 =
    (block None [] [] [] ((routine_at 2 (function (codes "f") [] (Some (codes "integer"))) (Some (block None [] []
    ((variables_at 3 ((codes "f") ∷ []) (named_type (codes "integer"))) ∷ []) [] (at_name 4 (compound ((at_name 5
    (assign (access (codes "f") []) (number 1))) ∷ [])))))) ∷ []) (at_name 6 (compound ((at_name 7 empty) ∷
    []))))

case_12 : shown (checked [] program_12) ≡ Layouts ((1, 0, []) ∷ (2, 2, (0 ∷ 1 ∷ [])) ∷ [])
case_12 = refl

sizes_12 : sizes (checked [] program_12) ≡ None
sizes_12 = refl

-- program z; var integer: char; begin end.
abbrev program_13 : BlockJudge
program_13 =
    (block None [] [] ((variables_at 2 ((codes "integer") ∷ []) (named_type (codes "char"))) ∷ []) [] (at_name 3
    (compound ((at_name 4 empty) ∷ []))))

case_13 : shown (checked [] program_13) ≡ Layouts ((1, 1, (0 ∷ [])) ∷ [])
case_13 = refl

sizes_13 : sizes (checked [] program_13) ≡ None
sizes_13 = refl

-- program z; function f: integer; procedure g; begin f := 1 end; begin g end; begin end.
abbrev program_14 : BlockJudge
program_14 =
    (block None [] [] [] ((routine_at 2 (function (codes "f") [] (Some (codes "integer"))) (Some (block None [] []
    [] ((routine_at 3 (procedure (codes "g") []) (Some (block None [] [] [] [] (at_name 4 (compound ((at_name 5
    (assign (access (codes "f") []) (number 1))) ∷ [])))))) ∷ []) (at_name 6 (compound ((at_name 7 (call (codes
    "g") [])) ∷ [])))))) ∷ []) (at_name 8 (compound ((at_name 9 empty) ∷ []))))

case_14 : shown (checked [] program_14) ≡ Layouts ((1, 0, []) ∷ (2, 1, (0 ∷ [])) ∷ (3, 0, []) ∷ [])
case_14 = refl

sizes_14 : sizes (checked [] program_14) ≡ None
sizes_14 = refl

-- program z; var x: integer; function f: integer; begin f := 1; x := f end; begin end.
abbrev program_15 : BlockJudge
program_15 =
    (block None [] [] ((variables_at 2 ((codes "x") ∷ []) (named_type (codes "integer"))) ∷ []) ((routine_at 3
    (function (codes "f") [] (Some (codes "integer"))) (Some (block None [] [] [] [] (at_name 4 (compound
    ((at_name 5 (assign (access (codes "f") []) (number 1))) ∷ (at_name 6 (assign (access (codes "x") []) (value
    (access (codes "f") [])))) ∷ [])))))) ∷ []) (at_name 7 (compound ((at_name 8 empty) ∷ []))))

case_15 : shown (checked [] program_15) ≡ Layouts ((1, 1, (0 ∷ [])) ∷ (3, 1, (0 ∷ [])) ∷ [])
case_15 = refl

sizes_15 : sizes (checked [] program_15) ≡ None
sizes_15 = refl

-- program z; var a, b: array [1..3] of integer; begin a := b end.
abbrev program_16 : BlockJudge
program_16 =
    (block None [] [] ((variables_at 2 ((codes "a") ∷ (codes "b") ∷ []) (array false ((range (constant.Number
    prefix.Without 1) (constant.Number prefix.Without 3)) ∷ []) (named_type (codes "integer")))) ∷ []) []
    (at_name 3 (compound ((at_name 4 (assign (access (codes "a") []) (value (access (codes "b") [])))) ∷ []))))

case_16 : shown (checked [] program_16) ≡ Layouts ((1, 6, (0 ∷ 3 ∷ [])) ∷ [])
case_16 = refl

sizes_16 : sizes (checked [] program_16) ≡ None
sizes_16 = refl

-- program z; var s: packed array [1..3] of char; begin s := 'abc' end.
abbrev program_17 : BlockJudge
program_17 =
    (block None [] [] ((variables_at 2 ((codes "s") ∷ []) (array true ((range (constant.Number prefix.Without 1)
    (constant.Number prefix.Without 3)) ∷ []) (named_type (codes "char")))) ∷ []) [] (at_name 3 (compound
    ((at_name 4 (assign (access (codes "s") []) (chars (codes "abc")))) ∷ []))))

case_17 : shown (checked [] program_17) ≡ Layouts ((1, 3, (0 ∷ [])) ∷ [])
case_17 = refl

sizes_17 : sizes (checked [] program_17) ≡ None
sizes_17 = refl

-- program z; var s: packed array [1..3] of char; t: packed array [1..3] of char; begin s := t; if s < t then end.
abbrev program_18 : BlockJudge
program_18 =
    (block None [] [] ((variables_at 2 ((codes "s") ∷ []) (array true ((range (constant.Number prefix.Without 1)
    (constant.Number prefix.Without 3)) ∷ []) (named_type (codes "char")))) ∷ (variables_at 3 ((codes "t") ∷ [])
    (array true ((range (constant.Number prefix.Without 1) (constant.Number prefix.Without 3)) ∷ []) (named_type
    (codes "char")))) ∷ []) [] (at_name 4 (compound ((at_name 5 (assign (access (codes "s") []) (value (access
    (codes "t") [])))) ∷ (at_name 6 (if_then (relation (value (access (codes "s") [])) rel.Less (value (access
    (codes "t") []))) (at_name 7 empty) None)) ∷ []))))

case_18 : shown (checked [] program_18) ≡ Layouts ((1, 6, (0 ∷ 3 ∷ [])) ∷ [])
case_18 = refl

sizes_18 : sizes (checked [] program_18) ≡ None
sizes_18 = refl

-- program z; var c: char; begin c := 'a' end.
abbrev program_19 : BlockJudge
program_19 =
    (block None [] [] ((variables_at 2 ((codes "c") ∷ []) (named_type (codes "char"))) ∷ []) [] (at_name 3
    (compound ((at_name 4 (assign (access (codes "c") []) (chars (codes "a")))) ∷ []))))

case_19 : shown (checked [] program_19) ≡ Layouts ((1, 1, (0 ∷ [])) ∷ [])
case_19 = refl

sizes_19 : sizes (checked [] program_19) ≡ None
sizes_19 = refl

-- program z; var s: set of 0..9; t: packed set of 0..9; begin s := [1]; t := [1]; t := t + [2] * [3] end.
abbrev program_20 : BlockJudge
program_20 =
    (block None [] [] ((variables_at 2 ((codes "s") ∷ []) (set false (range (constant.Number prefix.Without 0)
    (constant.Number prefix.Without 9)))) ∷ (variables_at 3 ((codes "t") ∷ []) (set true (range (constant.Number
    prefix.Without 0) (constant.Number prefix.Without 9)))) ∷ []) [] (at_name 4 (compound ((at_name 5 (assign
    (access (codes "s") []) (set_of_values ((number 1) ∷ [])))) ∷ (at_name 6 (assign (access (codes "t") [])
    (set_of_values ((number 1) ∷ [])))) ∷ (at_name 7 (assign (access (codes "t") []) (sum prefix.Without (value
    (access (codes "t") [])) ((
      add.Plus,
      (term (set_of_values ((number 2) ∷ [])) ((
        mul.Times,
        (set_of_values
            ((number 3) ∷ [])),
      ) ∷ [])),
    ) ∷ [])))) ∷ []))))

case_20 : shown (checked [] program_20) ≡ Layouts ((1, 16, (0 ∷ 8 ∷ [])) ∷ [])
case_20 = refl

sizes_20 : sizes (checked [] program_20) ≡ None
sizes_20 = refl

-- program z; var s: set of 0..9; t: set of 5..20; begin s := t end.
abbrev program_21 : BlockJudge
program_21 =
    (block None [] [] ((variables_at 2 ((codes "s") ∷ []) (set false (range (constant.Number prefix.Without 0)
    (constant.Number prefix.Without 9)))) ∷ (variables_at 3 ((codes "t") ∷ []) (set false (range (constant.Number
    prefix.Without 5) (constant.Number prefix.Without 20)))) ∷ []) [] (at_name 4 (compound ((at_name 5 (assign
    (access (codes "s") []) (value (access (codes "t") [])))) ∷ []))))

case_21 : shown (checked [] program_21) ≡ Layouts ((1, 16, (0 ∷ 8 ∷ [])) ∷ [])
case_21 = refl

sizes_21 : sizes (checked [] program_21) ≡ None
sizes_21 = refl

-- program z; var s: set of 0..9; begin s := []; if [] <= s then; if 1 in [] then end.
abbrev program_22 : BlockJudge
program_22 =
    (block None [] [] ((variables_at 2 ((codes "s") ∷ []) (set false (range (constant.Number prefix.Without 0)
    (constant.Number prefix.Without 9)))) ∷ []) [] (at_name 3 (compound ((at_name 4 (assign (access (codes "s")
    []) (set_of_values []))) ∷ (at_name 5 (if_then (relation (set_of_values []) rel.LessEqual (value (access
    (codes "s") []))) (at_name 6 empty) None)) ∷ (at_name 7 (if_then (relation (number 1) rel.Member
    (set_of_values [])) (at_name 8 empty) None)) ∷ []))))

case_22 : shown (checked [] program_22) ≡ Layouts ((1, 8, (0 ∷ [])) ∷ [])
case_22 = refl

sizes_22 : sizes (checked [] program_22) ≡ None
sizes_22 = refl

-- program z; type p = ^integer; var a: p; begin a := nil; if a = nil then; if nil <> a then end.
abbrev program_23 : BlockJudge
program_23 =
    (block None [] ((type_at 2 (codes "p") (pointer (codes "integer"))) ∷ []) ((variables_at 3 ((codes "a") ∷ [])
    (named_type (codes "p"))) ∷ []) [] (at_name 4 (compound ((at_name 5 (assign (access (codes "a") [])
    nil_value)) ∷ (at_name 6 (if_then (relation (value (access (codes "a") [])) rel.Equal nil_value) (at_name 7
    empty) None)) ∷ (at_name 8 (if_then (relation nil_value rel.NotEqual (value (access (codes "a") [])))
    (at_name 9 empty) None)) ∷ []))))

case_23 : shown (checked [] program_23) ≡ Layouts ((1, 1, (0 ∷ [])) ∷ [])
case_23 = refl

sizes_23 : sizes (checked [] program_23) ≡ None
sizes_23 = refl

-- program z; begin if nil = nil then end.
abbrev program_24 : BlockJudge
program_24 =
    (block None [] [] [] [] (at_name 2 (compound ((at_name 3 (if_then (relation nil_value rel.Equal nil_value)
    (at_name 4 empty) None)) ∷ []))))

case_24 : shown (checked [] program_24) ≡ Layouts ((1, 0, []) ∷ [])
case_24 = refl

sizes_24 : sizes (checked [] program_24) ≡ None
sizes_24 = refl

-- program z; begin writeln(output); writeln(output, 1); if eof(input) then; readln(input) end.
abbrev program_25 : BlockJudge
program_25 =
    (block None [] [] [] [] (at_name 2 (compound ((at_name 3 (call (codes "writeln") ((argument (value (access
    (codes "output") [])) None) ∷ []))) ∷ (at_name 4 (call (codes "writeln") ((argument (value (access (codes
    "output") [])) None) ∷ (argument (number 1) None) ∷ []))) ∷ (at_name 5 (if_then (function_call (codes "eof")
    ((argument (value (access (codes "input") [])) None) ∷ [])) (at_name 6 empty) None)) ∷ (at_name 7 (call
    (codes "readln") ((argument (value (access (codes "input") [])) None) ∷ []))) ∷ []))))

case_25 : shown (checked [] program_25) ≡ Layouts ((1, 0, []) ∷ [])
case_25 = refl

sizes_25 : sizes (checked [] program_25) ≡ None
sizes_25 = refl

-- program z; var input: integer; begin read(input); write(input) end.
abbrev program_26 : BlockJudge
program_26 =
    (block None [] [] ((variables_at 2 ((codes "input") ∷ []) (named_type (codes "integer"))) ∷ []) [] (at_name 3
    (compound ((at_name 4 (call (codes "read") ((argument (value (access (codes "input") [])) None) ∷ []))) ∷
    (at_name 5 (call (codes "write") ((argument (value (access (codes "input") [])) None) ∷ []))) ∷ []))))

case_26 : shown (checked [] program_26) ≡ Layouts ((1, 1, (0 ∷ [])) ∷ [])
case_26 = refl

sizes_26 : sizes (checked [] program_26) ≡ None
sizes_26 = refl

-- program z; var i: 1..3; begin read(i); i := i + 1 end.
abbrev program_27 : BlockJudge
program_27 =
    (block None [] [] ((variables_at 2 ((codes "i") ∷ []) (range (constant.Number prefix.Without 1)
    (constant.Number prefix.Without 3))) ∷ []) [] (at_name 3 (compound ((at_name 4 (call (codes "read")
    ((argument (value (access (codes "i") [])) None) ∷ []))) ∷ (at_name 5 (assign (access (codes "i") []) (sum
    prefix.Without (value (access (codes "i") [])) ((add.Plus, (number 1)) ∷ [])))) ∷ []))))

case_27 : shown (checked [] program_27) ≡ Layouts ((1, 1, (0 ∷ [])) ∷ [])
case_27 = refl

sizes_27 : sizes (checked [] program_27) ≡ None
sizes_27 = refl

-- program z; type p = ^integer; function f: p; begin f := nil end; begin end.
abbrev program_28 : BlockJudge
program_28 =
    (block None [] ((type_at 2 (codes "p") (pointer (codes "integer"))) ∷ []) [] ((routine_at 3 (function (codes
    "f") [] (Some (codes "p"))) (Some (block None [] [] [] [] (at_name 4 (compound ((at_name 5 (assign (access
    (codes "f") []) nil_value)) ∷ [])))))) ∷ []) (at_name 6 (compound ((at_name 7 empty) ∷ []))))

case_28 : shown (checked [] program_28) ≡ Layouts ((1, 0, []) ∷ (3, 1, (0 ∷ [])) ∷ [])
case_28 = refl

sizes_28 : sizes (checked [] program_28) ≡ None
sizes_28 = refl

-- program z; var i: integer; begin i := 3 div 2 + 1 mod 2 * 3 end.
abbrev program_29 : BlockJudge
program_29 =
    (block None [] [] ((variables_at 2 ((codes "i") ∷ []) (named_type (codes "integer"))) ∷ []) [] (at_name 3
    (compound ((at_name 4 (assign (access (codes "i") []) (sum prefix.Without (term (number 3) ((
      mul.Div,
      (number
          2),
    ) ∷ [])) ((add.Plus, (term (number 1) ((mul.Mod, (number 2)) ∷ (mul.Times, (number 3)) ∷ []))) ∷ [])))) ∷
    []))))

case_29 : shown (checked [] program_29) ≡ Layouts ((1, 1, (0 ∷ [])) ∷ [])
case_29 = refl

sizes_29 : sizes (checked [] program_29) ≡ None
sizes_29 = refl

-- program z; var r: packed record i: array [1..2] of integer end; procedure p(var a: integer); begin end; begin
-- p(r.i[1]) end.
abbrev program_30 : BlockJudge
program_30 =
    (block None [] [] ((variables_at 2 ((codes "r") ∷ []) (record_type true ((
      ((codes "i") ∷ []),
      (array false
          ((range (constant.Number prefix.Without 1) (constant.Number prefix.Without 2)) ∷ []) (named_type (codes
          "integer"))),
    ) ∷ []))) ∷ []) ((routine_at 3 (procedure (codes "p") ((section true ((codes "a") ∷ []) (codes
    "integer")) ∷ [])) (Some (block None [] [] [] [] (at_name 4 (compound ((at_name 5 empty) ∷ [])))))) ∷ [])
    (at_name 6 (compound ((at_name 7 (call (codes "p") ((argument (value (access (codes "r") ((field (codes "i"))
    ∷ (index ((number 1) ∷ [])) ∷ []))) None) ∷ []))) ∷ []))))

case_30 : shown (checked [] program_30) ≡ Layouts ((1, 2, (0 ∷ [])) ∷ (3, 1, (0 ∷ [])) ∷ [])
case_30 = refl

sizes_30 : sizes (checked [] program_30) ≡ None
sizes_30 = refl

-- program z; begin writeln; readln end.
abbrev program_31 : BlockJudge
program_31 =
    (block None [] [] [] [] (at_name 2 (compound ((at_name 3 (call (codes "writeln") [])) ∷ (at_name 4 (call (codes
    "readln") [])) ∷ []))))

case_31 : shown (checked [] program_31) ≡ Layouts ((1, 0, []) ∷ [])
case_31 = refl

sizes_31 : sizes (checked [] program_31) ≡ None
sizes_31 = refl

-- program z; type t = set of char; begin end.
abbrev program_32 : BlockJudge
program_32 =
    (block None [] ((type_at 2 (codes "t") (set false (named_type (codes "char")))) ∷ []) [] [] (at_name 3
    (compound ((at_name 4 empty) ∷ []))))

case_32 : shown (checked [] program_32) ≡ Layouts ((1, 0, []) ∷ [])
case_32 = refl

sizes_32 : sizes (checked [] program_32) ≡ None
sizes_32 = refl

-- program z; begin
-- write('xxxxxxxxxxxxxxxxxxxxxxxxxxxxxxxxxxxxxxxxxxxxxxxxxxxxxxxxxxxxxxxxxxxxxxxxxxxxxxxxxxxxxxxxxxxxxxxxxxxxxxxxxxxxxxxxxxxxxxxxxxxxxxxxxxxxxxxxxxxxxxxxxxxxxxxxxxxxxxxxxxxxxxxxxxxxxxxxxxxxxxxxxxxxxxxxxxxxxxxxxxxxxxxxxxxxxxxxxxxxxxxxxxxxxxxxxxxxxxxxxxxxxxxxxxxxxxx')
-- end.
abbrev program_33 : BlockJudge
program_33 =
    (block None [] [] [] [] (at_name 2 (compound ((at_name 3 (call (codes "write") ((argument (chars (codes
    "xxxxxxxxxxxxxxxxxxxxxxxxxxxxxxxxxxxxxxxxxxxxxxxxxxxxxxxxxxxxxxxxxxxxxxxxxxxxxxxxxxxxxxxxxxxxxxxxxxxxxxxxxxxxxxxxxxxxxxxxxxxxxxxxxxxxxxxxxxxxxxxxxxxxxxxxxxxxxxxxxxxxxxxxxxxxxxxxxxxxxxxxxxxxxxxxxxxxxxxxxxxxxxxxxxxxxxxxxxxxxxxxxxxxxxxxxxxxxxxxxxxxxxxxxxxxxxx"))
    None) ∷ []))) ∷ []))))

case_33 : shown (checked [] program_33) ≡ Layouts ((1, 0, []) ∷ [])
case_33 = refl

sizes_33 : sizes (checked [] program_33) ≡ None
sizes_33 = refl

-- program z; label 1; begin 1: ; goto 1 end.
abbrev program_34 : BlockJudge
program_34 =
    (block (Some (name_of 2, (1 ∷ []))) [] [] [] [] (at_name 3 (compound ((at_label 4 1 empty) ∷ (at_name 5 (goto
    1)) ∷ []))))

case_34 : shown (checked [] program_34) ≡ Layouts ((1, 0, []) ∷ [])
case_34 = refl

sizes_34 : sizes (checked [] program_34) ≡ None
sizes_34 = refl

-- program z; label 1; begin 1: begin goto 1 end end.
abbrev program_35 : BlockJudge
program_35 =
    (block (Some (name_of 2, (1 ∷ []))) [] [] [] [] (at_name 3 (compound ((at_label 4 1 (compound ((at_name 5 (goto
    1)) ∷ []))) ∷ []))))

case_35 : shown (checked [] program_35) ≡ Layouts ((1, 0, []) ∷ [])
case_35 = refl

sizes_35 : sizes (checked [] program_35) ≡ None
sizes_35 = refl

-- program z; label 1; begin if true then 1: goto 1 end.
abbrev program_36 : BlockJudge
program_36 =
    (block (Some (name_of 2, (1 ∷ []))) [] [] [] [] (at_name 3 (compound ((at_name 4 (if_then (value (access (codes
    "true") [])) (at_label 5 1 (goto 1)) None)) ∷ []))))

case_36 : shown (checked [] program_36) ≡ Layouts ((1, 0, []) ∷ [])
case_36 = refl

sizes_36 : sizes (checked [] program_36) ≡ None
sizes_36 = refl

-- program z; label 1; begin repeat if true then goto 1; 1: until false end.
abbrev program_37 : BlockJudge
program_37 =
    (block (Some (name_of 2, (1 ∷ []))) [] [] [] [] (at_name 3 (compound ((at_name 4 (repeat_until ((at_name 5
    (if_then (value (access (codes "true") [])) (at_name 6 (goto 1)) None)) ∷ (at_label 7 1 empty) ∷ []) (value
    (access (codes "false") [])))) ∷ []))))

case_37 : shown (checked [] program_37) ≡ Layouts ((1, 0, []) ∷ [])
case_37 = refl

sizes_37 : sizes (checked [] program_37) ≡ None
sizes_37 = refl

-- program z; label 1; begin goto 1; goto 01; 1: end.
abbrev program_38 : BlockJudge
program_38 =
    (block (Some (name_of 2, (1 ∷ []))) [] [] [] [] (at_name 3 (compound ((at_name 4 (goto 1)) ∷ (at_name 5 (goto
    1)) ∷ (at_label 6 1 empty) ∷ []))))

case_38 : shown (checked [] program_38) ≡ Layouts ((1, 0, []) ∷ [])
case_38 = refl

sizes_38 : sizes (checked [] program_38) ≡ None
sizes_38 = refl

-- program z; var i: integer; r: record i: integer end; begin for i := 1 to 2 do with r do i := 3 end.
abbrev program_39 : BlockJudge
program_39 =
    (block None [] [] ((variables_at 2 ((codes "i") ∷ []) (named_type (codes "integer"))) ∷ (variables_at 3 ((codes
    "r") ∷ []) (record_type false ((((codes "i") ∷ []), (named_type (codes "integer"))) ∷ []))) ∷ []) [] (at_name
    4 (compound ((at_name 5 (for_do (codes "i") (number 1) (number 2) (at_name 6 (with_do ((access (codes "r")
    []) ∷ []) (at_name 7 (assign (access (codes "i") []) (number 3))))))) ∷ []))))

case_39 : shown (checked [] program_39) ≡ Layouts ((1, 2, (0 ∷ 1 ∷ [])) ∷ [])
case_39 = refl

sizes_39 : sizes (checked [] program_39) ≡ None
sizes_39 = refl

-- program z; var i: integer; procedure p; var i: integer; begin i := 1 end; begin for i := 1 to 2 do p end.
abbrev program_40 : BlockJudge
program_40 =
    (block None [] [] ((variables_at 2 ((codes "i") ∷ []) (named_type (codes "integer"))) ∷ []) ((routine_at 3
    (procedure (codes "p") []) (Some (block None [] [] ((variables_at 4 ((codes "i") ∷ []) (named_type (codes
    "integer"))) ∷ []) [] (at_name 5 (compound ((at_name 6 (assign (access (codes "i") []) (number 1))) ∷
    [])))))) ∷ []) (at_name 7 (compound ((at_name 8 (for_do (codes "i") (number 1) (number 2) (at_name 9 (call
    (codes "p") [])))) ∷ []))))

case_40 : shown (checked [] program_40) ≡ Layouts ((1, 1, (0 ∷ [])) ∷ (3, 1, (0 ∷ [])) ∷ [])
case_40 = refl

sizes_40 : sizes (checked [] program_40) ≡ None
sizes_40 = refl

-- program z; var i: integer; begin for i := 1 to 2 do ; i := 1; for i := 1 to 2 do end.
abbrev program_41 : BlockJudge
program_41 =
    (block None [] [] ((variables_at 2 ((codes "i") ∷ []) (named_type (codes "integer"))) ∷ []) [] (at_name 3
    (compound ((at_name 4 (for_do (codes "i") (number 1) (number 2) (at_name 5 empty))) ∷ (at_name 6 (assign
    (access (codes "i") []) (number 1))) ∷ (at_name 7 (for_do (codes "i") (number 1) (number 2) (at_name 8
    empty))) ∷ []))))

case_41 : shown (checked [] program_41) ≡ Layouts ((1, 1, (0 ∷ [])) ∷ [])
case_41 = refl

sizes_41 : sizes (checked [] program_41) ≡ None
sizes_41 = refl
