-- Programs without a check fault at the limits and over them, with their layouts and sizes.
use Rattle.std.specs.Prelude.{◌≡◌, true, false, [], ◌∷◌, Some, None, codes}
use Rattle.std.proofs.Common.{refl}
use Rattle.pascal_tree.specs.declared.expr.Prefix.TheVariants as prefix
use Rattle.pascal_tree.specs.declared.expr.RelOp.TheVariants as rel
use Rattle.pascal_tree.specs.declared.expr.AddOp.TheVariants as add
use Rattle.pascal_tree.specs.declared.stmt.Constant.TheVariants as constant
use Rattle.check_decl.specs.BlockRules.{BlockJudge}
use Rattle.check_program.specs.declared.layouts.LayoutFault.TheVariants.{GlobalsFull, FrameTooLarge}
use Rattle.check_cases.specs.Forms.{name_of, number, chars, access, index, value, argument, function_call, set_of_values, sum, relation, named_type, enumeration, range, pointer, array, record_type, at_name, at_label, empty, assign, call, goto, compound, if_then, with_do, type_at, variables_at, block, section, procedure, function, routine_at, checked, Layouts, shown, sizes}

-- program z; type t = array [1..4096] of integer; begin end.
abbrev program_42 : BlockJudge
program_42 =
    (block None [] ((type_at 2 (codes "t") (array false ((range (constant.Number prefix.Without 1) (constant.Number
    prefix.Without 4096)) ∷ []) (named_type (codes "integer")))) ∷ []) [] [] (at_name 3 (compound ((at_name 4
    empty) ∷ []))))

case_42 : shown (checked [] program_42) ≡ Layouts ((1, 0, []) ∷ [])
case_42 = refl

sizes_42 : sizes (checked [] program_42) ≡ None
sizes_42 = refl

-- program z; function f(a: integer): integer; forward; function f; begin f := a end; begin write(f(1)) end.
abbrev program_43 : BlockJudge
program_43 =
    (block None [] [] [] ((routine_at 2 (function (codes "f") ((section false ((codes "a") ∷ []) (codes "integer"))
    ∷ []) (Some (codes "integer"))) None) ∷ (routine_at 3 (function (codes "f") [] None) (Some (block None [] []
    [] [] (at_name 4 (compound ((at_name 5 (assign (access (codes "f") []) (value (access (codes "a") [])))) ∷
    [])))))) ∷ []) (at_name 6 (compound ((at_name 7 (call (codes "write") ((argument (function_call (codes "f")
    ((argument (number 1) None) ∷ [])) None) ∷ []))) ∷ []))))

case_43 : shown (checked [] program_43) ≡ Layouts ((1, 0, []) ∷ (3, 2, (0 ∷ 1 ∷ [])) ∷ [])
case_43 = refl

sizes_43 : sizes (checked [] program_43) ≡ None
sizes_43 = refl

-- program z(input, output); begin end.
abbrev program_44 : BlockJudge
program_44 =
    (block None [] [] [] [] (at_name 2 (compound ((at_name 3 empty) ∷ []))))

case_44 : shown (checked ((codes "input") ∷ (codes "output") ∷ []) program_44) ≡ Layouts ((1, 0, []) ∷ [])
case_44 = refl

sizes_44 : sizes (checked ((codes "input") ∷ (codes "output") ∷ []) program_44) ≡ None
sizes_44 = refl

-- program z; var a, b: array [1..2049] of integer; begin end.
abbrev program_45 : BlockJudge
program_45 =
    (block None [] [] ((variables_at 2 ((codes "a") ∷ (codes "b") ∷ []) (array false ((range (constant.Number
    prefix.Without 1) (constant.Number prefix.Without 2049)) ∷ []) (named_type (codes "integer")))) ∷ []) []
    (at_name 3 (compound ((at_name 4 empty) ∷ []))))

case_45 : shown (checked [] program_45) ≡ Layouts ((1, 4098, (0 ∷ 2049 ∷ [])) ∷ [])
case_45 = refl

sizes_45 : sizes (checked [] program_45) ≡ Some (GlobalsFull 4098)
sizes_45 = refl

-- program z; type t = array [1..2004] of integer; procedure p; var a: t; begin end; begin end.
abbrev program_46 : BlockJudge
program_46 =
    (block None [] ((type_at 2 (codes "t") (array false ((range (constant.Number prefix.Without 1) (constant.Number
    prefix.Without 2004)) ∷ []) (named_type (codes "integer")))) ∷ []) [] ((routine_at 3 (procedure (codes "p")
    []) (Some (block None [] [] ((variables_at 4 ((codes "a") ∷ []) (named_type (codes "t"))) ∷ []) [] (at_name 5
    (compound ((at_name 6 empty) ∷ [])))))) ∷ []) (at_name 7 (compound ((at_name 8 empty) ∷ []))))

case_46 : shown (checked [] program_46) ≡ Layouts ((1, 0, []) ∷ (3, 2004, (0 ∷ [])) ∷ [])
case_46 = refl

sizes_46 : sizes (checked [] program_46) ≡ Some (FrameTooLarge (name_of 3) 2049)
sizes_46 = refl

-- program z; type t = array [1..2003] of integer; procedure p; var a: t; begin end; begin end.
abbrev program_47 : BlockJudge
program_47 =
    (block None [] ((type_at 2 (codes "t") (array false ((range (constant.Number prefix.Without 1) (constant.Number
    prefix.Without 2003)) ∷ []) (named_type (codes "integer")))) ∷ []) [] ((routine_at 3 (procedure (codes "p")
    []) (Some (block None [] [] ((variables_at 4 ((codes "a") ∷ []) (named_type (codes "t"))) ∷ []) [] (at_name 5
    (compound ((at_name 6 empty) ∷ [])))))) ∷ []) (at_name 7 (compound ((at_name 8 empty) ∷ []))))

case_47 : shown (checked [] program_47) ≡ Layouts ((1, 0, []) ∷ (3, 2003, (0 ∷ [])) ∷ [])
case_47 = refl

sizes_47 : sizes (checked [] program_47) ≡ None
sizes_47 = refl

-- program z; var i: integer; begin i := 1+1+1+1+1+1+1+1+1+1+1+1+1+1+1+1+1+1+1+1+1+1+1+1+1+1+1+1+1+1 end.
abbrev program_48 : BlockJudge
program_48 =
    (block None [] [] ((variables_at 2 ((codes "i") ∷ []) (named_type (codes "integer"))) ∷ []) [] (at_name 3
    (compound ((at_name 4 (assign (access (codes "i") []) (sum prefix.Without (number 1) ((add.Plus, (number 1))
    ∷ (add.Plus, (number 1)) ∷ (add.Plus, (number 1)) ∷ (add.Plus, (number 1)) ∷ (add.Plus, (number 1)) ∷
    (add.Plus, (number 1)) ∷ (add.Plus, (number 1)) ∷ (add.Plus, (number 1)) ∷ (add.Plus, (number 1)) ∷
    (add.Plus, (number 1)) ∷ (add.Plus, (number 1)) ∷ (add.Plus, (number 1)) ∷ (add.Plus, (number 1)) ∷
    (add.Plus, (number 1)) ∷ (add.Plus, (number 1)) ∷ (add.Plus, (number 1)) ∷ (add.Plus, (number 1)) ∷
    (add.Plus, (number 1)) ∷ (add.Plus, (number 1)) ∷ (add.Plus, (number 1)) ∷ (add.Plus, (number 1)) ∷
    (add.Plus, (number 1)) ∷ (add.Plus, (number 1)) ∷ (add.Plus, (number 1)) ∷ (add.Plus, (number 1)) ∷
    (add.Plus, (number 1)) ∷ (add.Plus, (number 1)) ∷ (add.Plus, (number 1)) ∷ (add.Plus, (number 1)) ∷ [])))) ∷
    []))))

case_48 : shown (checked [] program_48) ≡ Layouts ((1, 1, (0 ∷ [])) ∷ [])
case_48 = refl

sizes_48 : sizes (checked [] program_48) ≡ None
sizes_48 = refl

-- program z; var r: record a: integer end; begin with r do with r do with r do with r do with r do with r do with r
-- do with r do end.
abbrev program_49 : BlockJudge
program_49 =
    (block None [] [] ((variables_at 2 ((codes "r") ∷ []) (record_type false ((
      ((codes "a") ∷ []),
      (named_type
          (codes "integer")),
    ) ∷ []))) ∷ []) [] (at_name 3 (compound ((at_name 4 (with_do ((access (codes "r") []) ∷ [])
    (at_name 5 (with_do ((access (codes "r") []) ∷ []) (at_name 6 (with_do ((access (codes "r") []) ∷ [])
    (at_name 7 (with_do ((access (codes "r") []) ∷ []) (at_name 8 (with_do ((access (codes "r") []) ∷ [])
    (at_name 9 (with_do ((access (codes "r") []) ∷ []) (at_name 10 (with_do ((access (codes "r") []) ∷ [])
    (at_name 11 (with_do ((access (codes "r") []) ∷ []) (at_name 12 empty))))))))))))))))) ∷ []))))

case_49 : shown (checked [] program_49) ≡ Layouts ((1, 1, (0 ∷ [])) ∷ [])
case_49 = refl

sizes_49 : sizes (checked [] program_49) ≡ None
sizes_49 = refl

-- program z; var r: record a: integer end; begin with r do with r do with r do with r do with r do with r do with r
-- do with r do with r do end.
abbrev program_50 : BlockJudge
program_50 =
    (block None [] [] ((variables_at 2 ((codes "r") ∷ []) (record_type false ((
      ((codes "a") ∷ []),
      (named_type
          (codes "integer")),
    ) ∷ []))) ∷ []) [] (at_name 3 (compound ((at_name 4 (with_do ((access (codes "r") []) ∷ [])
    (at_name 5 (with_do ((access (codes "r") []) ∷ []) (at_name 6 (with_do ((access (codes "r") []) ∷ [])
    (at_name 7 (with_do ((access (codes "r") []) ∷ []) (at_name 8 (with_do ((access (codes "r") []) ∷ [])
    (at_name 9 (with_do ((access (codes "r") []) ∷ []) (at_name 10 (with_do ((access (codes "r") []) ∷ [])
    (at_name 11 (with_do ((access (codes "r") []) ∷ []) (at_name 12 (with_do ((access (codes "r") []) ∷ [])
    (at_name 13 empty))))))))))))))))))) ∷ []))))

case_50 : shown (checked [] program_50) ≡ Layouts ((1, 1, (0 ∷ [])) ∷ [])
case_50 = refl

sizes_50 : sizes (checked [] program_50) ≡ None
sizes_50 = refl

-- program z; var r: record a: integer end; begin with r, r, r, r, r, r, r, r, r do end.
abbrev program_51 : BlockJudge
program_51 =
    (block None [] [] ((variables_at 2 ((codes "r") ∷ []) (record_type false ((
      ((codes "a") ∷ []),
      (named_type
          (codes "integer")),
    ) ∷ []))) ∷ []) [] (at_name 3 (compound ((at_name 4 (with_do ((access (codes "r") []) ∷
    (access (codes "r") []) ∷ (access (codes "r") []) ∷ (access (codes "r") []) ∷ (access (codes "r") []) ∷
    (access (codes "r") []) ∷ (access (codes "r") []) ∷ (access (codes "r") []) ∷ (access (codes "r") []) ∷ [])
    (at_name 5 empty))) ∷ []))))

case_51 : shown (checked [] program_51) ≡ Layouts ((1, 1, (0 ∷ [])) ∷ [])
case_51 = refl

sizes_51 : sizes (checked [] program_51) ≡ None
sizes_51 = refl

-- program z; var a: array [1..4] of integer; i: integer; begin i := a[1 + a[1 + a[1 + a[1 + a[1 + a[1 + a[1 + a[1 +
-- a[1 + a[1 + a[1 + a[1 + a[1 + a[1 + a[1 + 1]]]]]]]]]]]]]]] end.
abbrev program_52 : BlockJudge
program_52 =
    (block None [] [] ((variables_at 2 ((codes "a") ∷ []) (array false ((range (constant.Number prefix.Without 1)
    (constant.Number prefix.Without 4)) ∷ []) (named_type (codes "integer")))) ∷ (variables_at 3 ((codes "i") ∷
    []) (named_type (codes "integer"))) ∷ []) [] (at_name 4 (compound ((at_name 5 (assign (access (codes "i") [])
    (value (access (codes "a") ((index ((sum prefix.Without (number 1) ((
      add.Plus,
      (value (access (codes "a")
          ((index ((sum prefix.Without (number 1) ((
            add.Plus,
            (value (access (codes "a") ((index ((sum prefix.Without
                (number 1) ((
                  add.Plus,
                  (value (access (codes "a") ((index ((sum prefix.Without (number 1) ((
                    add.Plus,
                    (value
                        (access (codes "a") ((index ((sum prefix.Without (number 1) ((
                          add.Plus,
                          (value (access (codes "a") ((index
                              ((sum prefix.Without (number 1) ((
                                add.Plus,
                                (value (access (codes "a") ((index ((sum prefix.Without (number
                                    1) ((
                                      add.Plus,
                                      (value (access (codes "a") ((index ((sum prefix.Without (number 1) ((
                                        add.Plus,
                                        (value (access
                                            (codes "a") ((index ((sum prefix.Without (number 1) ((
                                              add.Plus,
                                              (value (access (codes "a") ((index ((sum
                                                  prefix.Without (number 1) ((
                                                    add.Plus,
                                                    (value (access (codes "a") ((index ((sum prefix.Without (number 1)
                                                        ((
                                                          add.Plus,
                                                          (value (access (codes "a") ((index ((sum prefix.Without (number 1) ((
                                                            add.Plus,
                                                            (value (access
                                                                (codes "a") ((index ((sum prefix.Without (number 1) ((
                                                                  add.Plus,
                                                                  (value (access (codes "a") ((index ((sum
                                                                      prefix.Without (number 1) ((
                                                                        add.Plus,
                                                                        (value (access (codes "a") ((index ((sum prefix.Without (number 1)
                                                                            ((add.Plus, (number 1)) ∷ [])) ∷ [])) ∷ []))),
                                                                      ) ∷ [])) ∷ [])) ∷ []))),
                                                                ) ∷ [])) ∷ [])) ∷ []))),
                                                          ) ∷ [])) ∷ [])) ∷
                                                              []))),
                                                        ) ∷ [])) ∷ [])) ∷ []))),
                                                  ) ∷ [])) ∷ [])) ∷ []))),
                                            ) ∷ [])) ∷ [])) ∷ []))),
                                      ) ∷ [])) ∷ [])) ∷ []))),
                                    ) ∷ [])) ∷
                                    [])) ∷ []))),
                              ) ∷ [])) ∷ [])) ∷ []))),
                        ) ∷ [])) ∷ [])) ∷ []))),
                  ) ∷ [])) ∷ [])) ∷ []))),
                ) ∷ [])) ∷ [])) ∷ []))),
          ) ∷
          [])) ∷ [])) ∷ []))),
    ) ∷ [])) ∷ [])) ∷ []))))) ∷ []))))

case_52 : shown (checked [] program_52) ≡ Layouts ((1, 5, (0 ∷ 4 ∷ [])) ∷ [])
case_52 = refl

sizes_52 : sizes (checked [] program_52) ≡ None
sizes_52 = refl

-- program z; type p = ^p; r = ^q; q = integer; begin end.
abbrev program_53 : BlockJudge
program_53 =
    (block None [] ((type_at 2 (codes "p") (pointer (codes "p"))) ∷ (type_at 3 (codes "r") (pointer (codes "q"))) ∷
    (type_at 4 (codes "q") (named_type (codes "integer"))) ∷ []) [] [] (at_name 5 (compound ((at_name 6 empty) ∷
    []))))

case_53 : shown (checked [] program_53) ≡ Layouts ((1, 0, []) ∷ [])
case_53 = refl

sizes_53 : sizes (checked [] program_53) ≡ None
sizes_53 = refl

-- program z; procedure q; forward; procedure p; begin q end; procedure q; begin end; begin p end.
abbrev program_54 : BlockJudge
program_54 =
    (block None [] [] [] ((routine_at 2 (procedure (codes "q") []) None) ∷ (routine_at 3 (procedure (codes "p") [])
    (Some (block None [] [] [] [] (at_name 4 (compound ((at_name 5 (call (codes "q") [])) ∷ [])))))) ∷
    (routine_at 6 (procedure (codes "q") []) (Some (block None [] [] [] [] (at_name 7 (compound ((at_name 8
    empty) ∷ [])))))) ∷ []) (at_name 9 (compound ((at_name 10 (call (codes "p") [])) ∷ []))))

case_54 : shown (checked [] program_54) ≡ Layouts ((1, 0, []) ∷ (3, 0, []) ∷ (6, 0, []) ∷ [])
case_54 = refl

sizes_54 : sizes (checked [] program_54) ≡ None
sizes_54 = refl

-- program z; var s: packed array [1..3] of char; begin s := 'abc'; if s < 'abd' then writeln(s:2) end.
abbrev program_55 : BlockJudge
program_55 =
    (block None [] [] ((variables_at 2 ((codes "s") ∷ []) (array true ((range (constant.Number prefix.Without 1)
    (constant.Number prefix.Without 3)) ∷ []) (named_type (codes "char")))) ∷ []) [] (at_name 3 (compound
    ((at_name 4 (assign (access (codes "s") []) (chars (codes "abc")))) ∷ (at_name 5 (if_then (relation (value
    (access (codes "s") [])) rel.Less (chars (codes "abd"))) (at_name 6 (call (codes "writeln") ((argument (value
    (access (codes "s") [])) (Some (number 2))) ∷ []))) None)) ∷ []))))

case_55 : shown (checked [] program_55) ≡ Layouts ((1, 3, (0 ∷ [])) ∷ [])
case_55 = refl

sizes_55 : sizes (checked [] program_55) ≡ None
sizes_55 = refl

-- program z; label 1, 2; begin 1: begin goto 1; goto 2 end; 2: end.
abbrev program_56 : BlockJudge
program_56 =
    (block (Some (name_of 2, (1 ∷ 2 ∷ []))) [] [] [] [] (at_name 3 (compound ((at_label 4 1 (compound ((at_name 5
    (goto 1)) ∷ (at_name 6 (goto 2)) ∷ []))) ∷ (at_label 7 2 empty) ∷ []))))

case_56 : shown (checked [] program_56) ≡ Layouts ((1, 0, []) ∷ [])
case_56 = refl

sizes_56 : sizes (checked [] program_56) ≡ None
sizes_56 = refl

-- program z; var a, b: array [1..2049] of integer; begin end.
abbrev program_57 : BlockJudge
program_57 =
    (block None [] [] ((variables_at 2 ((codes "a") ∷ (codes "b") ∷ []) (array false ((range (constant.Number
    prefix.Without 1) (constant.Number prefix.Without 2049)) ∷ []) (named_type (codes "integer")))) ∷ []) []
    (at_name 3 (compound ((at_name 4 empty) ∷ []))))

case_57 : shown (checked [] program_57) ≡ Layouts ((1, 4098, (0 ∷ 2049 ∷ [])) ∷ [])
case_57 = refl

sizes_57 : sizes (checked [] program_57) ≡ Some (GlobalsFull 4098)
sizes_57 = refl

-- program z; type t = array [1..2004] of integer; procedure p; var a: t; begin end; begin end.
abbrev program_58 : BlockJudge
program_58 =
    (block None [] ((type_at 2 (codes "t") (array false ((range (constant.Number prefix.Without 1) (constant.Number
    prefix.Without 2004)) ∷ []) (named_type (codes "integer")))) ∷ []) [] ((routine_at 3 (procedure (codes "p")
    []) (Some (block None [] [] ((variables_at 4 ((codes "a") ∷ []) (named_type (codes "t"))) ∷ []) [] (at_name 5
    (compound ((at_name 6 empty) ∷ [])))))) ∷ []) (at_name 7 (compound ((at_name 8 empty) ∷ []))))

case_58 : shown (checked [] program_58) ≡ Layouts ((1, 0, []) ∷ (3, 2004, (0 ∷ [])) ∷ [])
case_58 = refl

sizes_58 : sizes (checked [] program_58) ≡ Some (FrameTooLarge (name_of 3) 2049)
sizes_58 = refl

-- program z; type t0 = record end; t1 = record x, y: t0 end; t2 = record x, y: t1 end; var v: t2; begin with v do x
-- := y end.
abbrev program_59 : BlockJudge
program_59 =
    (block None [] ((type_at 2 (codes "t0") (record_type false [])) ∷ (type_at 3 (codes "t1") (record_type false
    ((((codes "x") ∷ (codes "y") ∷ []), (named_type (codes "t0"))) ∷ []))) ∷ (type_at 4 (codes "t2") (record_type
    false ((((codes "x") ∷ (codes "y") ∷ []), (named_type (codes "t1"))) ∷ []))) ∷ []) ((variables_at 5 ((codes
    "v") ∷ []) (named_type (codes "t2"))) ∷ []) [] (at_name 6 (compound ((at_name 7 (with_do ((access (codes "v")
    []) ∷ []) (at_name 8 (assign (access (codes "x") []) (value (access (codes "y") [])))))) ∷ []))))

case_59 : shown (checked [] program_59) ≡ Layouts ((1, 0, (0 ∷ [])) ∷ [])
case_59 = refl

sizes_59 : sizes (checked [] program_59) ≡ None
sizes_59 = refl

-- program z; function f: integer; procedure g; begin f := 1 end; begin g end; begin writeln(f) end.
abbrev program_60 : BlockJudge
program_60 =
    (block None [] [] [] ((routine_at 2 (function (codes "f") [] (Some (codes "integer"))) (Some (block None [] []
    [] ((routine_at 3 (procedure (codes "g") []) (Some (block None [] [] [] [] (at_name 4 (compound ((at_name 5
    (assign (access (codes "f") []) (number 1))) ∷ [])))))) ∷ []) (at_name 6 (compound ((at_name 7 (call (codes
    "g") [])) ∷ [])))))) ∷ []) (at_name 8 (compound ((at_name 9 (call (codes "writeln") ((argument (value (access
    (codes "f") [])) None) ∷ []))) ∷ []))))

case_60 : shown (checked [] program_60) ≡ Layouts ((1, 0, []) ∷ (2, 1, (0 ∷ [])) ∷ (3, 0, []) ∷ [])
case_60 = refl

sizes_60 : sizes (checked [] program_60) ≡ None
sizes_60 = refl

-- program z; type t0 = integer; t1 = record a, b: t0 end; t2 = record a, b: t1 end; t3 = record a, b: t2 end; t4 =
-- record a, b: t3 end; t5 = record a, b: t4 end; t6 = record a, b: t5 end; t7 = record a, b: t6 end; t8 = record a,
-- b: t7 end; t9 = record a, b: t8 end; t10 = record a, b: t9 end; t11 = record a, b: t10 end; t12 = record a, b: t11
-- end; var x: t12; begin end.
abbrev program_61 : BlockJudge
program_61 =
    (block None [] ((type_at 2 (codes "t0") (named_type (codes "integer"))) ∷ (type_at 3 (codes "t1") (record_type
    false ((((codes "a") ∷ (codes "b") ∷ []), (named_type (codes "t0"))) ∷ []))) ∷ (type_at 4 (codes "t2")
    (record_type false ((((codes "a") ∷ (codes "b") ∷ []), (named_type (codes "t1"))) ∷ []))) ∷ (type_at 5 (codes
    "t3") (record_type false ((((codes "a") ∷ (codes "b") ∷ []), (named_type (codes "t2"))) ∷ []))) ∷ (type_at 6
    (codes "t4") (record_type false ((((codes "a") ∷ (codes "b") ∷ []), (named_type (codes "t3"))) ∷ []))) ∷
    (type_at 7 (codes "t5") (record_type false ((((codes "a") ∷ (codes "b") ∷ []), (named_type (codes "t4"))) ∷
    []))) ∷ (type_at 8 (codes "t6") (record_type false ((
      ((codes "a") ∷ (codes "b") ∷ []),
      (named_type (codes
          "t5")),
    ) ∷ []))) ∷ (type_at 9 (codes "t7") (record_type false ((
      ((codes "a") ∷ (codes "b") ∷ []),
      (named_type
          (codes "t6")),
    ) ∷ []))) ∷ (type_at 10 (codes "t8") (record_type false ((
      ((codes "a") ∷ (codes "b") ∷ []),
      (named_type (codes "t7")),
    ) ∷ []))) ∷ (type_at 11 (codes "t9") (record_type false ((
      ((codes "a") ∷ (codes "b")
          ∷ []),
      (named_type (codes "t8")),
    ) ∷ []))) ∷ (type_at 12 (codes "t10") (record_type false ((
      ((codes "a") ∷
          (codes "b") ∷ []),
      (named_type (codes "t9")),
    ) ∷ []))) ∷ (type_at 13 (codes "t11") (record_type false
    ((((codes "a") ∷ (codes "b") ∷ []), (named_type (codes "t10"))) ∷ []))) ∷ (type_at 14 (codes "t12")
    (record_type false ((((codes "a") ∷ (codes "b") ∷ []), (named_type (codes "t11"))) ∷ []))) ∷ [])
    ((variables_at 15 ((codes "x") ∷ []) (named_type (codes "t12"))) ∷ []) [] (at_name 16 (compound ((at_name 17
    empty) ∷ []))))

case_61 : shown (checked [] program_61) ≡ Layouts ((1, 4096, (0 ∷ [])) ∷ [])
case_61 = refl

sizes_61 : sizes (checked [] program_61) ≡ None
sizes_61 = refl

-- program z; type t0 = record end; t1 = record a, b: t0 end; t2 = record a, b: t1 end; t3 = record a, b: t2 end; t4 =
-- record a, b: t3 end; t5 = record a, b: t4 end; t6 = record a, b: t5 end; t7 = record a, b: t6 end; t8 = record a,
-- b: t7 end; t9 = record a, b: t8 end; t10 = record a, b: t9 end; t11 = record a, b: t10 end; t12 = record a, b: t11
-- end; t13 = record a, b: t12 end; t14 = record a, b: t13 end; t15 = record a, b: t14 end; t16 = record a, b: t15
-- end; t17 = record a, b: t16 end; t18 = record a, b: t17 end; t19 = record a, b: t18 end; t20 = record a, b: t19
-- end; t21 = record a, b: t20 end; t22 = record a, b: t21 end; t23 = record a, b: t22 end; t24 = record a, b: t23
-- end; t25 = record a, b: t24 end; t26 = record a, b: t25 end; t27 = record a, b: t26 end; t28 = record a, b: t27
-- end; t29 = record a, b: t28 end; t30 = record a, b: t29 end; t31 = record a, b: t30 end; t32 = record a, b: t31
-- end; t33 = record a, b: t32 end; t34 = record a, b: t33 end; t35 = record a, b: t34 end; t36 = record a, b: t35
-- end; t37 = record a, b: t36 end; t38 = record a, b: t37 end; t39 = record a, b: t38 end; t40 = record a, b: t39
-- end; var x: t40; begin end.
abbrev program_62 : BlockJudge
program_62 =
    (block None [] ((type_at 2 (codes "t0") (record_type false [])) ∷ (type_at 3 (codes "t1") (record_type false
    ((((codes "a") ∷ (codes "b") ∷ []), (named_type (codes "t0"))) ∷ []))) ∷ (type_at 4 (codes "t2") (record_type
    false ((((codes "a") ∷ (codes "b") ∷ []), (named_type (codes "t1"))) ∷ []))) ∷ (type_at 5 (codes "t3")
    (record_type false ((((codes "a") ∷ (codes "b") ∷ []), (named_type (codes "t2"))) ∷ []))) ∷ (type_at 6 (codes
    "t4") (record_type false ((((codes "a") ∷ (codes "b") ∷ []), (named_type (codes "t3"))) ∷ []))) ∷ (type_at 7
    (codes "t5") (record_type false ((((codes "a") ∷ (codes "b") ∷ []), (named_type (codes "t4"))) ∷ []))) ∷
    (type_at 8 (codes "t6") (record_type false ((((codes "a") ∷ (codes "b") ∷ []), (named_type (codes "t5"))) ∷
    []))) ∷ (type_at 9 (codes "t7") (record_type false ((
      ((codes "a") ∷ (codes "b") ∷ []),
      (named_type (codes
          "t6")),
    ) ∷ []))) ∷ (type_at 10 (codes "t8") (record_type false ((
      ((codes "a") ∷ (codes "b") ∷ []),
      (named_type
          (codes "t7")),
    ) ∷ []))) ∷ (type_at 11 (codes "t9") (record_type false ((
      ((codes "a") ∷ (codes "b") ∷ []),
      (named_type (codes "t8")),
    ) ∷ []))) ∷ (type_at 12 (codes "t10") (record_type false ((
      ((codes "a") ∷ (codes
          "b") ∷ []),
      (named_type (codes "t9")),
    ) ∷ []))) ∷ (type_at 13 (codes "t11") (record_type false ((
      ((codes "a")
          ∷ (codes "b") ∷ []),
      (named_type (codes "t10")),
    ) ∷ []))) ∷ (type_at 14 (codes "t12") (record_type false
    ((((codes "a") ∷ (codes "b") ∷ []), (named_type (codes "t11"))) ∷ []))) ∷ (type_at 15 (codes "t13")
    (record_type false ((((codes "a") ∷ (codes "b") ∷ []), (named_type (codes "t12"))) ∷ []))) ∷ (type_at 16
    (codes "t14") (record_type false ((((codes "a") ∷ (codes "b") ∷ []), (named_type (codes "t13"))) ∷ []))) ∷
    (type_at 17 (codes "t15") (record_type false ((((codes "a") ∷ (codes "b") ∷ []), (named_type (codes "t14")))
    ∷ []))) ∷ (type_at 18 (codes "t16") (record_type false ((
      ((codes "a") ∷ (codes "b") ∷ []),
      (named_type (codes
          "t15")),
    ) ∷ []))) ∷ (type_at 19 (codes "t17") (record_type false ((
      ((codes "a") ∷ (codes "b") ∷ []),
      (named_type (codes "t16")),
    ) ∷ []))) ∷ (type_at 20 (codes "t18") (record_type false ((
      ((codes "a") ∷ (codes
          "b") ∷ []),
      (named_type (codes "t17")),
    ) ∷ []))) ∷ (type_at 21 (codes "t19") (record_type false ((
      ((codes "a")
          ∷ (codes "b") ∷ []),
      (named_type (codes "t18")),
    ) ∷ []))) ∷ (type_at 22 (codes "t20") (record_type false
    ((((codes "a") ∷ (codes "b") ∷ []), (named_type (codes "t19"))) ∷ []))) ∷ (type_at 23 (codes "t21")
    (record_type false ((((codes "a") ∷ (codes "b") ∷ []), (named_type (codes "t20"))) ∷ []))) ∷ (type_at 24
    (codes "t22") (record_type false ((((codes "a") ∷ (codes "b") ∷ []), (named_type (codes "t21"))) ∷ []))) ∷
    (type_at 25 (codes "t23") (record_type false ((((codes "a") ∷ (codes "b") ∷ []), (named_type (codes "t22")))
    ∷ []))) ∷ (type_at 26 (codes "t24") (record_type false ((
      ((codes "a") ∷ (codes "b") ∷ []),
      (named_type (codes
          "t23")),
    ) ∷ []))) ∷ (type_at 27 (codes "t25") (record_type false ((
      ((codes "a") ∷ (codes "b") ∷ []),
      (named_type (codes "t24")),
    ) ∷ []))) ∷ (type_at 28 (codes "t26") (record_type false ((
      ((codes "a") ∷ (codes
          "b") ∷ []),
      (named_type (codes "t25")),
    ) ∷ []))) ∷ (type_at 29 (codes "t27") (record_type false ((
      ((codes "a")
          ∷ (codes "b") ∷ []),
      (named_type (codes "t26")),
    ) ∷ []))) ∷ (type_at 30 (codes "t28") (record_type false
    ((((codes "a") ∷ (codes "b") ∷ []), (named_type (codes "t27"))) ∷ []))) ∷ (type_at 31 (codes "t29")
    (record_type false ((((codes "a") ∷ (codes "b") ∷ []), (named_type (codes "t28"))) ∷ []))) ∷ (type_at 32
    (codes "t30") (record_type false ((((codes "a") ∷ (codes "b") ∷ []), (named_type (codes "t29"))) ∷ []))) ∷
    (type_at 33 (codes "t31") (record_type false ((((codes "a") ∷ (codes "b") ∷ []), (named_type (codes "t30")))
    ∷ []))) ∷ (type_at 34 (codes "t32") (record_type false ((
      ((codes "a") ∷ (codes "b") ∷ []),
      (named_type (codes
          "t31")),
    ) ∷ []))) ∷ (type_at 35 (codes "t33") (record_type false ((
      ((codes "a") ∷ (codes "b") ∷ []),
      (named_type (codes "t32")),
    ) ∷ []))) ∷ (type_at 36 (codes "t34") (record_type false ((
      ((codes "a") ∷ (codes
          "b") ∷ []),
      (named_type (codes "t33")),
    ) ∷ []))) ∷ (type_at 37 (codes "t35") (record_type false ((
      ((codes "a")
          ∷ (codes "b") ∷ []),
      (named_type (codes "t34")),
    ) ∷ []))) ∷ (type_at 38 (codes "t36") (record_type false
    ((((codes "a") ∷ (codes "b") ∷ []), (named_type (codes "t35"))) ∷ []))) ∷ (type_at 39 (codes "t37")
    (record_type false ((((codes "a") ∷ (codes "b") ∷ []), (named_type (codes "t36"))) ∷ []))) ∷ (type_at 40
    (codes "t38") (record_type false ((((codes "a") ∷ (codes "b") ∷ []), (named_type (codes "t37"))) ∷ []))) ∷
    (type_at 41 (codes "t39") (record_type false ((((codes "a") ∷ (codes "b") ∷ []), (named_type (codes "t38")))
    ∷ []))) ∷ (type_at 42 (codes "t40") (record_type false ((
      ((codes "a") ∷ (codes "b") ∷ []),
      (named_type (codes
          "t39")),
    ) ∷ []))) ∷ []) ((variables_at 43 ((codes "x") ∷ []) (named_type (codes "t40"))) ∷ []) [] (at_name 44
    (compound ((at_name 45 empty) ∷ []))))

case_62 : shown (checked [] program_62) ≡ Layouts ((1, 0, (0 ∷ [])) ∷ [])
case_62 = refl

sizes_62 : sizes (checked [] program_62) ≡ None
sizes_62 = refl

-- program z; type p = record q: record a: integer end; a: char end; var r: p; i: integer; begin with r, q do i := a
-- end.
abbrev program_63 : BlockJudge
program_63 =
    (block None [] ((type_at 2 (codes "p") (record_type false ((
      ((codes "q") ∷ []),
      (record_type false ((
        ((codes
            "a") ∷ []),
        (named_type (codes "integer")),
      ) ∷ [])),
    ) ∷ (((codes "a") ∷ []), (named_type (codes "char"))) ∷
    []))) ∷ []) ((variables_at 3 ((codes "r") ∷ []) (named_type (codes "p"))) ∷ (variables_at 4 ((codes "i") ∷
    []) (named_type (codes "integer"))) ∷ []) [] (at_name 5 (compound ((at_name 6 (with_do ((access (codes "r")
    []) ∷ (access (codes "q") []) ∷ []) (at_name 7 (assign (access (codes "i") []) (value (access (codes "a")
    [])))))) ∷ []))))

case_63 : shown (checked [] program_63) ≡ Layouts ((1, 3, (0 ∷ 2 ∷ [])) ∷ [])
case_63 = refl

sizes_63 : sizes (checked [] program_63) ≡ None
sizes_63 = refl

-- program z; type e = (a, b, c); var x: e; begin x := succ(a); if x in [a, c] then x := b end.
abbrev program_64 : BlockJudge
program_64 =
    (block None [] ((type_at 2 (codes "e") (enumeration ((codes "a") ∷ (codes "b") ∷ (codes "c") ∷ []))) ∷ [])
    ((variables_at 3 ((codes "x") ∷ []) (named_type (codes "e"))) ∷ []) [] (at_name 4 (compound ((at_name 5
    (assign (access (codes "x") []) (function_call (codes "succ") ((argument (value (access (codes "a") []))
    None) ∷ [])))) ∷ (at_name 6 (if_then (relation (value (access (codes "x") [])) rel.Member (set_of_values
    ((value (access (codes "a") [])) ∷ (value (access (codes "c") [])) ∷ []))) (at_name 7 (assign (access (codes
    "x") []) (value (access (codes "b") [])))) None)) ∷ []))))

case_64 : shown (checked [] program_64) ≡ Layouts ((1, 1, (0 ∷ [])) ∷ [])
case_64 = refl

sizes_64 : sizes (checked [] program_64) ≡ None
sizes_64 = refl
