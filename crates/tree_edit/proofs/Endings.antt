-- How a statement ends with another in the place at a path.
use Rattle.std.proofs.Common.{◌≡◌, ℕ, ◌+◌, ◌-◌, ◌≤◌, ◌&&◌, false, List, [], ◌∷◌, length, map, get_or, take, drop, Some, refl, ap, ◌∙◌, ltb, arith}
use Rattle.std.proofs.Math.Seq.{take-length}
use Rattle.std.specs.Prelude.{slice_get}
use Rattle.std.proofs.lemmas.Bool.{le-ltb}
use Rattle.pascal_tree.specs.declared.stmt.Stmt.{Stmt}
use Rattle.pascal_tree.specs.declared.stmt.StmtKind.{StmtKind}
use Rattle.pascal_tree.specs.declared.stmt.StmtKind.TheFolds.{fold_out-Arm}
use Rattle.pascal_tree.specs.declared.stmt.Arm.{Arm, Arm-F, out-Arm, out-roll-Arm}
use Rattle.pascal_tree.specs.Openness.{Ending, are_paired, ending_of_kind, ending_of_arm, ending_of_stmt, stmt_ending, kind_ending, arm_ending}
use Rattle.pascal_tree.specs.declared.decl.Block.{Block}
use Rattle.pascal_tree.specs.declared.decl.Routine.{Routine}
use Rattle.tree_edit.specs.Place.{change, change_in_arm, put_at, declared, after_decls, change_in_block, change_in_routine, put_in_block}
use Rattle.tree_edit.proofs.Lists.{all_but}

-- an arm ends as its statement does
pub arm_ending-is : (arm : Arm) → arm_ending arm ≡ stmt_ending (out-Arm arm).body
unfolding stmt_ending kind_ending arm_ending
arm_ending-is arm = fold_out-Arm Ending Ending Ending ending_of_kind ending_of_arm ending_of_stmt arm

abbrev arm_layer : (Stmt → Stmt) → Arm → Arm-F StmtKind Arm Stmt
arm_layer f arm = record { constants = (out-Arm arm).constants; body = f (out-Arm arm).body }

pub arm_put : (f : Stmt → Stmt) (arm : Arm) → arm_ending (change_in_arm f arm) ≡ stmt_ending (f (out-Arm arm).body)
arm_put f arm = arm_ending-is (change_in_arm f arm) ∙ ap (λ (a : Arm-F StmtKind Arm Stmt). stmt_ending a.body) (out-roll-Arm (arm_layer f arm))

pub arms_but : (f : Stmt → Stmt) (i : ℕ) (arm : Arm) (arms : List Arm) → slice_get arms i ≡ Some arm
    → are_paired (map arm_ending (change (change_in_arm f) i arms))
    ≡ ((stmt_ending (f (out-Arm arm).body)).is_paired && (are_paired (map arm_ending (take i arms)) && are_paired (map arm_ending (drop (i + 1) arms))))
arms_but f i arm arms found =
    all_but (λ (e : Ending). e.is_paired) arm_ending (change_in_arm f) i arm arms found
    ∙ ap (λ (e : Ending). e.is_paired && (are_paired (map arm_ending (take i arms)) && are_paired (map arm_ending (drop (i + 1) arms)))) (arm_put f arm)

-- ---- a path that goes past the declarations of a block

after_past : (f : Stmt → Stmt) (g : Routine → Routine) (j i : ℕ) (b : Block) → i ≡ j + declared b → change_in_block f g i b ≡ after_decls f g j b
after_past f g j i b e =
    (let no : ltb i (declared b) ≡ false = le-ltb i (declared b) (omega (arith, e)) in
    let left : i - declared b ≡ j = omega (arith, e) in
    rw (no, left) refl)

-- the rest of a path, as the code has it
abbrev rest : List ℕ → List ℕ
rest path = take (length path - 1) (drop 1 path)

rest-is : (i : ℕ) (path : List ℕ) → rest (i ∷ path) ≡ path
rest-is i path = (let one_less : length (i ∷ path) - 1 ≡ length path = omega arith in rw one_less (take-length path))

pub put_past : (path : List ℕ) (new : Stmt) (j : ℕ) (b : Block) → 1 ≤ length path → get_or path 0 0 ≡ j + declared b
    → put_in_block path new b ≡ after_decls (put_at (rest path) new) (change_in_routine (put_in_block (rest path) new)) j b
put_past [] new j b some e = absurd (omega (arith, some))
put_past (i ∷ path) new j b some e = rw (rest-is i path) (after_past (put_at path new) (change_in_routine (put_in_block path new)) j i b e)
