-- The names of a block, part by part.
use Rattle.std.proofs.Common.{◌≡◌, ℕ, List, sym, ap, ◌∙◌, IfOk, Result, Ok, Err}
use Rattle.pascal_tree.specs.declared.decl.Decl.{Decl}
use Rattle.pascal_tree.specs.declared.decl.Block.{Block, out-Block}
use Rattle.pascal_tree.specs.declared.decl.Block.TheFolds.{fold_out-Block}
use Rattle.pascal_tree.specs.declared.decl.Routine.{Routine}
use Rattle.pascal_tree.specs.Naming.{Numbering, labels_numbering, decls_numbering, routines_numbering, block_with_ends, block_in_turn, routine_in_turn, block_numbering, routine_numbering}

abbrev consts_of : Block → Numbering (List Decl)
consts_of b n = decls_numbering (out-Block b).consts (labels_numbering (out-Block b).labels n).1

abbrev types_of : Block → Numbering (List Decl)
types_of b n = decls_numbering (out-Block b).types (consts_of b n).1

abbrev vars_of : Block → Numbering (List Decl)
vars_of b n = decls_numbering (out-Block b).vars (types_of b n).1

abbrev routines_of : Block → Numbering (List Routine)
routines_of b n = routines_numbering (out-Block b).routines (vars_of b n).1

block_equation : (b : Block) (n : ℕ) → block_numbering b n ≡ block_with_ends b n (routines_of b n).1 (consts_of b n).0 (types_of b n).0 (vars_of b n).0 (routines_of b n).0
unfolding block_numbering routine_numbering
block_equation b n = ap (λ (f : Numbering Block). f n) (fold_out-Block (Numbering Block) (Numbering Routine) block_in_turn routine_in_turn b)

abbrev pub decls : List Decl → ℕ → List Decl × ℕ
decls xs n = (xs, n)

abbrev pub routines : List Routine → ℕ → List Routine × ℕ
routines xs n = (xs, n)

pub block_by_parts : (b : Block) (n first : ℕ) (cs ts vs : List Decl) (rs : List Routine) (n1 n2 n3 n4 : ℕ)
    → first ≡ (labels_numbering (out-Block b).labels n).1 → decls cs n1 ≡ decls_numbering (out-Block b).consts first → decls ts n2 ≡ decls_numbering (out-Block b).types n1
    → decls vs n3 ≡ decls_numbering (out-Block b).vars n2 → routines rs n4 ≡ routines_numbering (out-Block b).routines n3 → block_with_ends b n n4 cs ts vs rs ≡ block_numbering b n
block_by_parts b n first cs ts vs rs n1 n2 n3 n4 e0 e1 e2 e3 e4 =
    rw (
      ap (λ (p : List Routine × ℕ). p.0) e4,
      ap (λ (p : List Routine × ℕ). p.1) e4,
      ap (λ (p : List Decl × ℕ). p.0) e3,
      ap (λ (p : List Decl × ℕ). p.1) e3,
      ap (λ (p : List Decl × ℕ). p.0) e2,
      ap (λ (p : List Decl × ℕ). p.1) e2,
      ap (λ (p : List Decl × ℕ). p.0) e1,
      ap (λ (p : List Decl × ℕ). p.1) e1,
      e0,
    ) (sym (block_equation b n))

pub ok_same : {A E : Type 0} (r : Result A E) (x y : A) → x ≡ y → IfOk r (λ a. a ≡ x) → IfOk r (λ a. a ≡ y)
ok_same (Ok a) x y e is = is ∙ e
ok_same (Err f) x y e is = tt
