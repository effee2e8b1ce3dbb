-- Rows that are added to an index, part by part.
use Rattle.std.proofs.Common.{◌≡◌, ℕ, ◌+◌, List, [], ◌∷◌, ◌++◌, length, map, refl, sym, ap, subst, ◌∙◌, arith, append_assoc, add-zero, append-nil, length-append, option_to_list, Result, Ok, Err, OnOk}
use Rattle.std.proofs.lemmas.List.{map-append}
use Rattle.std.proofs.lemmas.Grind.{common_steps}
use Rattle.pascal_tree.specs.declared.decl.Block.{Block, out-Block}
use Rattle.pascal_tree.specs.declared.decl.Block.TheFolds.{fold_out-Block}
use Rattle.program_tree.specs.declared.index.Entry.{Entry}
use Rattle.pascal_tree.specs.Rows.{Row, Rows, rows_from, stmt_rows, decl_rows, block_rows, routine_rows, rows_in_block, rows_in_routine}
use Rattle.program_tree.specs.Entries.{AddsRows, entry_of}

rows_from-append : (at : ℕ) (xs ys : List Rows) (path : List ℕ) → rows_from at (xs ++ ys) path ≡ rows_from at xs path ++ rows_from (at + length xs) ys path
rows_from-append at [] ys path = ap (λ (k : ℕ). rows_from k ys path) (sym (add-zero at))
rows_from-append at (x ∷ xs) ys path = grind (arith, common_steps, rows_from-append (at + 1) xs ys path)

both : (at next : ℕ) (xs ys : List Rows) (path : List ℕ) → next ≡ at + length xs → map entry_of (rows_from at (xs ++ ys) path) ≡ map entry_of (rows_from at xs path) ++ map entry_of (rows_from next ys path)
both at next xs ys path e = rw (rows_from-append at xs ys path, ← e) (map-append entry_of (rows_from at xs path) (rows_from next ys path))

pub adds-append : (at next last : ℕ) (xs ys : List Rows) (path : List ℕ) (old mid new : List Entry) → AddsRows at xs path old mid next → AddsRows next ys path mid new last → AddsRows at (xs ++ ys) path old new last
adds-append at next last xs ys path old mid new first second = record {
  rows =
      second.rows ∙ (ap (λ (es : List Entry). es ++ map entry_of (rows_from next ys path)) first.rows ∙ (append_assoc old (map entry_of (rows_from at xs path)) (map entry_of (rows_from next ys path)) ∙ ap (λ (es : List Entry). old ++ es) (sym (both at next xs ys path first.place))));
  place = (let e = length-append xs ys in omega (arith, first.place, second.place));
}

pub adds_one : (at : ℕ) (part : Rows) (path : List ℕ) (old new : List Entry) → new ≡ old ++ map entry_of (part (path ++ (at ∷ []))) → AddsRows at (part ∷ []) path old new (at + 1)
adds_one at part path old new h = record {
  rows = h ∙ ap (λ (rows : List Row). old ++ map entry_of rows) (sym (append-nil (part (path ++ (at ∷ [])))));
  place = refl;
}

-- the parts by another name
pub adds_same : {A : Type 0} → (f : A → Rows) (xs ys : List A) (at last : ℕ) (path : List ℕ) (old new : List Entry) → xs ≡ ys → AddsRows at (map f xs) path old new last → AddsRows at (map f ys) path old new last
adds_same {A} f xs ys at last path old new e h = subst (λ (zs : List A). AddsRows at (map f zs) path old new last) e h

pub block_rows-is : (b : Block) (path : List ℕ) → block_rows b path ≡ rows_from 0 (map decl_rows (option_to_list (out-Block b).labels) ++ (map decl_rows (out-Block b).consts ++ (map decl_rows (out-Block b).types ++ (map decl_rows (out-Block b).vars ++ (map routine_rows (out-Block b).routines ++ (stmt_rows (out-Block b).body ∷ [])))))) path
unfolding block_rows routine_rows
block_rows-is b path = ap (λ (f : Rows). f path) (fold_out-Block Rows Rows rows_in_block rows_in_routine b)

-- the parts of a block, one after another, are its rows
pub block_by_parts : (b : Block) (path : List ℕ) (n1 n2 n3 n4 n5 : ℕ) (o0 o1 o2 o3 o4 o5 o6 : List Entry)
    → AddsRows 0 (map decl_rows (option_to_list (out-Block b).labels)) path o0 o1 n1 → AddsRows n1 (map decl_rows (out-Block b).consts) path o1 o2 n2
    → AddsRows n2 (map decl_rows (out-Block b).types) path o2 o3 n3 → AddsRows n3 (map decl_rows (out-Block b).vars) path o3 o4 n4
    → AddsRows n4 (map routine_rows (out-Block b).routines) path o4 o5 n5 → o6 ≡ o5 ++ map entry_of (stmt_rows (out-Block b).body (path ++ (n5 ∷ [])))
    → o6 ≡ o0 ++ map entry_of (block_rows b path)
block_by_parts b path n1 n2 n3 n4 n5 o0 o1 o2 o3 o4 o5 o6 a1 a2 a3 a4 a5 a6 =
    (let all = adds-append _ _ _ _ _ _ _ _ _ a1 (adds-append _ _ _ _ _ _ _ _ _ a2 (adds-append _ _ _ _ _ _ _ _ _ a3 (adds-append _ _ _ _ _ _ _ _ _ a4 (adds-append _ _ _ _ _ _ _ _ _ a5 (adds_one _ _ _ _ _ a6))))) in
    all.rows ∙ ap (λ (rows : List Row). o0 ++ map entry_of rows) (sym (block_rows-is b path)))

pub on_ok : {A E P Q : Type 0} (r : Result A E) → (P → Q) → OnOk r P → OnOk r Q
on_ok (Ok a) f h = f h
on_ok (Err e) f h = tt
