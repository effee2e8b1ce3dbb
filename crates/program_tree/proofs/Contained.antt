-- Each item that stands in a program has a row there.
use Rattle.std.proofs.Common.{◌≡◌, ℕ, zero, suc, ◌+◌, List, [], ◌∷◌, ◌++◌, Option, Some, None, Contains, map, slice_get, option_and_then, refl, sym, ap, subst, ◌∙◌, append-nil, append_assoc, length, ◌<◌, arith}
use Rattle.std.proofs.lemmas.List.Elements.{Contains-append_left, Contains-append_right}
use Rattle.pascal_tree.specs.declared.program.Tree.{Tree}
use Rattle.pascal_tree.specs.Paths.{ItemValue, OfProgram, item_children, item_at, tree_at}
use Rattle.pascal_tree.specs.Rows.{Row, rows_from, program_rows}
use Rattle.program_tree.proofs.Opened.{item_rows, own_row, item_opened}

pub contains_first : {A : Type 0} (x : A) (xs : List A) → Contains (x ∷ xs) x
contains_first x xs = (let less : 0 < length (x ∷ xs) = omega arith in (0, less, refl))

-- the rows of a part are among those of the parts
in_parts : (xs : List ItemValue) (k i : ℕ) (z : ItemValue) (at : List ℕ) (r : Row) → slice_get xs i ≡ Some z
    → Contains (item_rows z (at ++ ((k + i) ∷ []))) r → Contains (rows_from k (map item_rows xs) at) r
in_parts [] k i z at r e h = absurd cc
in_parts (x ∷ xs) k zero z at r e h =
    (let same : z ≡ x = cc in
    let here : k + 0 ≡ k = omega arith in
    let first = subst (λ (n : ℕ). Contains (item_rows z (at ++ (n ∷ []))) r) here h in
    Contains-append_left (item_rows x (at ++ (k ∷ []))) (rows_from (k + 1) (map item_rows xs) at) r (subst (λ (y : ItemValue). Contains (item_rows y (at ++ (k ∷ []))) r) same first))
in_parts (x ∷ xs) k (suc i) z at r e h =
    (let next : k + suc i ≡ (k + 1) + i = omega arith in
    let later = subst (λ (n : ℕ). Contains (item_rows z (at ++ (n ∷ []))) r) next h in
    Contains-append_right (item_rows x (at ++ (k ∷ []))) (rows_from (k + 1) (map item_rows xs) at) r (in_parts xs (k + 1) i z at r e later))

has_row : (path : List ℕ) (x y : ItemValue) (at : List ℕ) → item_at path x ≡ Some y → Contains (item_rows x at) (own_row y (at ++ path))
has_row [] x y at e =
    (let same : x ≡ y = cc in
    let place : at ≡ at ++ [] = sym (append-nil at) in
    let first = subst (λ (rows : List Row). Contains rows (own_row x at)) (sym (item_opened x at)) (contains_first (own_row x at) (rows_from 0 (map item_rows (item_children x)) at)) in
    subst (λ (z : ItemValue). Contains (item_rows x at) (own_row z (at ++ []))) same (subst (λ (p : List ℕ). Contains (item_rows x at) (own_row x p)) place first))
has_row (i ∷ path) x y at e = go (slice_get (item_children x) i) refl e (λ z. has_row path z y (at ++ ((0 + i) ∷ [])))
  where
    further : (at ++ ((0 + i) ∷ [])) ++ path ≡ at ++ (i ∷ path)
    further = (let same : 0 + i ≡ i = omega arith in rw same (append_assoc at (i ∷ []) path))

    go : (child : Option ItemValue) → slice_get (item_children x) i ≡ child → option_and_then (item_at path) child ≡ Some y
        → ((z : ItemValue) → item_at path z ≡ Some y → Contains (item_rows z (at ++ ((0 + i) ∷ []))) (own_row y ((at ++ ((0 + i) ∷ [])) ++ path)))
        → Contains (item_rows x at) (own_row y (at ++ (i ∷ path)))
    go None is found all = absurd cc
    go (Some z) is found all =
        (let inner = subst (λ (p : List ℕ). Contains (item_rows z (at ++ ((0 + i) ∷ []))) (own_row y p)) further (all z found) in
        let parts = in_parts (item_children x) 0 i z at (own_row y (at ++ (i ∷ path))) is inner in
        subst (λ (rows : List Row). Contains rows (own_row y (at ++ (i ∷ path)))) (sym (item_opened x at))
        (Contains-append_right (own_row x at ∷ []) (rows_from 0 (map item_rows (item_children x)) at) (own_row y (at ++ (i ∷ path))) parts))

pub tree_has_row : (path : List ℕ) (t : Tree) (x : ItemValue) → tree_at path t ≡ Some x → Contains (program_rows t) (own_row x path)
tree_has_row path t x e = has_row path (OfProgram t) x [] e
