-- What an item stands in, as the rows say it.
use Rattle.std.proofs.Common.{◌≡◌, ◌⊎◌, inl, inr, ℕ, zero, suc, ◌+◌, ◌-◌, List, [], ◌∷◌, ◌++◌, Option, Some, None, Bool, true, false, if◌then◌else◌, Contains, map, take, length, slice_get, option_map, option_and_then, MatchOption, refl, sym, ap, subst, ◌∙◌, length-append, arith}
use Rattle.dice_base.specs.declared.name.Name.{Name}
use Rattle.pascal_tree.specs.declared.program.Tree.{Tree}
use Rattle.dice_base.specs.Tokens.{Toks}
use Rattle.pascal_tree.specs.Paths.{ItemValue, OfProgram, item_at, item_children, item_name, tree_at, front, last_place}
use Rattle.pascal_tree.specs.Rows.{Row, own_text, program_rows}
use Rattle.program_tree.specs.Found.{HasPath, HasParent, HasNoParent, HasSequence, HasNoSequence, IsPartAt, is_sequence_text}
use Rattle.program_tree.specs.Lookups.{is_sequence, name_of, outer_at, parent_of, sequence_of, sequence_place}
use Rattle.program_tree.specs.Search.{path_of}
use Rattle.program_tree.proofs.Contained.{tree_has_row}
use Rattle.program_tree.proofs.Opened.{own_row}
use Rattle.program_tree.proofs.Searched.{AsPath, Finds, path_found}
use Rattle.program_tree.proofs.SequenceTexts.{sequence_text}

-- ---- the ends of a path

take_front : (path : List ℕ) (k j : ℕ) → take (length (path ++ (j ∷ []))) (k ∷ (path ++ (j ∷ []))) ≡ k ∷ path
take_front [] k j = refl
take_front (m ∷ path) k j = ap (λ (xs : List ℕ). k ∷ xs) (take_front path m j)

front-append : (path : List ℕ) (j : ℕ) → front (path ++ (j ∷ [])) ≡ Some path
front-append [] j = refl
front-append (k ∷ path) j = ap (λ (xs : List ℕ). Some xs) (take_front path k j)

get_last : (path : List ℕ) (j : ℕ) → slice_get (path ++ (j ∷ [])) (length path) ≡ Some j
get_last [] j = refl
get_last (k ∷ path) j = get_last path j

last_place-append : (path : List ℕ) (j : ℕ) → last_place (path ++ (j ∷ [])) ≡ Some j
last_place-append path j =
    (let e : length (path ++ (j ∷ [])) - 1 ≡ length path = omega (arith, length-append path (j ∷ [])) in
    ap (λ (n : ℕ). slice_get (path ++ (j ∷ [])) n) e ∙ get_last path j)

-- a path is empty, or a path with a place after it
abbrev Ends : List ℕ → Type 0
Ends path = (path ≡ []) ⊎ ((outer : List ℕ) × (place : ℕ) × (path ≡ outer ++ (place ∷ [])))

ends_later : (i : ℕ) (path : List ℕ) → Ends path → Ends (i ∷ path)
ends_later i path (inl e) = inr ([], i, ap (λ (xs : List ℕ). i ∷ xs) e)
ends_later i path (inr (outer, place, e)) = inr (i ∷ outer, place, ap (λ (xs : List ℕ). i ∷ xs) e)

ends : (path : List ℕ) → Ends path
ends [] = inl refl
ends (i ∷ path) = ends_later i path (ends path)

-- ---- what an item at a path stands in

outer_stands : (path : List ℕ) (i : ℕ) (x y : ItemValue) → item_at (path ++ (i ∷ [])) x ≡ Some y → (z : ItemValue) × (item_at path x ≡ Some z)
outer_stands [] i x y e = (x, refl)
outer_stands (j ∷ path) i x y e = go (slice_get (item_children x) j) e (λ z. outer_stands path i z y)
  where
    go : (child : Option ItemValue) → option_and_then (item_at (path ++ (i ∷ []))) child ≡ Some y → ((z : ItemValue) → item_at (path ++ (i ∷ [])) z ≡ Some y → (w : ItemValue) × (item_at path z ≡ Some w))
        → (w : ItemValue) × (option_and_then (item_at path) child ≡ Some w)
    go None found all = absurd cc
    go (Some z) found all = all z found

-- the row of the item is that of a part of what it stands in
is_part : (t : Tree) (n i : ℕ) (path : List ℕ) (z : ItemValue) → tree_at path t ≡ Some z → HasPath (path ++ (i ∷ [])) n (program_rows t) → IsPartAt n i (own_row z path) (program_rows t)
is_part t n i path z e row = record {
  outer_row = tree_has_row path t z e;
  row = row;
}

-- ---- parents

abbrev parent_from : Tree → Option (List ℕ) → Option Name
parent_from t found = option_map (λ x. name_of (item_name x)) (option_and_then (λ path. outer_at path t) found)

abbrev AsParent : Tree → ℕ → Option Name → Type 0
AsParent t n outer = MatchOption outer (HasNoParent n (program_rows t)) (λ m. HasParent n m.0 (program_rows t))

parent_at : (t : Tree) (n : ℕ) (path : List ℕ) → Finds t n (program_rows t) path → Ends path → AsParent t n (parent_from t (Some path))
parent_at t n path found (inl e) = rw e (inr (subst (λ (p : List ℕ). HasPath p n (program_rows t)) e (own_text found.item, found.has)))
parent_at t n path found (inr (outer, i, e)) =
    (let stands = subst (λ (p : List ℕ). tree_at p t ≡ Some found.item) e found.stands in
    let row = subst (λ (p : List ℕ). HasPath p n (program_rows t)) e (own_text found.item, found.has) in
    let (z, at) = outer_stands outer i (OfProgram t) found.item stands in
    rw (e, front-append outer i, at) (own_row z outer, i, is_part t n i outer z at row, refl))

parent_found : (t : Tree) (n : ℕ) (found : Option (List ℕ)) → AsPath t n found → AsParent t n (parent_from t found)
parent_found t n None h = inl h
parent_found t n (Some path) h = parent_at t n path h (ends path)

pub parent_as_rows : (t : Tree) (n : ℕ) (outer : Option Name) → outer ≡ parent_of n t → AsParent t n outer
parent_as_rows t n outer e = rw e (parent_found t n (path_of n t) (path_found t n))

-- ---- sequences

abbrev sequence_from : Tree → Option (List ℕ) → Option (Name × ℕ)
sequence_from t found = option_and_then (λ path. sequence_place (outer_at path t) (last_place path)) found

abbrev AsSequence : Tree → ℕ → Option (Name × ℕ) → Type 0
AsSequence t n place = MatchOption place (HasNoSequence n (program_rows t)) (λ r. HasSequence n r.0.0 r.1 (program_rows t))

in_outer : (t : Tree) (n i : ℕ) (path : List ℕ) (z : ItemValue) (b : Bool) → is_sequence z ≡ b → IsPartAt n i (own_row z path) (program_rows t) → AsSequence t n (if b then Some (name_of (item_name z), i) else None)
in_outer t n i path z true e part = (own_row z path, part, refl, sequence_text z ∙ e)
in_outer t n i path z false e part = inr (own_row z path, i, part, sequence_text z ∙ e)

sequence_at : (t : Tree) (n : ℕ) (path : List ℕ) → Finds t n (program_rows t) path → Ends path → AsSequence t n (sequence_from t (Some path))
sequence_at t n path found (inl e) = rw e (inl (inr (subst (λ (p : List ℕ). HasPath p n (program_rows t)) e (own_text found.item, found.has))))
sequence_at t n path found (inr (outer, i, e)) =
    (let stands = subst (λ (p : List ℕ). tree_at p t ≡ Some found.item) e found.stands in
    let row = subst (λ (p : List ℕ). HasPath p n (program_rows t)) e (own_text found.item, found.has) in
    let (z, at) = outer_stands outer i (OfProgram t) found.item stands in
    rw (e, front-append outer i, at, last_place-append outer i) (in_outer t n i outer z (is_sequence z) refl (is_part t n i outer z at row)))

sequence_found : (t : Tree) (n : ℕ) (found : Option (List ℕ)) → AsPath t n found → AsSequence t n (sequence_from t found)
sequence_found t n None h = inl (inl h)
sequence_found t n (Some path) h = sequence_at t n path h (ends path)

pub sequence_as_rows : (t : Tree) (n : ℕ) (place : Option (Name × ℕ)) → place ≡ sequence_of n t → AsSequence t n place
sequence_as_rows t n place e = rw e (sequence_found t n (path_of n t) (path_found t n))
