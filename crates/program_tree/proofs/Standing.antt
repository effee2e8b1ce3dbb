-- The path of each row leads to an item with the row's name and own text.
use Rattle.std.proofs.Common.{◌≡◌, ℕ, suc, ◌+◌, List, [], ◌∷◌, ◌++◌, Some, map, slice_get, option_and_then, refl, sym, ap, subst, ◌∙◌, add-zero, append-nil, append_assoc, arith}
use Rattle.std.specs.List.{AllByRecursion}
use Rattle.pascal_tree.specs.declared.program.Tree.{Tree}
use Rattle.pascal_tree.specs.Paths.{ItemValue, OfProgram, item_children, item_name, item_at, tree_at}
use Rattle.pascal_tree.specs.Rows.{Row, own_text, rows_from, program_rows}
use Rattle.program_tree.specs.Found.{IsRowOf}
use Rattle.program_tree.proofs.Induction.{tree_has}
use Rattle.program_tree.proofs.Opened.{item_rows, own_row, item_opened}

-- ---- lists

all_mapped : {A : Type 0} → (P Q : A → Type 0) (f : (x : A) → P x → Q x) (xs : List A) → AllByRecursion P xs → AllByRecursion Q xs
all_mapped P Q f [] h = tt
all_mapped P Q f (x ∷ xs) h = (f x h.0, all_mapped P Q f xs h.1)

all_appended : {A : Type 0} → (P : A → Type 0) (xs ys : List A) → AllByRecursion P xs → AllByRecursion P ys → AllByRecursion P (xs ++ ys)
all_appended P [] ys h k = k
all_appended P (x ∷ xs) ys h k = (h.0, all_appended P xs ys h.1 k)

-- ---- rows of an item that stands at a path

pub record IsAt (x : ItemValue) (path : List ℕ) (r : Row) : Type 0 where
  pub rest : List ℕ
  pub item : ItemValue
  pub behind : r.path ≡ path ++ rest
  pub stands : item_at rest x ≡ Some item
  pub name : item_name item ≡ r.name
  pub own : own_text item ≡ r.own

-- the same of one of the items, of which the first stands at this place
pub record IsAmong (xs : List ItemValue) (at : ℕ) (path : List ℕ) (r : Row) : Type 0 where
  pub place : ℕ
  pub rest : List ℕ
  pub item : ItemValue
  pub behind : r.path ≡ path ++ ((at + place) ∷ rest)
  pub stands : option_and_then (item_at rest) (slice_get xs place) ≡ Some item
  pub name : item_name item ≡ r.name
  pub own : own_text item ≡ r.own

abbrev Proper : ItemValue → Type 0
Proper x = (path : List ℕ) → AllByRecursion (IsAt x path) (item_rows x path)

first_among : (x : ItemValue) (xs : List ItemValue) (at : ℕ) (path : List ℕ) (r : Row) → IsAt x (path ++ (at ∷ [])) r → IsAmong (x ∷ xs) at path r
first_among x xs at path r h = record {
  place = 0;
  rest = h.rest;
  item = h.item;
  behind = h.behind ∙ (append_assoc path (at ∷ []) h.rest ∙ ap (λ (n : ℕ). path ++ (n ∷ h.rest)) (sym (add-zero at)));
  stands = h.stands;
  name = h.name;
  own = h.own;
}

later_among : (x : ItemValue) (xs : List ItemValue) (at : ℕ) (path : List ℕ) (r : Row) → IsAmong xs (at + 1) path r → IsAmong (x ∷ xs) at path r
later_among x xs at path r h = record {
  place = suc h.place;
  rest = h.rest;
  item = h.item;
  behind = (let e : at + 1 + h.place ≡ at + suc h.place = omega arith in h.behind ∙ ap (λ (n : ℕ). path ++ (n ∷ h.rest)) e);
  stands = h.stands;
  name = h.name;
  own = h.own;
}

among : (xs : List ItemValue) (at : ℕ) (path : List ℕ) → AllByRecursion Proper xs → AllByRecursion (IsAmong xs at path) (rows_from at (map item_rows xs) path)
among [] at path h = tt
among (x ∷ xs) at path h =
    all_appended (IsAmong (x ∷ xs) at path) (item_rows x (path ++ (at ∷ []))) (rows_from (at + 1) (map item_rows xs) path)
    (all_mapped (IsAt x (path ++ (at ∷ []))) (IsAmong (x ∷ xs) at path) (first_among x xs at path) _ (h.0 (path ++ (at ∷ []))))
    (all_mapped (IsAmong xs (at + 1) path) (IsAmong (x ∷ xs) at path) (later_among x xs at path) _ (among xs (at + 1) path h.1))

in_part : (x : ItemValue) (path : List ℕ) (r : Row) → IsAmong (item_children x) 0 path r → IsAt x path r
in_part x path r h = record {
  rest = h.place ∷ h.rest;
  item = h.item;
  behind = (let e : 0 + h.place ≡ h.place = omega arith in h.behind ∙ ap (λ (n : ℕ). path ++ (n ∷ h.rest)) e);
  stands = h.stands;
  name = h.name;
  own = h.own;
}

itself : (x : ItemValue) (path : List ℕ) → IsAt x path (own_row x path)
itself x path = record {
  rest = [];
  item = x;
  behind = sym (append-nil path);
  stands = refl;
  name = refl;
  own = refl;
}

by_parts : (x : ItemValue) → AllByRecursion Proper (item_children x) → Proper x
by_parts x h path =
    subst (λ (rows : List Row). AllByRecursion (IsAt x path) rows) (sym (item_opened x path))
    (itself x path, all_mapped (IsAmong (item_children x) 0 path) (IsAt x path) (in_part x path) _ (among (item_children x) 0 path h))

-- ---- programs

of_tree : (t : Tree) (r : Row) → IsAt (OfProgram t) [] r → IsRowOf t r
of_tree t r h = record {
  item = h.item;
  stands = subst (λ (path : List ℕ). tree_at path t ≡ Some h.item) (sym h.behind) h.stands;
  name = h.name;
  own = h.own;
}

pub rows_stand : (t : Tree) → AllByRecursion (IsRowOf t) (program_rows t)
rows_stand t = all_mapped (IsAt (OfProgram t) []) (IsRowOf t) (of_tree t) (program_rows t) (tree_has Proper by_parts t [])
