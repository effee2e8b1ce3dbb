-- What is found by a name is what the rows say.
use Rattle.std.proofs.Common.{◌≡◌, ◌≢◌, ℕ, List, [], ◌∷◌, Option, Some, None, Bool, true, false, map, nat_eq, option_map, option_and_then, refl, sym, ap, subst, ◌∙◌, arith, Contains, MatchOption, option_copied, Bor}
use Rattle.std.specs.List.{AllByRecursion}
use Rattle.std.proofs.lemmas.Bool.Decides.{nat_tests}
use Rattle.std.proofs.lemmas.List.Elements.{Contains-append_right}
use Rattle.pascal_tree.specs.declared.program.Tree.{Tree}
use Rattle.dice_base.specs.Tokens.{Toks}
use Rattle.program_tree.specs.declared.item.Item.{Item}
use Rattle.pascal_tree.specs.Paths.{ItemValue, tree_at, item_name}
use Rattle.pascal_tree.specs.Rows.{Row, own_text, program_rows}
use Rattle.program_tree.specs.Entries.{entry_of, entries_of, path_in}
use Rattle.program_tree.specs.Found.{IsRowOf, HasNoRow, HasPath, HasRow}
use Rattle.program_tree.specs.Lookups.{item_named, item_value}
use Rattle.program_tree.specs.Search.{path_of}
use Rattle.program_tree.proofs.Contained.{contains_first}
use Rattle.program_tree.proofs.Standing.{rows_stand}
use Rattle.program_tree.proofs.TreeSearch.{path_in_entries, path_in_first, path_in_later}

same_if : (m n : ℕ) → nat_eq m n ≡ true → m ≡ n
same_if m n h = grind (arith, nat_tests)

apart_if : (m n : ℕ) → nat_eq m n ≡ false → m ≢ n
apart_if m n h = λ (same : m ≡ n). grind (arith, nat_tests)

match_later : {A : Type 0} → (o : Option A) (P Q : Type 0) (R S : A → Type 0) → (P → Q) → ((x : A) → R x → S x) → MatchOption o P R → MatchOption o Q S
match_later None P Q R S f g h = f h
match_later (Some x) P Q R S f g h = g x h

-- ---- the path of a row with the name, and the item there

pub record Finds (t : Tree) (n : ℕ) (rows : List Row) (path : List ℕ) : Type 0 where
  pub item : ItemValue
  pub stands : tree_at path t ≡ Some item
  pub named : item_name item ≡ n
  pub has : Contains rows (record { path = path; name = n; own = own_text item })

finds_first : (t : Tree) (n : ℕ) (r : Row) (rs : List Row) → r.name ≡ n → IsRowOf t r → Finds t n (r ∷ rs) r.path
finds_first t n r rs e h =
    (let row : ℕ → Toks → Row = λ m text. record { path = r.path; name = m; own = text } in
    let same : r ≡ row n (own_text h.item) = ap (λ (m : ℕ). row m r.own) e ∙ ap (λ (text : Toks). row n text) (sym h.own) in
    record { item = h.item; stands = h.stands; named = h.name ∙ e; has = subst (λ (x : Row). Contains (r ∷ rs) x) same (contains_first r rs) })

finds_later : (t : Tree) (n : ℕ) (r : Row) (rs : List Row) (path : List ℕ) → Finds t n rs path → Finds t n (r ∷ rs) path
finds_later t n r rs path h = record { item = h.item; stands = h.stands; named = h.named; has = Contains-append_right (r ∷ []) rs _ h.has }

abbrev Leads : Tree → ℕ → List Row → Type 0
Leads t n rows = MatchOption (path_in n (map entry_of rows)) (HasNoRow n rows) (Finds t n rows)

leads_on : (t : Tree) (n : ℕ) (r : Row) (rs : List Row) (b : Bool) → nat_eq r.name n ≡ b → IsRowOf t r → Leads t n rs → Leads t n (r ∷ rs)
leads_on t n r rs true e h tail = rw (path_in_first n (entry_of r) (map entry_of rs) e) (finds_first t n r rs (same_if r.name n e) h)
leads_on t n r rs false e h tail =
    rw (path_in_later n (entry_of r) (map entry_of rs) e)
    (match_later _ (HasNoRow n rs) (HasNoRow n (r ∷ rs)) (Finds t n rs) (Finds t n (r ∷ rs)) (λ none. (apart_if r.name n e, none)) (finds_later t n r rs) tail)

leads : (t : Tree) (n : ℕ) (rows : List Row) → AllByRecursion (IsRowOf t) rows → Leads t n rows
leads t n [] h = tt
leads t n (r ∷ rs) h = leads_on t n r rs (nat_eq r.name n) refl h.0 (leads t n rs h.1)

-- ---- in the whole program

abbrev pub AsPath : Tree → ℕ → Option (List ℕ) → Type 0
AsPath t n found = MatchOption found (HasNoRow n (program_rows t)) (Finds t n (program_rows t))

pub path_found : (t : Tree) (n : ℕ) → AsPath t n (path_of n t)
path_found t n = subst (AsPath t n) (path_in_entries n t) (leads t n (program_rows t) (rows_stand t))

item_found : (t : Tree) (n : ℕ) (found : Option (List ℕ)) → AsPath t n found → MatchOption (option_and_then (λ path. tree_at path t) found) (HasNoRow n (program_rows t)) (λ x. HasRow n (own_text x) (program_rows t))
item_found t n None h = h
item_found t n (Some path) h = rw h.stands (path, h.has)

of_item : (o : Option Item) (P : Type 0) (R : ItemValue → Type 0) → MatchOption (option_map item_value o) P R → MatchOption o P (λ x. R (item_value x))
of_item None P R h = h
of_item (Some x) P R h = h

pub found_as_rows : (t : Tree) (n : ℕ) (o : Option Item) → option_map item_value o ≡ item_named n t → MatchOption o (HasNoRow n (program_rows t)) (λ x. HasRow n (own_text (item_value x)) (program_rows t))
found_as_rows t n o e = of_item o (HasNoRow n (program_rows t)) (λ x. HasRow n (own_text x) (program_rows t)) (rw e (item_found t n (path_of n t) (path_found t n)))

-- ---- the path itself, behind a reference

of_path : (o : Option (Bor (List ℕ))) (P : Type 0) (R : List ℕ → Type 0) → MatchOption (option_copied o) P R → MatchOption o P (λ path. R path.now)
of_path None P R h = h
of_path (Some path) P R h = h

path_row : (t : Tree) (n : ℕ) (found : Option (List ℕ)) → AsPath t n found → MatchOption found (HasNoRow n (program_rows t)) (λ path. HasPath path n (program_rows t))
path_row t n None h = h
path_row t n (Some path) h = (own_text h.item, h.has)

pub path_as_rows : (t : Tree) (n : ℕ) (o : Option (Bor (List ℕ))) → option_copied o ≡ path_of n t → MatchOption o (HasNoRow n (program_rows t)) (λ path. HasPath path.now n (program_rows t))
path_as_rows t n o e = of_path o (HasNoRow n (program_rows t)) (λ path. HasPath path n (program_rows t)) (rw e (path_row t n (path_of n t) (path_found t n)))
