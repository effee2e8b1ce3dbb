-- The table of types unfolded, an entry at a time.
use Rattle.std.proofs.Common.{◌≡◌, ℕ, zero, suc, ◌*◌, ◌<◌, ◌≤◌, ◌⊎◌, inl, inr, List, [], ◌∷◌, ◌++◌, map, Option, Some, None, option_map, slice_get, unwrap_or, refl, sym, ap, ◌∙◌, append_assoc, append-nil, arith}
use Rattle.std.proofs.Math.Nat.{le_refl}
use Rattle.std.proofs.lemmas.Bool.{cases_lt}
use Rattle.std.proofs.lemmas.Nat.{mul-le}
use Rattle.core_tree.specs.declared.limits.TheConstants.{MAX_COUNTED_WORDS}
use Rattle.std.proofs.lemmas.List.{map-append}
use Rattle.std.proofs.lemmas.Option.{slice_get-map}
use Rattle.core_tree.specs.declared.shape.Shape.TheVariants as shape
use Rattle.core_tree.specs.declared.shape.WrittenShape.{WrittenShape}
use Rattle.core_tree.specs.declared.shape.WrittenShape.TheVariants as written
use Rattle.core_tree.specs.declared.shape.ShapeEntry.{ShapeEntry}
use Rattle.core_tree.specs.Shapes.{ShapeTree, NoField, RecordOf, HaveWords, counted_words, table_words, tree_at, tree_of, trees_after, trees_of, values_of, words_of, written_tree, written_values}

-- the last entry is unfolded over all before it
trees_append : (ts : List ShapeTree) (es : List ShapeEntry) (e : ShapeEntry) → trees_after ts (es ++ e ∷ []) ≡ trees_after ts es ++ written_tree (trees_after ts es) e.shape ∷ []
trees_append ts [] e = refl
trees_append ts (d ∷ es) e = trees_append (ts ++ written_tree ts d.shape ∷ []) es e

pub words_after : (es : List ShapeEntry) (e : ShapeEntry) → HaveWords es → e.words ≡ counted_words (words_of (written_tree (trees_of es) e.shape)) → HaveWords (es ++ e ∷ [])
words_after es e have is =
    map-append (λ x. x.words) es (e ∷ []) ∙ (ap (λ xs. xs ++ e.words ∷ []) have
    ∙ (ap (λ n. map (λ tree. counted_words (words_of tree)) (trees_of es) ++ n ∷ []) is
    ∙ (sym (map-append (λ tree. counted_words (words_of tree)) (trees_of es) (written_tree (trees_of es) e.shape ∷ []))
    ∙ ap (map (λ tree. counted_words (words_of tree))) (sym (trees_append [] es e)))))

entry_words : (es : List ShapeEntry) (k : ℕ) → HaveWords es → option_map (λ e. e.words) (slice_get es k) ≡ option_map (λ t. counted_words (words_of t)) (slice_get (trees_of es) k)
entry_words es k have =
    sym (slice_get-map (λ e. e.words) es k) ∙ (ap (λ xs. slice_get xs k) have ∙ slice_get-map (λ t. counted_words (words_of t)) (trees_of es) k)

value_of_entry : (ts : List ShapeTree) (s : WrittenShape) → values_of (written_tree ts s) ≡ written_values s
value_of_entry ts (written.Enumeration idents) = refl
value_of_entry ts (written.Subrange host first last) = refl
value_of_entry ts (written.SetOf base) = refl
value_of_entry ts (written.ArrayOf index component) = refl
value_of_entry ts (written.RecordOf fs) = refl
value_of_entry ts (written.Pointer domain) = refl

values_after : (ts : List ShapeTree) (es : List ShapeEntry) → map values_of (trees_after ts es) ≡ map values_of ts ++ map (λ e. written_values e.shape) es
values_after ts [] = sym (append-nil (map values_of ts))
values_after ts (e ∷ es) =
    values_after (ts ++ written_tree ts e.shape ∷ []) es
    ∙ (ap (λ xs. xs ++ map (λ d. written_values d.shape) es) (map-append values_of ts (written_tree ts e.shape ∷ []) ∙ ap (λ n. map values_of ts ++ n ∷ []) (value_of_entry ts e.shape))
    ∙ append_assoc (map values_of ts) (written_values e.shape ∷ []) (map (λ d. written_values d.shape) es))

entry_values : (es : List ShapeEntry) (k : ℕ) → option_map values_of (slice_get (trees_of es) k) ≡ option_map (λ e. written_values e.shape) (slice_get es k)
entry_values es k =
    sym (slice_get-map values_of (trees_of es) k) ∙ (ap (λ xs. slice_get xs k) (values_after [] es) ∙ slice_get-map (λ e. written_values e.shape) es k)

-- a number past the table names a type without values and words
number_by : (f : ShapeTree → ℕ) (tree : Option ShapeTree) (n : ℕ) → f (RecordOf NoField) ≡ 0 → option_map f tree ≡ Some n → n ≡ f (tree_at [] tree)
number_by f None n none is = absurd (grind (arith, is))
number_by f (Some t) n none is = sym (ap (λ o. unwrap_or o 0) is)

none_by : (f : ShapeTree → ℕ) (tree : Option ShapeTree) → f (RecordOf NoField) ≡ 0 → option_map f tree ≡ None → 0 ≡ f (tree_at [] tree)
none_by f None none is = sym none
none_by f (Some t) none is = absurd (grind (arith, is))

pub some_words : (es : List ShapeEntry) (k : ℕ) (e : ShapeEntry) → HaveWords es → slice_get es k ≡ Some e → e.words ≡ counted_words (table_words es (shape.Written k))
some_words es k e have is =
    number_by (λ t. counted_words (words_of t)) (slice_get (trees_of es) k) e.words refl (sym (entry_words es k have) ∙ ap (option_map (λ d. d.words)) is)

pub none_words : (es : List ShapeEntry) (k : ℕ) → HaveWords es → slice_get es k ≡ None → 0 ≡ counted_words (table_words es (shape.Written k))
none_words es k have is =
    none_by (λ t. counted_words (words_of t)) (slice_get (trees_of es) k) refl (sym (entry_words es k have) ∙ ap (option_map (λ d. d.words)) is)

pub some_values : (es : List ShapeEntry) (k : ℕ) (e : ShapeEntry) → slice_get es k ≡ Some e → written_values e.shape ≡ values_of (tree_of (trees_of es) (shape.Written k))
some_values es k e is =
    number_by values_of (slice_get (trees_of es) k) (written_values e.shape) refl (entry_values es k ∙ ap (option_map (λ d. written_values d.shape)) is)

pub none_values : (es : List ShapeEntry) (k : ℕ) → slice_get es k ≡ None → 0 ≡ values_of (tree_of (trees_of es) (shape.Written k))
none_values es k is = none_by values_of (slice_get (trees_of es) k) refl (entry_values es k ∙ ap (option_map (λ d. written_values d.shape)) is)

-- a product whose second factor stopped counting
product_by : (v w : ℕ) → (w < MAX_COUNTED_WORDS) ⊎ (MAX_COUNTED_WORDS ≤ w) → counted_words (suc v * counted_words w) ≡ counted_words (suc v * w)
product_by v w (inl below) = let e : counted_words w ≡ w = omega (arith, below) in ap (λ n. counted_words (suc v * n)) e
product_by v w (inr past) =
    let e : counted_words w ≡ MAX_COUNTED_WORDS = omega (arith, past) in
    let one : 1 ≤ suc v = omega arith in
    let first : MAX_COUNTED_WORDS * 1 ≤ MAX_COUNTED_WORDS * suc v = mul-le MAX_COUNTED_WORDS 1 MAX_COUNTED_WORDS (suc v) (le_refl MAX_COUNTED_WORDS) one in
    let second : 1 * MAX_COUNTED_WORDS ≤ suc v * w = mul-le 1 MAX_COUNTED_WORDS (suc v) w one past in
    ap (λ n. counted_words (suc v * n)) e ∙ omega (arith, first, second)

pub counted_product : (v w : ℕ) → counted_words (v * counted_words w) ≡ counted_words (v * w)
counted_product zero w = grind arith
counted_product (suc v) w = product_by v w (cases_lt w MAX_COUNTED_WORDS)
