-- How parameters are taken, from the entries of the table, and the own forms of routines.
use Rattle.std.proofs.Common.{◌≡◌, arith, ℕ, zero, suc, ◌+◌, Bool, List, [], ◌∷◌, ◌++◌, map, Option, Some, None, option_map, slice_get, is_some, unwrap_or, refl, sym, ap, ◌∙◌, append_assoc, append-nil}
use Rattle.std.proofs.lemmas.List.{map-append}
use Rattle.std.proofs.lemmas.Option.{slice_get-map}
use Rattle.core_tree.specs.declared.form.CoreForm.TheVariants as block
use Rattle.core_tree.specs.declared.form.RoutineForm.{RoutineForm}
use Rattle.core_tree.specs.declared.form.Parameter.{Parameter}
use Rattle.core_tree.specs.declared.form.Parameter.TheVariants as parameter
use Rattle.core_tree.specs.declared.shape.Shape.{Shape}
use Rattle.core_tree.specs.declared.shape.Shape.TheVariants as shape
use Rattle.core_tree.specs.declared.shape.WrittenShape.{WrittenShape}
use Rattle.core_tree.specs.declared.shape.WrittenShape.TheVariants as written
use Rattle.core_tree.specs.declared.shape.ShapeEntry.{ShapeEntry}
use Rattle.core_tree.specs.declared.program.CoreRoutine.{CoreRoutine}
use Rattle.core_tree.specs.declared.program.CoreVariable.{CoreVariable}
use Rattle.core_tree.specs.declared.program.HeadingParameter.{HeadingParameter}
use Rattle.core_tree.specs.Shapes.{ShapeTree, Integer, Boolean, Char, Enumeration, Subrange, SetOf, ArrayOf, RecordOf, Pointer, counted_words, table_words, tree_at, tree_of, trees_after, trees_of, words_of, written_tree}
use Rattle.core_tree.specs.Plain.{Heading, Head, value_parameter, parameter_of, locals_words, has_result, routine_form, form_at, head_form, RoutineBlock}
use Rattle.core_tree.specs.Views.{form_over, head_over}
use Rattle.resolve_types.specs.Forms.{parameter_over, variables_words, written_parameter}

-- how a value parameter of a type is taken, if a value takes so many words
abbrev parameter_with : ℕ → ShapeTree → Parameter
parameter_with words (SetOf base) = parameter.Set
parameter_with words (ArrayOf index component) = parameter.Structure words
parameter_with words (RecordOf fields) = parameter.Structure words
parameter_with words tree = parameter.Scalar

with_its_words : (tree : ShapeTree) → parameter_with (counted_words (words_of tree)) tree ≡ value_parameter tree
with_its_words Integer = refl
with_its_words Boolean = refl
with_its_words Char = refl
with_its_words (Enumeration idents) = refl
with_its_words (Subrange host first last) = refl
with_its_words (SetOf base) = refl
with_its_words (ArrayOf index component) = refl
with_its_words (RecordOf fields) = refl
with_its_words (Pointer domain) = refl

of_entry : (n : ℕ) (ts : List ShapeTree) (s : WrittenShape) → parameter_with n (written_tree ts s) ≡ written_parameter n s
of_entry n ts (written.Enumeration idents) = refl
of_entry n ts (written.Subrange host first last) = refl
of_entry n ts (written.SetOf base) = refl
of_entry n ts (written.ArrayOf index component) = refl
of_entry n ts (written.RecordOf fs) = refl
of_entry n ts (written.Pointer domain) = refl

taken_after : (n : ℕ) (ts : List ShapeTree) (es : List ShapeEntry) → map (parameter_with n) (trees_after ts es) ≡ map (parameter_with n) ts ++ map (λ e. written_parameter n e.shape) es
taken_after n ts [] = sym (append-nil (map (parameter_with n) ts))
taken_after n ts (e ∷ es) =
    taken_after n (ts ++ written_tree ts e.shape ∷ []) es
    ∙ (ap (λ xs. xs ++ map (λ d. written_parameter n d.shape) es) (map-append (parameter_with n) ts (written_tree ts e.shape ∷ []) ∙ ap (λ p. map (parameter_with n) ts ++ p ∷ []) (of_entry n ts e.shape))
    ∙ append_assoc (map (parameter_with n) ts) (written_parameter n e.shape ∷ []) (map (λ d. written_parameter n d.shape) es))

entry_taken : (n : ℕ) (es : List ShapeEntry) (k : ℕ) → option_map (parameter_with n) (slice_get (trees_of es) k) ≡ option_map (λ e. written_parameter n e.shape) (slice_get es k)
entry_taken n es k =
    sym (slice_get-map (parameter_with n) (trees_of es) k) ∙ (ap (λ xs. slice_get xs k) (taken_after n [] es) ∙ slice_get-map (λ e. written_parameter n e.shape) es k)

some_taken : (n : ℕ) (tree : Option ShapeTree) (p : Parameter) → option_map (parameter_with n) tree ≡ Some p → p ≡ parameter_with n (tree_at [] tree)
some_taken n None p is = absurd (grind (arith, is))
some_taken n (Some t) p is = sym (ap (λ o. unwrap_or o p) is)

none_taken : (tree : Option ShapeTree) → option_map (parameter_with 0) tree ≡ None → parameter.Structure 0 ≡ value_parameter (tree_at [] tree)
none_taken None is = refl
none_taken (Some t) is = absurd (grind (arith, is))

pub some_parameter : (es : List ShapeEntry) (k : ℕ) (e : ShapeEntry) → slice_get es k ≡ Some e → written_parameter (counted_words (table_words es (shape.Written k))) e.shape ≡ value_parameter (tree_of (trees_of es) (shape.Written k))
some_parameter es k e is =
    let n = counted_words (table_words es (shape.Written k)) in
    some_taken n (slice_get (trees_of es) k) (written_parameter n e.shape) (entry_taken n es k ∙ ap (option_map (λ d. written_parameter n d.shape)) is)
    ∙ with_its_words (tree_of (trees_of es) (shape.Written k))

pub no_parameter : (es : List ShapeEntry) (k : ℕ) → slice_get es k ≡ None → parameter.Structure 0 ≡ value_parameter (tree_of (trees_of es) (shape.Written k))
no_parameter es k is =
    none_taken (slice_get (trees_of es) k) (entry_taken 0 es k ∙ ap (option_map (λ d. written_parameter 0 d.shape)) is)

-- ---- the own form of a routine

parameters_are : (trees : List ShapeTree) (ps : List HeadingParameter) → map (parameter_over trees) ps ≡ map parameter_of (map (λ p. record { ident = p.ident; by_place = p.by_place; shape = tree_of trees p.shape }) ps)
parameters_are trees [] = refl
parameters_are trees (p ∷ ps) = ap (λ xs. parameter_over trees p ∷ xs) (parameters_are trees ps)

words_are : (trees : List ShapeTree) (vs : List CoreVariable) → variables_words trees vs ≡ locals_words (map (λ v. record { ident = v.ident; shape = tree_of trees v.shape }) vs)
words_are trees [] = refl
words_are trees (v ∷ vs) = ap (λ n. words_of (tree_of trees v.shape) + n) (words_are trees vs)

result_is : (trees : List ShapeTree) (s : Option Shape) → is_some s ≡ has_result (option_map (tree_of trees) s)
result_is trees None = refl
result_is trees (Some s) = refl

pub routine_is : (trees : List ShapeTree) (r : CoreRoutine) (ps : List Parameter) (function : Bool) (words : ℕ)
    → ps ≡ map (parameter_over trees) r.heading.parameters → function ≡ is_some r.heading.result → words ≡ counted_words (variables_words trees r.variables)
    → record { level = r.level; parameters = ps; function = function; local_words = words } ≡ routine_form (head_over trees r)
routine_is trees r ps function words is has counted =
    ap (λ xs. record { level = r.level; parameters = xs; function = function; local_words = words }) (is ∙ parameters_are trees r.heading.parameters)
    ∙ (ap (λ b. record { level = r.level; parameters = (routine_form (head_over trees r)).parameters; function = b; local_words = words }) (has ∙ result_is trees r.heading.result)
    ∙ ap (λ n. record { level = r.level; parameters = (routine_form (head_over trees r)).parameters; function = (routine_form (head_over trees r)).function; local_words = n }) (counted ∙ ap counted_words (words_are trees r.variables)))

pub program_is : (trees : List ShapeTree) (headings : ℕ → Heading) (r : CoreRoutine) → r.level ≡ 0 → form_over trees headings block.Program ≡ head_form (head_over trees r)
program_is trees headings r is = sym (ap (λ n. form_at n (head_over trees r)) is)

at_level : (n : ℕ) (h : Head) → ¬ (n ≡ 0) → RoutineBlock (routine_form h) ≡ form_at n h
at_level zero h is = absurd (is refl)
at_level (suc n) h is = refl

pub inner_is : (trees : List ShapeTree) (headings : ℕ → Heading) (r : CoreRoutine) (f : RoutineForm) → ¬ (r.level ≡ 0) → f ≡ routine_form (head_over trees r) → form_over trees headings (block.Routine f) ≡ head_form (head_over trees r)
inner_is trees headings r f is form = ap RoutineBlock form ∙ at_level r.level (head_over trees r) is
