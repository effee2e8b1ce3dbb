-- Where links lead: over the lists of a core as over its table.
use Rattle.std.proofs.Common.{◌≡◌, ℕ, ◌==◌, Bool, true, false, cond, List, [], ◌∷◌, map, Option, Some, None, option_map, find, slice_get, refl, sym, ap, ◌∙◌}
use Rattle.std.proofs.lemmas.Option.{slice_get-map}
use Rattle.dice_base.specs.declared.name.Name.{Name}
use Rattle.dice_base.specs.declared.link.LinkTo.{LinkTo}
use Rattle.dice_base.specs.declared.link.LinkTo.TheVariants as to
use Rattle.core_tree.specs.declared.form.CoreForm.{CoreForm}
use Rattle.core_tree.specs.declared.form.CoreForm.TheVariants as form
use Rattle.core_tree.specs.declared.program.CoreBlock.{CoreBlock}
use Rattle.core_tree.specs.declared.program.CoreLabel.{CoreLabel}
use Rattle.core_tree.specs.declared.program.CoreRoutine.{CoreRoutine}
use Rattle.core_tree.specs.declared.program.LinkEnd.TheVariants as link
use Rattle.core_tree.specs.declared.shape.ShapeEntry.{ShapeEntry}
use Rattle.core_tree.specs.Control.{call_end, end_by, form_end, core_rows, end_of, label_end, labels_by, name_of, routine_row_of, row_of}
use Rattle.core_tree.specs.Lookups.{block_of, call_link, core_labels, form_link, label_link, link_by, link_in, link_of, routine_of}
use Rattle.core_tree.specs.Charge.{charge_of, holds_of, need_of}
use Rattle.core_tree.specs.Plain.{Heading, Routine}
use Rattle.core_tree.specs.Shapes.{ShapeTree, trees_of}
use Rattle.core_tree.specs.Views.{IsTableOf, bare_form, program_end, block_row, block_rows, core_end, form_over, label_row, routine_row, listed_routines}

by_test : {A B : Type 0} (f : A → B) (b : Bool) (x : A) (r : Option A) (s : Option B) → s ≡ option_map f r → cond b (Some (f x)) s ≡ option_map f (cond b (Some x) r)
by_test f true x r s same = refl
by_test f false x r s same = same

-- the first that passes a test, in a list that is mapped
find_map : {A B : Type 0} (f : A → B) (p : B → Bool) (xs : List A) → find p (map f xs) ≡ option_map f (find (λ x. p (f x)) xs)
find_map f p [] = refl
find_map f p (x ∷ xs) = by_test f (p (f x)) x (find (λ y. p (f y)) xs) (find p (map f xs)) (find_map f p xs)

pub row_of_block : (trees : List ShapeTree) (routines : List CoreRoutine) (blocks : List CoreBlock) (n : ℕ) → row_of (map (block_row trees routines) blocks) n ≡ option_map (block_row trees routines) (block_of blocks n)
row_of_block trees routines blocks n = find_map (block_row trees routines) (λ r. r.name == n) blocks

row_of_routine : (trees : List ShapeTree) (routines : List CoreRoutine) (n : ℕ) → routine_row_of (map (routine_row trees) routines) n ≡ option_map (routine_row trees) (routine_of routines n)
row_of_routine trees routines n = find_map (routine_row trees) (λ r. r.head.name == n) routines

label_by : (o : Option CoreLabel) → option_map (λ x. link.Gate (name_of x.entry)) (option_map label_row o) ≡ option_map (λ x. link.Gate x.entry) o
label_by None = refl
label_by (Some x) = refl

label_agrees : (labels : List CoreLabel) (l : ℕ) → label_end (map label_row labels) l ≡ label_link labels l
label_agrees labels l =
    ap (option_map (λ x. link.Gate (name_of x.entry))) (find_map label_row (λ x. x.label == l) labels) ∙ label_by (find (λ x. x.label == l) labels)

labels_agree : (trees : List ShapeTree) (o : Option CoreRoutine) → labels_by (option_map (routine_row trees) o) ≡ map label_row (core_labels o)
labels_agree trees None = refl
labels_agree trees (Some r) = refl

form_agrees : (trees : List ShapeTree) (headings : ℕ → Heading) (n : Name) (f : CoreForm) → form_end n.0 (form_over trees headings f) ≡ form_link n f
form_agrees trees headings n form.Program = refl
form_agrees trees headings n (form.Routine r) = refl
form_agrees trees headings n (form.Statement s) = refl

call_agrees : (trees : List ShapeTree) (routines : List CoreRoutine) (n : Name) (o : Option CoreBlock) → call_end n.0 (option_map (block_row trees routines) o) ≡ call_link n o
call_agrees trees routines n None = refl
call_agrees trees routines n (Some b) = form_agrees trees _ n b.form

entry_by : (o : Option Name) → option_map (λ n. link.Gate (name_of n)) (option_map (λ n. n.0) o) ≡ option_map (λ n. link.Gate n) o
entry_by None = refl
entry_by (Some n) = refl

in_agrees : (trees : List ShapeTree) (routines : List CoreRoutine) (blocks : List CoreBlock) (b : CoreBlock) (way : LinkTo)
    → end_by (map (block_row trees routines) blocks) (map (routine_row trees) routines) (Some (block_row trees routines b)) way ≡ link_in blocks routines b way
in_agrees trees routines blocks b to.Next = refl
in_agrees trees routines blocks b (to.Child k) = ap (option_map (λ n. link.Gate (name_of n))) (slice_get-map (λ n. n.0) b.entries k) ∙ entry_by (slice_get b.entries k)
in_agrees trees routines blocks b (to.Label l) =
    ap (λ o. label_end (labels_by o) l) (row_of_routine trees routines b.routine.0)
    ∙ (ap (λ labels. label_end labels l) (labels_agree trees (routine_of routines b.routine.0)) ∙ label_agrees (core_labels (routine_of routines b.routine.0)) l)
in_agrees trees routines blocks b (to.Routine r) = ap (call_end r.0) (row_of_block trees routines blocks r.0) ∙ call_agrees trees routines r (block_of blocks r.0)

by_agrees : (trees : List ShapeTree) (routines : List CoreRoutine) (blocks : List CoreBlock) (o : Option CoreBlock) (way : LinkTo)
    → end_by (map (block_row trees routines) blocks) (map (routine_row trees) routines) (option_map (block_row trees routines) o) way ≡ link_by blocks routines o way
by_agrees trees routines blocks None way = refl
by_agrees trees routines blocks (Some b) way = in_agrees trees routines blocks b way

pub link_agrees : (entries : List ShapeEntry) (routines : List CoreRoutine) (blocks : List CoreBlock) (n : ℕ) (way : LinkTo) → link_of blocks routines n way ≡ core_end entries routines blocks n way
link_agrees entries routines blocks n way =
    sym (ap (λ o. end_by (block_rows entries routines blocks) (listed_routines entries routines) o way) (row_of_block (trees_of entries) routines blocks n)
    ∙ by_agrees (trees_of entries) routines blocks (block_of blocks n) way)

pub program_links : (program : Routine) (entries : List ShapeEntry) (routines : List CoreRoutine) (blocks : List CoreBlock) (n : ℕ) (way : LinkTo)
    → IsTableOf program entries routines blocks → core_end entries routines blocks n way ≡ program_end program n way
program_links program entries routines blocks n way is =
    ap (λ rows. end_of rows (listed_routines entries routines) n way) is.blocks_are ∙ ap (λ rs. end_of (core_rows program) rs n way) is.routines_are

pub charge_over : (trees : List ShapeTree) (headings : ℕ → Heading) (f : CoreForm) → charge_of (form_over trees headings f) ≡ charge_of (bare_form f)
charge_over trees headings form.Program = refl
charge_over trees headings (form.Routine r) = refl
charge_over trees headings (form.Statement s) = refl

pub need_over : (trees : List ShapeTree) (headings : ℕ → Heading) (f : CoreForm) → need_of (form_over trees headings f) ≡ need_of (bare_form f)
need_over trees headings form.Program = refl
need_over trees headings (form.Routine r) = refl
need_over trees headings (form.Statement s) = refl

pub holds_over : (trees : List ShapeTree) (headings : ℕ → Heading) (f : CoreForm) → holds_of (form_over trees headings f) ≡ holds_of (bare_form f)
holds_over trees headings form.Program = refl
holds_over trees headings (form.Routine r) = refl
holds_over trees headings (form.Statement s) = refl
