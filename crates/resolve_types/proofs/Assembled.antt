-- A core that is built to a program is its table: the headings of the program are those of its routines.
use Rattle.std.proofs.Common.{◌≡◌, ℕ, ◌==◌, Bool, true, false, List, [], ◌∷◌, ◌++◌, cond, map, option_to_list, Option, Some, None, refl, sym, ap, ◌∙◌}
use Rattle.pascal_tree.specs.declared.program.Tree.{Tree as ProgramTree}
use Rattle.check_decl.specs.declared.place.At.{At}
use Rattle.check_decl.specs.declared.place.Owner.{Owner}
use Rattle.check_decl.specs.BlockRules.{owner_of, program_name}
use Rattle.check_rules.specs.declared.entity.RoutineEntity.{RoutineEntity}
use Rattle.check_rules.specs.Regions.{predeclared_region}
use Rattle.std.proofs.lemmas.List.{map-append}
use Rattle.core_tree.specs.declared.form.CoreForm.{CoreForm}
use Rattle.core_tree.specs.declared.form.CoreForm.TheVariants as block
use Rattle.core_tree.specs.declared.form.StatementForm.{StatementForm}
use Rattle.core_tree.specs.declared.program.CoreBlock.{CoreBlock}
use Rattle.core_tree.specs.declared.program.CoreRoutine.{CoreRoutine}
use Rattle.core_tree.specs.declared.shape.ShapeEntry.{ShapeEntry}
use Rattle.core_tree.specs.Control.{RoutineRow, routine_row_of}
use Rattle.core_tree.specs.Lookups.{routine_of}
use Rattle.core_tree.specs.Plain.{Form, Heading, StatementBlock}
use Rattle.core_tree.specs.Shapes.{ShapeTree, tree_of, trees_of}
use Rattle.core_tree.specs.Views as views
use Rattle.core_tree.specs.Views.{IsTableOf, block_row, block_rows, callees_in, form_over, joined_shapes, listed_routines, parts_in, routine_row, shapes_of}
use Rattle.resolve_types.specs.Programs.{AreBuilt, BodyRules, context_of, entered, owner_words, owners_around, region_of, heading_by, headings_in, headings_of, resolved_program, row_over}

-- ---- the headings of routines, by their rows

by_test : (trees : List ShapeTree) (found : Bool) (r : CoreRoutine) (row : Option RoutineRow) (other : Option CoreRoutine)
    → heading_by row ≡ views.heading_by trees other
    → heading_by (cond found (Some (routine_row trees r)) row) ≡ views.heading_by trees (cond found (Some r) other)
by_test trees true r row other same = refl
by_test trees false r row other same = same

heading_same : (trees : List ShapeTree) (rs : List CoreRoutine) (n : ℕ) → headings_in (map (routine_row trees) rs) n ≡ views.heading_by trees (routine_of rs n)
heading_same trees [] n = refl
heading_same trees (r ∷ rs) n =
    by_test trees (r.name.0 == n) r (routine_row_of (map (routine_row trees) rs) n) (routine_of rs n) (heading_same trees rs n)

-- ---- forms with the same headings

maps_same : (f g : ℕ → Heading) → ((n : ℕ) → f n ≡ g n) → (ns : List ℕ) → map f ns ≡ map g ns
maps_same f g same [] = refl
maps_same f g same (n ∷ ns) = ap (λ h. h ∷ map f ns) (same n) ∙ ap (λ hs. g n ∷ hs) (maps_same f g same ns)

abbrev with_headings : List ShapeTree → StatementForm → List Heading → Form
with_headings trees s hs = record {
  level = s.level;
  holds = s.holds;
  op = s.op;
  parts = parts_in s;
  shapes = map (tree_of trees) (option_to_list s.shape ++ joined_shapes (map shapes_of s.parts));
  headings = hs;
}

form_same : (trees : List ShapeTree) (f g : ℕ → Heading) → ((n : ℕ) → f n ≡ g n) → (x : CoreForm) → form_over trees f x ≡ form_over trees g x
form_same trees f g same block.Program = refl
form_same trees f g same (block.Routine r) = refl
form_same trees f g same (block.Statement s) =
    ap (λ hs. StatementBlock (with_headings trees s hs)) (maps_same f g same (callees_in (parts_in s)))

rows_same : (trees : List ShapeTree) (f g : ℕ → Heading) → ((n : ℕ) → f n ≡ g n) → (bs : List CoreBlock) → map (row_over trees f) bs ≡ map (row_over trees g) bs
rows_same trees f g same [] = refl
rows_same trees f g same (b ∷ bs) =
    ap (λ x. record (row_over trees f b) { form = x } ∷ map (row_over trees f) bs) (form_same trees f g same b.form)
    ∙ ap (λ rows. row_over trees g b ∷ rows) (rows_same trees f g same bs)

-- ---- the table

pub built_table : (bodies : BodyRules) (p : ProgramTree) (end : At) (entries : List ShapeEntry) (routines : List CoreRoutine) (blocks : List CoreBlock)
    → AreBuilt bodies p end entries routines blocks → IsTableOf (resolved_program bodies end p) entries routines blocks
built_table bodies p end entries routines blocks built =
    let trees = trees_of entries in
    let none : ℕ → Heading = λ n. heading_by None in
    let here : ℕ → Heading = λ n. views.heading_by trees (routine_of routines n) in
    let same : (n : ℕ) → here n ≡ headings_of bodies end p n = λ n.
    sym (heading_same trees routines n) ∙ ap (λ rows. headings_in rows n) (built.listed none) in
    record {
      blocks_are = rows_same trees here (headings_of bodies end p) same blocks ∙ built.rows (headings_of bodies end p);
      routines_are = built.listed (headings_of bodies end p);
    }

-- ---- contexts

pub context_inside : (end : At) (owner : Owner) (f : RoutineEntity) → context_of end (owner_of f owner) ≡ entered end f (context_of end owner)
context_inside end owner f =
    ap (λ rs. record (entered end f (context_of end owner)) { env = record ((entered end f (context_of end owner)).env) { regions = predeclared_region ∷ (region_of end program_name ∷ rs) }; owners = map (owner_words end) (owners_around (owner_of f owner)) })
    (map-append (region_of end) owner.functions (f.name ∷ []))
    ∙ ap (λ os. record (entered end f (context_of end owner)) { owners = owner_words end program_name ∷ os })
    (map-append (owner_words end) owner.functions (f.name ∷ []))
