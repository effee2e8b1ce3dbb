-- A routine or the program by itself, in the lists.
use Rattle.std.proofs.Common.{◌≡◌, ◌≤◌, ◌<◌, ℕ, zero, suc, min, List, [], ◌∷◌, ◌++◌, map, Option, Some, None, Result, Ok, Err, refl, ap, sym, subst, ◌∙◌, arith}
use Rattle.std.proofs.lemmas.List.{map-append}
use Rattle.dice_base.specs.declared.name.Name.{Name}
use Rattle.pascal_tree.specs.declared.stmt.Stmt.{Stmt}
use Rattle.check_rules.specs.declared.fault.CheckEnd.{CheckEnd}
use Rattle.check_rules.specs.declared.fault.CheckEnd.TheVariants as the_end
use Rattle.check_rules.specs.declared.fault.SizeFault.{SizeFault}
use Rattle.check_rules.specs.declared.fault.SizeFault.TheVariants as size
use Rattle.check_rules.specs.declared.entity.RoutineEntity.{RoutineEntity}
use Rattle.check_rules.specs.Typing.{Text}
use Rattle.check_decl.specs.declared.place.At.{At}
use Rattle.core_tree.specs.declared.form.CoreForm.{CoreForm}
use Rattle.core_tree.specs.declared.form.CoreForm.TheVariants as block
use Rattle.core_tree.specs.declared.program.CoreBlock.{CoreBlock}
use Rattle.core_tree.specs.declared.program.CoreRoutine.{CoreRoutine}
use Rattle.core_tree.specs.declared.program.LinkEnd.{LinkEnd}
use Rattle.core_tree.specs.declared.program.LinkEnd.TheVariants as link
use Rattle.core_tree.specs.Charge.{charge_of, counted_charge}
use Rattle.core_tree.specs.Control.{after_body, entry_of, head_row, labels_of, link_flow, name_of}
use Rattle.core_tree.specs.Plain.{BlockForm, ProgramBlock, RoutineBlock, StatementBlock, Head, Heading, form_at, head_form}
use Rattle.core_tree.specs.Shapes.{ShapeTree}
use Rattle.core_tree.specs.Views.{bare_form, form_over, head_over, routine_row}
use Rattle.resolve_expr.specs.declared.context.Context.{Context}
use Rattle.resolve_expr.specs.declared.context.TheConstants.{MAX_BLOCK_WORDS}
use Rattle.resolve_types.specs.Programs.{core_routine, head_of}
use Rattle.resolve_statements.specs.declared.place.Place.{Place}
use Rattle.resolve_statements.specs.Bodies.{statement_of}
use Rattle.resolve_statements.specs.Sizes.{ArePushed, Pushed, first_of, first_size, form_fault}
use Rattle.resolve_statements.specs.Tables.{BeginsAt, row_over, rows_of}
use Rattle.resolve_statements.proofs.Pushing.{fits, passes}
use Rattle.check_program.specs.declared.lists.Lists.{Lists}
use Rattle.check_program.specs.Resolution.{Adds, Headings, IsOwnBlock, IsOwnForm, IsOwnRow, body_place, own_listed, own_rows, trees_in}

-- ---- the place of a body

finishes : (n : ℕ) (h : Head) (m : Name) → n ≡ 0 → after_body LinkEnd (Option ℕ) link_flow (form_at n h) m.0 ≡ link.Finish
finishes zero h m e = refl
finishes (suc n) h m e = let never : ⊥ = omega (arith, e) in absurd never

leaves : (n : ℕ) (h : Head) (m : Name) → 0 < n → after_body LinkEnd (Option ℕ) link_flow (form_at n h) m.0 ≡ link.Leave m
leaves zero h m e = let never : ⊥ = omega (arith, e) in absurd never
leaves (suc n) h m e = refl

abbrev place_at : RoutineEntity → LinkEnd → Place
place_at f after = record { routine = f.name; after = after; around = None }

pub after_program : (end : At) (x : Text) (f : RoutineEntity) → f.level ≡ 0 → link.Finish ≡ (body_place end x f).after
after_program end x f e = sym (finishes (min 255 f.level) (head_of end x f) f.name (omega (arith, e)))

above : (n : ℕ) → (n ≡ 0 → ⊥) → 0 < n
above zero e = absurd (e refl)
above (suc n) e = omega arith

pub after_routine : (end : At) (x : Text) (f : RoutineEntity) → (f.level ≡ 0 → ⊥) → link.Leave f.name ≡ (body_place end x f).after
after_routine end x f e =
    let level = above f.level e in
    sym (leaves (min 255 f.level) (head_of end x f) f.name (omega (arith, level)))

pub place_is : (end : At) (x : Text) (f : RoutineEntity) (after : LinkEnd) → after ≡ (body_place end x f).after → place_at f after ≡ body_place end x f
place_is end x f after e = ap (λ a. place_at f a) e

-- ---- the limits of an own block

pub own_long : (n : Name) (g : CoreForm) (w : ℕ) → IsOwnForm g → w ≡ counted_charge (charge_of (bare_form g)) → MAX_BLOCK_WORDS < w
    → Some (size.BlockTooLong n w) ≡ form_fault n (bare_form g)
own_long n block.Program w own is past = let never : ⊥ = omega (arith, is, past) in absurd never
own_long n (block.Routine r) w own is past =
    let c = charge_of (RoutineBlock r) in
    ap (λ k. Some (size.BlockTooLong n k)) is
    ∙ sym (ap (λ o. first_of o None) (passes c MAX_BLOCK_WORDS (size.BlockTooLong n (counted_charge c)) (omega (arith, is, past))))
own_long n (block.Statement s) w own is past = absurd own

pub own_short : (n : Name) (g : CoreForm) (w : ℕ) → IsOwnForm g → w ≡ counted_charge (charge_of (bare_form g)) → w ≤ MAX_BLOCK_WORDS
    → None ≡ form_fault n (bare_form g)
own_short n block.Program w own is short = refl
own_short n (block.Routine r) w own is short =
    let c = charge_of (RoutineBlock r) in
    sym (ap (λ o. first_of o None) (fits c MAX_BLOCK_WORDS (size.BlockTooLong n (counted_charge c)) (omega (arith, is, short))))
own_short n (block.Statement s) w own is short = absurd own

-- ---- its form

abbrev pub no_heading : Headings
no_heading n = record { parameters = []; result = None }

abbrev NotStatement : BlockForm → Type 0
NotStatement (StatementBlock f) = ⊥
NotStatement form = Unit {0}

at_level : (n : ℕ) (h : Head) → NotStatement (form_at n h)
at_level zero h = tt
at_level (suc n) h = tt

own_by : (trees : List ShapeTree) (g : CoreForm) → NotStatement (form_over trees no_heading g) → IsOwnForm g
own_by trees block.Program other = tt
own_by trees (block.Routine r) other = tt
own_by trees (block.Statement s) other = other

pub own_form : (trees : List ShapeTree) (g : CoreForm) (head : Head) → form_over trees no_heading g ≡ head_form head → IsOwnForm g
own_form trees g head e = own_by trees g (subst (λ b. NotStatement b) (sym e) (at_level head.level head))

pub bare_own : (trees : List ShapeTree) (h : Headings) (g : CoreForm) → IsOwnForm g → bare_form g ≡ form_over trees h g
bare_own trees h block.Program own = refl
bare_own trees h (block.Routine r) own = refl
bare_own trees h (block.Statement s) own = absurd own

-- ---- in the lists

abbrev OfUnit : Type 0
OfUnit = Unit {0}

pub own_block_is : (r : Result CoreBlock CheckEnd) (seen : List ShapeTree) (row : CoreRoutine) (end : At) (owner : Name) (x : Text) (f : RoutineEntity) (s : Stmt)
    → seen ≡ trees_in end → IsOwnRow row end owner x f s → IsOwnBlock r seen (head_over seen row) s → IsOwnBlock r (trees_in end) (head_of end x f) s
own_block_is r seen row end owner x f s same is h =
    subst (λ q. IsOwnBlock r (trees_in end) (head_over (trees_in end) q) s) is.is
    (subst (λ t. IsOwnBlock r t (head_over t row) s) same h)

pub own_ended : {U : Type 0} (e : CheckEnd) (end : At) (old new : Lists) (owner : Name) (x : Text) (f : RoutineEntity) (s : Stmt) (c : Context)
    → IsOwnBlock (Err e) (trees_in end) (head_of end x f) s → Adds {U = U} (Err e) end old new (own_listed end owner x f s c) (own_rows end x f s c)
own_ended (the_end.Size z) end old new owner x f s c is = record {
  routines = λ h. tt;
  blocks = λ h. ap (λ o. first_of o None) is;
}
own_ended (the_end.Fault z) end old new owner x f s c is = absurd is
own_ended the_end.NoMemory end old new owner x f s c is = record { routines = λ h. tt; blocks = λ h. tt }

pub own_added : {U : Type 0} (u : U) (b : CoreBlock) (row : CoreRoutine) (end : At) (old new : Lists) (owner : Name) (x : Text) (f : RoutineEntity) (s : Stmt) (c : Context)
    → IsOwnRow row end owner x f s → IsOwnBlock (Ok b) (trees_in end) (head_of end x f) s
    → new.routines ≡ old.routines ++ row ∷ [] → new.blocks ≡ old.blocks ++ b ∷ []
    → Adds (Ok u) end old new (own_listed end owner x f s c) (own_rows end x f s c)
own_added u b row end old new owner x f s c is own rs bs = record {
  routines = λ h.
      ap (map (routine_row (trees_in end))) rs
      ∙ (map-append (routine_row (trees_in end)) old.routines (row ∷ [])
      ∙ ap (λ r. map (routine_row (trees_in end)) old.routines ++ r ∷ [])
      (ap (routine_row (trees_in end)) is.is
      ∙ ap (λ ls. record { owner = owner.0; head = head_of end x f; labels = ls }) (is.labels h c)));
  blocks = λ h. record {
    pushed =
        ap (map (row_over (trees_in end) h)) bs
        ∙ (map-append (row_over (trees_in end) h) old.blocks (b ∷ [])
        ∙ ap (λ r. map (row_over (trees_in end) h) old.blocks ++ r ∷ []) (own.0 h c));
    fit = ap (λ o. first_of o None) own.1;
  };
}

pub own_made : (trees : List ShapeTree) (row : CoreRoutine) (s : Stmt) (g : CoreForm) (n : Name) (ns : List Name)
    → ((h : Headings) → form_over trees h g ≡ head_form (head_over trees row)) → BeginsAt s n → ns ≡ n ∷ []
    → None ≡ form_fault row.name (bare_form g)
    → IsOwnBlock (Ok (record { name = row.name; routine = row.name; around = None; next = None; entries = ns; form = g })) trees (head_over trees row) s
own_made trees row s g n ns forms begins is fit = (
  λ h c.
      ap (λ ms. row_over trees h (record { name = row.name; routine = row.name; around = None; next = None; entries = ms; form = g })) is
      ∙ (ap (λ m. record { name = row.name.0; routine = row.name.0; around = None; next = None; entries = m ∷ []; form = form_over trees h g }) (sym (begins.over trees h c))
      ∙ ap (λ b. record { name = row.name.0; routine = row.name.0; around = None; next = None; entries = entry_of (statement_of trees h s c) ∷ []; form = b }) (forms h)),
  ap (form_fault row.name) (sym (forms no_heading) ∙ sym (bare_own trees no_heading g (own_form trees g (head_over trees row) (forms no_heading)))) ∙ sym fit,
)

pub own_passed : (trees : List ShapeTree) (row : CoreRoutine) (s : Stmt) (g : CoreForm) (z : SizeFault)
    → ((h : Headings) → form_over trees h g ≡ head_form (head_over trees row))
    → Some z ≡ form_fault row.name (bare_form g)
    → IsOwnBlock (Err (the_end.Size z)) trees (head_over trees row) s
own_passed trees row s g z forms past =
    ap (form_fault row.name) (sym (forms no_heading) ∙ sym (bare_own trees no_heading g (own_form trees g (head_over trees row) (forms no_heading)))) ∙ sym past
