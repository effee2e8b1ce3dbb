-- The routines and the blocks of a resolved program, as they come in the order of the text, whatever the headings of routines
-- are.
use Rattle.std.specs.Prelude.{◌≡◌, ℕ, ◌==◌, if◌then◌else◌, List, [], ◌∷◌, ◌++◌, map, Option, Some, None, Result, Ok, Err}
use Rattle.dice_base.specs.declared.name.Name.{Name}
use Rattle.pascal_tree.specs.declared.stmt.Stmt.{Stmt}
use Rattle.pascal_tree.specs.declared.decl.Block.{Block, Block-F}
use Rattle.pascal_tree.specs.declared.decl.Routine.{Routine, Routine-F}
use Rattle.check_rules.specs.declared.fault.CheckEnd.{CheckEnd}
use Rattle.check_rules.specs.declared.fault.CheckEnd.TheVariants as the_end
use Rattle.check_rules.specs.declared.entity.Entity.{Entity}
use Rattle.check_rules.specs.declared.entity.Entity.TheVariants.{RoutineOf}
use Rattle.check_rules.specs.declared.entity.RoutineEntity.{RoutineEntity}
use Rattle.check_rules.specs.Regions.{entity_in}
use Rattle.check_rules.specs.Typing.{Text}
use Rattle.check_decl.specs.declared.place.At.{At}
use Rattle.check_decl.specs.declared.place.Owner.{Owner}
use Rattle.core_tree.specs.declared.program.CoreBlock.{CoreBlock}
use Rattle.core_tree.specs.declared.program.CoreRoutine.{CoreRoutine}
use Rattle.core_tree.specs.declared.program.LinkEnd.{LinkEnd}
use Rattle.core_tree.specs.declared.form.CoreForm.{CoreForm}
use Rattle.core_tree.specs.declared.form.CoreForm.TheVariants as block
use Rattle.core_tree.specs.Control.{CoreRow, RoutineRow, after_body, core_rows, head_row, labels_of, link_flow, name_of, routine_list, routines_list, routines_rows, statement_rows}
use Rattle.core_tree.specs.Plain.{Head, Heading, Routines, head_form}
use Rattle.core_tree.specs.Shapes.{ShapeTree}
use Rattle.core_tree.specs.Views.{label_row, routine_row}
use Rattle.resolve_expr.specs.declared.context.Context.{Context}
use Rattle.resolve_types.specs.Programs.{BlockView, RoutineView, block_view, context_of, core_routine, head_of, region_of, routine_view, routines_in}
use Rattle.resolve_types.specs.Resolved.{type_trees}
use Rattle.resolve_statements.specs.declared.place.Place.{Place}
use Rattle.resolve_statements.specs.Bodies.{statement_of}
use Rattle.resolve_statements.specs.Sizes.{Pushed, form_fault}
use Rattle.resolve_statements.specs.Tables.{row_over, rows_of}
use Rattle.check_program.specs.declared.lists.Lists.{Lists}

abbrev pub Headings : Type 0
Headings = ℕ → Heading

abbrev pub trees_in : At → List ShapeTree
trees_in end = type_trees end.known.table

-- ---- what is added

abbrev pub Listed : {U : Type 0} → Result U CheckEnd → List RoutineRow → List RoutineRow → List RoutineRow → Type 0
Listed (Ok u) old new rows = new ≡ old ++ rows
Listed (Err e) old new rows = Unit {0}

-- these rows of routines and of blocks stand behind the old ones, or the first block that does not fit is told
pub record Adds
    {U : Type 0} (result : Result U CheckEnd) (end : At) (old new : Lists) (listed : Headings → List RoutineRow)
    (rows : Headings → List CoreRow) : Type 0 where
  pub routines : (h : Headings)
      → Listed result (map (routine_row (trees_in end)) old.routines) (map (routine_row (trees_in end)) new.routines) (listed h)
  pub blocks : (h : Headings)
      → Pushed result (rows_of old.blocks (trees_in end) h) (rows_of new.blocks (trees_in end) h) (rows h)

-- ---- a routine, or the program, by itself

-- the form of a statement is none of these
abbrev pub IsOwnForm : CoreForm → Type 0
IsOwnForm block.Program = Unit {0}
IsOwnForm (block.Routine r) = Unit {0}
IsOwnForm (block.Statement s) = ⊥

-- what is said of it, with the labels of its body
pub record IsOwnRow (r : CoreRoutine) (end : At) (owner : Name) (x : Text) (f : RoutineEntity) (s : Stmt) : Type 0 where
  pub is : r ≡ core_routine end owner x f r.labels
  pub labels : (h : Headings) (c : Context) → map label_row r.labels ≡ labels_of (statement_of (trees_in end) h s c)

-- its own block, at which this body begins
abbrev pub IsOwnBlock : Result CoreBlock CheckEnd → List ShapeTree → Head → Stmt → Type 0
IsOwnBlock (Ok b) trees head s =
    ((h : Headings) (c : Context)
    → row_over trees h b ≡ head_row LinkEnd (Option ℕ) link_flow head.name (head_form head) (statement_of trees h s c))
    × (form_fault (name_of head.name) (head_form head) ≡ None)
IsOwnBlock (Err (the_end.Size f)) trees head s = form_fault (name_of head.name) (head_form head) ≡ Some f
IsOwnBlock (Err (the_end.Fault f)) trees head s = ⊥
IsOwnBlock (Err the_end.NoMemory) trees head s = Unit {0}

module _ (end : At) where
  abbrev pub own_listed : Name → Text → RoutineEntity → Stmt → Context → Headings → List RoutineRow
  own_listed owner x f s c h =
      record { owner = owner.0; head = head_of end x f; labels = labels_of (statement_of (trees_in end) h s c) } ∷ []

  abbrev pub own_rows : Text → RoutineEntity → Stmt → Context → Headings → List CoreRow
  own_rows x f s c h =
      head_row LinkEnd (Option ℕ) link_flow f.name.0 (head_form (head_of end x f)) (statement_of (trees_in end) h s c) ∷ []

  -- where its body stands
  abbrev pub body_place : Text → RoutineEntity → Place
  body_place x f = record {
    routine = f.name;
    after = after_body LinkEnd (Option ℕ) link_flow (head_form (head_of end x f)) f.name.0;
    around = None;
  }

  abbrev pub body_rows : Text → RoutineEntity → Stmt → Context → Headings → List CoreRow
  body_rows x f s c h =
      statement_rows LinkEnd (Option ℕ) link_flow (statement_of (trees_in end) h s c) f.name.0
      (after_body LinkEnd (Option ℕ) link_flow (head_form (head_of end x f)) f.name.0) None

-- the blocks of the body of a routine or of the program are added, whatever its identifier and the types are
pub record AddsBody {U : Type 0} (result : Result U CheckEnd) (old new : Lists) (f : RoutineEntity) (s : Stmt) (c : Context) : Type 0 where
  pub adds : (end : At) (x : Text) → Adds result end old new (λ h. []) (body_rows end x f s c)

-- ---- blocks and routines

abbrev pub if_routine : Name → Option Entity → Option RoutineEntity
if_routine n (Some (RoutineOf f)) = if f.name.0 == n.0 then Some f else None
if_routine n e = None

-- the routine that this item of a block of this owner declares, if the item has the routine's block
abbrev pub routine_of : At → Name → Routine-F Block Routine → Option RoutineEntity
routine_of end owner r = if_routine r.name (entity_in (region_of end owner).declared r.heading.ident)

module _ (end : At) where
  abbrev pub block_viewed : Headings → Block → BlockView
  block_viewed h = block_view (statement_of (trees_in end) h) end

  abbrev pub routine_viewed : Headings → Routine → RoutineView
  routine_viewed h = routine_view (statement_of (trees_in end) h) end

  abbrev pub routines_viewed : Owner → List Routine → Headings → Routines
  routines_viewed owner rs h = routines_in end owner (map (routine_viewed h) rs)

  -- the routines in a block of this owner
  abbrev pub inner_listed : Owner → List Routine → Headings → List RoutineRow
  inner_listed owner rs h = routines_list owner.name.0 (routines_viewed owner rs h)

  abbrev pub inner_rows : Owner → List Routine → Headings → List CoreRow
  inner_rows owner rs h = routines_rows LinkEnd (Option ℕ) link_flow (routines_viewed owner rs h)

  -- a block of this routine of another, and of this owner
  abbrev pub block_listed : Name → Text → RoutineEntity → Owner → Block → Headings → List RoutineRow
  block_listed other x f owner b h = routine_list other.0 (block_viewed h b x f owner)

  abbrev pub block_rows : Text → RoutineEntity → Owner → Block → Headings → List CoreRow
  block_rows x f owner b h = core_rows (block_viewed h b x f owner)

  -- behind its own row and block
  abbrev pub rest_rows : Text → RoutineEntity → Owner → Block-F Block Routine → Headings → List CoreRow
  rest_rows x f owner b h = inner_rows owner b.routines h ++ body_rows end x f b.body (context_of end owner) h
