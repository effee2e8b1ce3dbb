-- The plain program that a tree is, where the walk through it ended so: the head of each routine with a block, the routines
-- in it, and its body in what stands around it. A forward heading has no block, and leaves nothing.
use Rattle.std.specs.Prelude.{◌≡◌, ℕ, min, ◌==◌, if◌then◌else◌, false, List, [], ◌∷◌, ◌++◌, map, find, Option, Some, None, option_map}
use Rattle.dice_base.specs.declared.name.Name.{Name}
use Rattle.pascal_tree.specs.declared.stmt.Stmt.{Stmt as Tree}
use Rattle.pascal_tree.specs.declared.decl.Block.{Block as BlockTree, Block-F, fold-Block}
use Rattle.pascal_tree.specs.declared.decl.Routine.{Routine as RoutineTree, Routine-F, fold-Routine}
use Rattle.pascal_tree.specs.declared.program.Tree.{Tree as ProgramTree}
use Rattle.check_rules.specs.declared.typing.Typing.TheVariants.{Unknown}
use Rattle.check_rules.specs.declared.entity.Entity.{Entity}
use Rattle.check_rules.specs.declared.entity.Entity.TheVariants.{RoutineOf}
use Rattle.check_rules.specs.declared.entity.Region.{Region}
use Rattle.check_rules.specs.declared.entity.RoutineEntity.{RoutineEntity}
use Rattle.check_rules.specs.Regions.{entity_in, predeclared_region}
use Rattle.check_rules.specs.Typing.{Text}
use Rattle.check_decl.specs.declared.place.At.{At}
use Rattle.check_decl.specs.declared.place.BodyPlace.{BodyPlace}
use Rattle.check_decl.specs.declared.place.Layout.{Layout}
use Rattle.check_decl.specs.declared.place.Owner.{Owner}
use Rattle.check_decl.specs.declared.place.Row.{Row}
use Rattle.check_decl.specs.BlockRules.{owner_of, program_name, program_owner}
use Rattle.expression_rules.specs.declared.notes.Env.{Env}
use Rattle.resolve_expr.specs.declared.context.Context.{Context}
use Rattle.resolve_expr.specs.declared.context.OwnerWords.{OwnerWords}
use Rattle.core_tree.specs.declared.program.Core.{Core}
use Rattle.core_tree.specs.declared.program.CoreBlock.{CoreBlock}
use Rattle.core_tree.specs.declared.program.CoreLabel.{CoreLabel}
use Rattle.core_tree.specs.declared.program.CoreRoutine.{CoreRoutine}
use Rattle.core_tree.specs.declared.shape.ShapeEntry.{ShapeEntry}
use Rattle.core_tree.specs.Control.{CoreRow, RoutineRow, core_routines, core_rows, routine_row_of}
use Rattle.core_tree.specs.Plain.{Head, Heading, Routine, Block, Routines, NoRoutine, Also, Statement}
use Rattle.core_tree.specs.Shapes.{ShapeTree, trees_of}
use Rattle.core_tree.specs.Views.{IsTableOf, form_over, head_over, listed_routines}
use Rattle.resolve_types.specs.Resolved.{core_heading, core_variables, domain_shape, type_trees, written_shapes}

-- ---- what is known of an owner at the end

abbrev pub place_for : List BodyPlace → Name → Option BodyPlace
place_for places n = find (λ p. p.owner.name.0 == n.0) places

-- the program's own region is that of the end
abbrev pub region_by : Region → Option BodyPlace → Region
region_by own None = own
region_by own (Some p) = p.region

abbrev pub region_of : At → Name → Region
region_of end n = region_by end.block (place_for end.known.places n)

abbrev pub layout_for : List Layout → Name → Option Layout
layout_for layouts n = find (λ l. l.owner.0 == n.0) layouts

-- each owner has a layout
abbrev pub rows_by : Option Layout → List Row
rows_by None = []
rows_by (Some l) = l.rows

abbrev pub rows_of : At → Name → List Row
rows_of end n = rows_by (layout_for end.known.layouts n)

abbrev pub owner_by : Name → Option Layout → OwnerWords
owner_by n None = record { owner = n; level = 0; words = 0 }
owner_by n (Some l) = record { owner = l.owner; level = l.level; words = l.words }

abbrev pub owner_words : At → Name → OwnerWords
owner_words end n = owner_by n (layout_for end.known.layouts n)

-- ---- what stands around a body: the program and the routines around it, outermost first

abbrev pub owners_around : Owner → List Name
owners_around owner = program_name ∷ owner.functions

abbrev pub context_of : At → Owner → Context
context_of end owner = record {
  env = record {
    table = end.known.table;
    domains = end.known.domains;
    regions = predeclared_region ∷ map (region_of end) (owners_around owner);
    opened = [];
    holds = 0;
    owner = owner.name;
    functions = owner.functions;
    changed = end.known.changed;
  };
  level = owner.level;
  owners = map (owner_words end) (owners_around owner);
}

-- the same step by step: from the block that declares a routine into that routine's
abbrev pub entered_env : At → Name → Env → Env
entered_env end n env = record env {
  regions = env.regions ++ region_of end n ∷ [];
  owner = n;
  functions = env.functions ++ n ∷ [];
}

abbrev pub entered : At → RoutineEntity → Context → Context
entered end f c = record {
  env = entered_env end f.name c.env;
  level = f.level;
  owners = c.owners ++ owner_words end f.name ∷ [];
}

-- ---- heads

-- the program, as a routine that takes and gives nothing
abbrev pub program_entity : RoutineEntity
program_entity = record {
  name = program_name;
  function = false;
  level = 0;
  parameters = [];
  result = Unknown;
  forward = false;
}

-- a routine of this identifier, which another declares
abbrev pub core_routine : At → Name → Text → RoutineEntity → List CoreLabel → CoreRoutine
core_routine end owner x f labels = record {
  name = f.name;
  owner = owner;
  ident = x;
  level = min 255 f.level;
  heading = core_heading f;
  variables = core_variables (core_heading f) (rows_of end f.name);
  labels = labels;
}

abbrev pub head_of : At → Text → RoutineEntity → Head
head_of end x f = head_over (type_trees end.known.table) (core_routine end program_name x f [])

-- ---- blocks and routines

-- a body, in what stands around it
abbrev pub BodyRule : Type 0
BodyRule = Tree → Context → Statement

-- a block of this routine or of the program, in its owner
abbrev pub BlockView : Type 0
BlockView = Text → RoutineEntity → Owner → Routine

pub record RoutineView : Type 0 where
  pub name : Name
  pub ident : Text
  pub block : Option BlockView

-- a routine is known under the name of the item that has its block
abbrev pub with_routine : Owner → Name → Text → BlockView → Option Entity → Routines → Routines
with_routine owner n x b (Some (RoutineOf f)) others =
    if f.name.0 == n.0 then Also (b x f (owner_of f owner)) others else others
with_routine owner n x b e others = others

abbrev pub with_item : At → Owner → Name → Text → Option BlockView → Routines → Routines
with_item end owner n x None others = others
with_item end owner n x (Some b) others =
    with_routine owner n x b (entity_in (region_of end owner.name).declared x) others

-- the routines with a block that a block declares, in the order of the text
abbrev pub routines_in : At → Owner → List RoutineView → Routines
routines_in end owner [] = NoRoutine
routines_in end owner (r ∷ rs) = with_item end owner r.name r.ident r.block (routines_in end owner rs)

module _ (body : BodyRule) (end : At) where
  abbrev pub in_block : Block-F BlockView RoutineView → BlockView
  in_block b x f owner =
      Block (head_of end x f) (routines_in end owner b.routines) (body b.body (context_of end owner))

  abbrev pub in_routine : Routine-F BlockView RoutineView → RoutineView
  in_routine r = record { name = r.name; ident = r.heading.ident; block = r.block }

  unfoldable pub block_view : BlockTree → BlockView
  block_view = fold-Block BlockView RoutineView in_block in_routine

  unfoldable pub routine_view : RoutineTree → RoutineView
  routine_view = fold-Routine BlockView RoutineView in_block in_routine

  abbrev pub program_with : ProgramTree → Routine
  program_with p = block_view p.block p.ident program_entity program_owner

-- ---- the whole program: its bodies see the headings of its routines

-- a routine that is not there does not come
abbrev pub heading_by : Option RoutineRow → Heading
heading_by None = record { parameters = []; result = None }
heading_by (Some r) = r.head.heading

abbrev pub headings_in : List RoutineRow → ℕ → Heading
headings_in rows n = heading_by (routine_row_of rows n)

-- bodies over types and headings
abbrev pub BodyRules : Type 0
BodyRules = List ShapeTree → (ℕ → Heading) → BodyRule

module _ (bodies : BodyRules) where
  abbrev pub program_over : At → (ℕ → Heading) → ProgramTree → Routine
  program_over end headings p = program_with (bodies (type_trees end.known.table) headings) end p

  -- no heading depends on a body
  abbrev pub headings_of : At → ProgramTree → ℕ → Heading
  headings_of end p = headings_in (core_routines (program_over end (λ n. heading_by None) p))

  abbrev pub resolved_program : At → ProgramTree → Routine
  resolved_program end p = program_over end (headings_of end p) p

  -- a core is that of a tree, the walk through which ended so
  pub record IsResolved (core : Core) (p : ProgramTree) (end : At) : Type 0 where
    pub shapes : map (λ e. e.shape) core.shapes.entries ≡ written_shapes end.known.table
    pub domains : core.domains ≡ map domain_shape end.known.domains
    pub table : IsTableOf (resolved_program end p) core.shapes.entries core.routines core.blocks

-- ---- what a core is built to: its blocks and its routines are those of the program, whatever the headings are

-- a block, with these headings of routines
abbrev pub row_over : List ShapeTree → (ℕ → Heading) → CoreBlock → CoreRow
row_over trees headings b = record {
  name = b.name.0;
  routine = b.routine.0;
  around = option_map (λ n. n.0) b.around;
  next = b.next;
  entries = map (λ n. n.0) b.entries;
  form = form_over trees headings b.form;
}

pub record AreBuilt
    (bodies : BodyRules) (p : ProgramTree) (end : At) (entries : List ShapeEntry) (routines : List CoreRoutine)
    (blocks : List CoreBlock) : Type 0 where
  pub trees : trees_of entries ≡ type_trees end.known.table
  pub listed : (headings : ℕ → Heading)
      → listed_routines entries routines ≡ core_routines (program_over bodies end headings p)
  pub rows : (headings : ℕ → Heading)
      → map (row_over (trees_of entries) headings) blocks ≡ core_rows (program_over bodies end headings p)
