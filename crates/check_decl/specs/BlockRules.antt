-- Blocks, declarations and programs (ISO 7185:1990, 6.2.1, 6.2.2, 6.3 to 6.6, 6.10): items are judged in the order of the
-- text, and the first that is not `CLEAN` ends it. What is left are the layouts of the program and of its routines. Here
-- is a rule for each form, whose parts stand as their judgements. `outer` are the regions outside a block, outermost
-- first, and `here` is a place in the block.
use Rattle.std.specs.Prelude.{ℕ, ◌+◌, min, Bool, true, false, ◌&&◌, ◌||◌, not, if◌then◌else◌, List, [], ◌∷◌, ◌++◌, Option, Some, None, is_some, Result, Ok, Err, bytes_eq, codes, nat_eq}
use Rattle.dice_base.specs.declared.name.Name.{Name}
use Rattle.pascal_tree.specs.declared.stmt.Constant.{Constant as WrittenConstant}
use Rattle.pascal_tree.specs.declared.decl.Heading.{Heading}
use Rattle.check_rules.specs.declared.typing.Typing.{Typing}
use Rattle.check_rules.specs.declared.entity.Entity.{Entity}
use Rattle.check_rules.specs.declared.entity.Entity.TheVariants.{ConstantOf, TypeOf, VariableOf, RoutineOf}
use Rattle.check_rules.specs.declared.entity.JudgedConstant.{JudgedConstant}
use Rattle.check_rules.specs.declared.entity.Parameter.{Parameter}
use Rattle.check_rules.specs.declared.entity.RoutineEntity.{RoutineEntity}
use Rattle.check_rules.specs.declared.entity.Region.{Region}
use Rattle.check_rules.specs.declared.fault.CheckFault.{CheckFault}
use Rattle.check_rules.specs.declared.kinds.TheConstants.{CLEAN, MAX_COUNTED, WRONG_FORWARD, WRONG_PARAMETER, WRONG_TYPE}
use Rattle.check_rules.specs.Typing.{Table, Text, words_of}
use Rattle.check_rules.specs.Faults.{kind_unless, fault_at}
use Rattle.check_rules.specs.Regions.{Texts, Regions, has_ident, entity_in, new_region, declare, predeclared_region}
use Rattle.check_types.specs.Constants.{constant_of}
use Rattle.check_types.specs.TypeRules.{TypeReading, TypeJudgement}
use Rattle.check_types.specs.declared.headings.JudgedHeading.{JudgedHeading}
use Rattle.check_decl.specs.declared.place.At.{At}
use Rattle.check_decl.specs.declared.place.Known.{Known}
use Rattle.check_decl.specs.declared.place.Owner.{Owner}
use Rattle.check_decl.specs.declared.place.Row.{Row}
use Rattle.check_decl.specs.declared.place.Layout.{Layout}
use Rattle.check_decl.specs.declared.routines.Naming.{Naming}
use Rattle.check_decl.specs.declared.heads.Headed.{Headed}
use Rattle.body_labels.specs.Labels.{Numbers, label_part_kind}
use Rattle.check_types.specs.Headings.{heading_of, lacks_result, is_bare_heading}

-- ---- items in turn

abbrev pub Outcome : Type 0
Outcome = Result At CheckFault

abbrev pub then_on : Outcome → (At → Outcome) → Outcome
then_on (Ok after) f = f after
then_on (Err e) f = Err e

abbrev pub unless_fault : Option CheckFault → At → Outcome
unless_fault (Some e) here = Err e
unless_fault None here = Ok here

-- the item with this name and this least kind: where it is clean, what follows sees this
abbrev pub item : Name → ℕ → At → Outcome
item name kind here = unless_fault (fault_at name kind) here

-- a place, and the least kind so far
abbrev pub Judging : Type 0
Judging = At × ℕ

abbrev pub item_at : Name → Judging → Outcome
item_at name (here, kind) = item name kind here

-- ---- labels (6.2.1)

-- the name of the declaration, its labels, and those that stand in the body
abbrev pub label_part : Option (Name × Numbers) → Numbers → At → Outcome
label_part None placed here = Ok here
label_part (Some (name, ns)) placed here = item name (label_part_kind ns placed) here

-- ---- constants (6.3)

abbrev pub regions_at : Regions → At → Regions
regions_at outer here = outer ++ here.block ∷ []

abbrev pub constant_item_with : Name → At → JudgedConstant → Region × ℕ → Outcome
constant_item_with name here c (r, kind) = item name (min c.kind kind) (record here { block = r })

abbrev pub constant_item_of : Name → Text → At → JudgedConstant → Outcome
constant_item_of name x here c =
    constant_item_with name here c (declare here.block x (ConstantOf c.value c.typing))

abbrev pub constant_item : Name → Text → WrittenConstant → Regions → At → Outcome
constant_item name x c outer here =
    constant_item_of name x here (constant_of here.known.table (regions_at outer here) c)

-- ---- types (6.4)

abbrev pub type_judgement : TypeReading → Regions → At → TypeJudgement
type_judgement t outer here = t.judge outer [] (record { table = here.known.table; block = here.block })

abbrev pub with_table : At → Table → Region → At
with_table here tys r = record here { known = record (here.known) { table = tys }; block = r }

-- the place after a type was read there, the type, and the least kind of fault
abbrev pub after_type : At → TypeJudgement → At × Typing × ℕ
after_type here j = (with_table here j.state.table j.state.block, j.typing, j.kind)

abbrev pub typed_at : TypeReading → Regions → At → At × Typing × ℕ
typed_at t outer here = after_type here (type_judgement t outer here)

abbrev pub with_domain : Known → Name → Typing → Known
with_domain k name t = record k { domains = k.domains ++ (name, t) ∷ [] }

abbrev pub type_item_with : Name → At → Typing → ℕ → Region × ℕ → Outcome
type_item_with name here t kind (r, k) =
    item name (min kind k) (record here { known = with_domain here.known name t; block = r })

abbrev pub type_item_of : Name → Text → At × Typing × ℕ → Outcome
type_item_of name x (here, t, kind) =
    type_item_with name here t kind (declare here.block x (TypeOf t (Some name)))

abbrev pub type_item : Name → Text → TypeReading → Regions → At → Outcome
type_item name x t outer here = type_item_of name x (typed_at t outer here)

-- ---- variables (6.5.1), parameters, and the result of a function: a row each

abbrev pub with_row : At → Text → Typing → Bool → At
with_row here x t by_place = record here {
  rows = here.rows ++ record { ident = x; typing = t; offset = here.words; by_place = by_place } ∷ [];
  words = min MAX_COUNTED (here.words + (if by_place then 1 else words_of here.known.table t));
}

abbrev pub variable_entity : Name → Typing → ℕ → Bool → Bool → Entity
variable_entity owner t offset by_place local = VariableOf (record {
  owner = owner;
  typing = t;
  offset = offset;
  by_place = by_place;
  local = local;
})

abbrev pub variable_after : Text → Typing → Bool → Judging → Region × ℕ → Judging
variable_after x t by_place (here, kind) (r, k) =
    (with_row (record here { block = r }) x t by_place, min kind k)

abbrev pub with_variable : Name → Text → Typing → Bool → Bool → Judging → Judging
with_variable owner x t by_place local (here, kind) =
    variable_after x t by_place (here, kind)
    (declare here.block x (variable_entity owner t here.words by_place local))

abbrev pub with_variables : Name → Typing → Texts → Judging → Judging
with_variables owner t [] r = r
with_variables owner t (x ∷ xs) r = with_variables owner t xs (with_variable owner x t false true r)

abbrev pub variable_item_of : Owner → Name → Texts → At × Typing × ℕ → Outcome
variable_item_of owner name xs (here, t, kind) = item_at name (with_variables owner.name t xs (here, kind))

abbrev pub variable_item : Owner → Name → Texts → TypeReading → Regions → At → Outcome
variable_item owner name xs t outer here = variable_item_of owner name xs (typed_at t outer here)

-- ---- the parts of a block

-- what is known of a declaration before its place is reached, and what comes of it there
pub record DeclJudge : Type 0 where
  -- all identifiers that it declares
  pub idents : Texts
  -- of a type declaration, its identifier with its name, and the enumeration constants in it
  pub types : List (Text × Name)
  pub constants : Texts
  pub item : Owner → Regions → At → Outcome

abbrev pub constant_decl : Name → Text → WrittenConstant → DeclJudge
constant_decl name x c = record {
  idents = x ∷ [];
  types = [];
  constants = [];
  item = (λ owner outer here. constant_item name x c outer here);
}

abbrev pub type_decl : Name → Text → TypeReading → DeclJudge
type_decl name x t = record {
  idents = x ∷ t.constants;
  types = (x, name) ∷ [];
  constants = t.constants;
  item = (λ owner outer here. type_item name x t outer here);
}

abbrev pub variable_decl : Name → Texts → TypeReading → DeclJudge
variable_decl name xs t = record {
  idents = xs ++ t.constants;
  types = [];
  constants = [];
  item = (λ owner outer here. variable_item owner name xs t outer here);
}

-- labels are judged as a part of their own
abbrev pub label_decl : DeclJudge
label_decl = record {
  idents = [];
  types = [];
  constants = [];
  item = (λ owner outer here. Ok here);
}

abbrev pub decl_items : Owner → Regions → List DeclJudge → At → Outcome
decl_items owner outer [] here = Ok here
decl_items owner outer (d ∷ ds) here = then_on (d.item owner outer here) (decl_items owner outer ds)

abbrev pub decl_idents : List DeclJudge → Texts
decl_idents [] = []
decl_idents (d ∷ ds) = d.idents ++ decl_idents ds

abbrev pub type_names : List DeclJudge → List (Text × Name)
type_names [] = []
type_names (d ∷ ds) = d.types ++ type_names ds

abbrev pub type_constants : List DeclJudge → Texts
type_constants [] = []
type_constants (d ∷ ds) = d.constants ++ type_constants ds

-- while the type part is read, pointers see the types that it declares (6.4.4)
abbrev pub region_with_types : Region → List (Text × Name) → Texts → Region
region_with_types r ns cs = record r { types = ns; constants = cs }

abbrev pub with_type_part : List (Text × Name) → Texts → At → At
with_type_part ns cs here = record here { block = region_with_types here.block ns cs }

abbrev pub type_part_end : At → Outcome
type_part_end here = Ok (with_type_part [] [] here)

abbrev pub type_part : Owner → Regions → List DeclJudge → At → Outcome
type_part owner outer ds here =
    then_on (decl_items owner outer ds (with_type_part (type_names ds) (type_constants ds) here))
    type_part_end

-- ---- routines (6.6.1, 6.6.2)

-- what the judgement of a block says: the identifiers that it declares, and what comes of it
pub record BlockJudge : Type 0 where
  pub idents : Texts
  pub walk : Owner → Regions → At → Outcome

pub record RoutineJudge : Type 0 where
  pub name : Name
  pub heading : Heading
  pub block : Option BlockJudge

-- the item with the block of a forward heading: the next with the identifier and the class
abbrev pub is_same_class : Bool → Bool → Bool
is_same_class f g = if f then g else not g

abbrev pub is_block_for : Heading → RoutineJudge → Bool
is_block_for h r =
    is_some r.block && bytes_eq r.heading.ident h.ident && is_same_class h.function r.heading.function

abbrev pub block_for : Heading → List RoutineJudge → Option Name
block_for h [] = None
block_for h (r ∷ rs) = if is_block_for h r then Some r.name else block_for h rs

-- the routine whose forward heading this item has the block of, where it has a block
abbrev pub forward_in : Name → Bool → Option Entity → Option RoutineEntity
forward_in name true (Some (RoutineOf f)) = if f.forward && nat_eq f.name.0 name.0 then Some f else None
forward_in name _ _ = None

abbrev pub routine_entity : Name → Heading → ℕ → JudgedHeading → Bool → RoutineEntity
routine_entity name h level j forward = record {
  name = name;
  function = h.function;
  level = level + 1;
  parameters = j.parameters;
  result = j.result;
  forward = forward;
}

-- the routine's own region has its parameters, its rows its result before them
abbrev pub parameter_idents : List Parameter → Texts
parameter_idents [] = []
parameter_idents (p ∷ ps) = p.ident ∷ parameter_idents ps

abbrev pub with_parameters : Name → List Parameter → Judging → Judging
with_parameters owner [] r = r
with_parameters owner (p ∷ ps) r =
    with_parameters owner ps (with_variable owner p.ident p.typing p.by_place false r)

abbrev pub with_result_row : Text → RoutineEntity → At → At
with_result_row x f here = if f.function then with_row here x f.result false else here

abbrev pub owner_of : RoutineEntity → Owner → Owner
owner_of f owner = record { name = f.name; level = f.level; functions = owner.functions ++ f.name ∷ [] }

abbrev pub new_block : Known → Texts → At
new_block known idents = record { known = known; block = new_region idents; rows = []; words = 0 }

abbrev pub place_inside : Text → RoutineEntity → Texts → Known → At
place_inside x f idents known =
    (with_parameters f.name f.parameters
    (with_result_row x f (new_block known (parameter_idents f.parameters ++ idents)), CLEAN)).0

-- a block ends: from here on its owner and all that it declared are known
abbrev pub with_place : Known → Owner → Region → Known
with_place k owner r = record k { places = k.places ++ record { owner = owner; region = r } ∷ [] }

-- the place that was left, with what is known now
abbrev pub place_after : Owner → At → Region → List Row → ℕ → Outcome
place_after owner after r rows words = Ok (record {
  known = with_place after.known owner after.block;
  block = r;
  rows = rows;
  words = words;
})

abbrev pub back_in : Owner → At → At → Outcome
back_in owner here after = place_after owner after here.block here.rows here.words

abbrev pub block_outcome : Owner → Regions → Text → RoutineEntity → Option BlockJudge → At → Outcome
block_outcome owner outer x f None here = Ok here
block_outcome owner outer x f (Some b) here =
    then_on
    (b.walk (owner_of f owner) (regions_at outer here) (place_inside x f b.idents here.known))
    (back_in (owner_of f owner) here)

-- the name under which a heading declares its routine, whether it is forward, and the kind of that
abbrev pub forward_naming : Name → Option Name → Naming
forward_naming own None = record { name = own; forward = true; kind = WRONG_FORWARD }
forward_naming own (Some n) = record { name = n; forward = true; kind = CLEAN }

abbrev pub naming_of : Name → Heading → Bool → List RoutineJudge → Naming
naming_of name h block later =
    if block
    then record { name = name; forward = false; kind = CLEAN }
    else forward_naming name (block_for h later)

-- the place after a heading, with the routine whose heading it is
abbrev pub HeadOutcome : Type 0
HeadOutcome = Result Headed CheckFault

abbrev pub headed : RoutineEntity → Outcome → HeadOutcome
headed f (Ok here) = Ok (record { here = here; routine = f })
headed f (Err e) = Err e

abbrev pub new_kind : Heading → JudgedHeading → ℕ → ℕ
new_kind h j kind = min j.kind (min kind (kind_unless (not (lacks_result h)) WRONG_TYPE))

abbrev pub routine_declared : Name → RoutineEntity → At → ℕ → Region × ℕ → HeadOutcome
routine_declared name f here kind (own, k) =
    headed f (item name (min kind k) (record here { block = own }))

abbrev pub routine_named : Name → Text → RoutineEntity → At → ℕ → HeadOutcome
routine_named name x f here kind = routine_declared name f here kind (declare here.block x (RoutineOf f))

abbrev pub new_routine : Name → Heading → ℕ → JudgedHeading → Naming → At → HeadOutcome
new_routine name h level j n here =
    routine_named name h.ident (routine_entity n.name h level j n.forward) here (new_kind h j n.kind)

abbrev pub bare_kind : Heading → JudgedHeading → ℕ
bare_kind h j = min j.kind (kind_unless (is_bare_heading h) WRONG_FORWARD)

abbrev pub head_of : Name → Heading → ℕ → JudgedHeading → Naming → At → Option RoutineEntity → HeadOutcome
head_of name h level j n here None = new_routine name h level j n here
head_of name h level j n here (Some f) = headed f (item name (bare_kind h j) here)

abbrev pub routine_head : Name → Heading → Bool → Naming → ℕ → Regions → At → HeadOutcome
routine_head name h block n level outer here =
    head_of name h level (heading_of here.known.table (regions_at outer here) h) n here
    (forward_in name block (entity_in here.block.declared h.ident))

abbrev pub after_head : RoutineJudge → Owner → Regions → HeadOutcome → Outcome
after_head r owner outer (Ok h) = block_outcome owner outer r.heading.ident h.routine r.block h.here
after_head r owner outer (Err e) = Err e

abbrev pub routine_item : RoutineJudge → Naming → Owner → Regions → At → Outcome
routine_item r n owner outer here =
    after_head r owner outer
    (routine_head r.name r.heading (is_some r.block) n owner.level outer here)

abbrev pub routine_items : Owner → Regions → List RoutineJudge → At → Outcome
routine_items owner outer [] here = Ok here
routine_items owner outer (r ∷ rs) here =
    then_on (routine_item r (naming_of r.name r.heading (is_some r.block) rs) owner outer here)
    (routine_items owner outer rs)

abbrev pub routine_idents : List RoutineJudge → Texts
routine_idents [] = []
routine_idents (r ∷ rs) = r.heading.ident ∷ routine_idents rs

-- ---- a block

abbrev pub known_with : Known → Layout → Known
known_with k l = record k { layouts = k.layouts ++ l ∷ [] }

abbrev pub layout_of : Owner → At → Layout
layout_of owner here = record { owner = owner.name; level = owner.level; rows = here.rows; words = here.words }

-- the rows go into the layout
abbrev pub with_layout : Owner → At → At
with_layout owner here = record here { known = known_with here.known (layout_of owner here); rows = [] }

-- the parts of a block; the last is what comes of its body, where the layout of its owner stands
pub record BlockParts : Type 0 where
  pub labels : Option (Name × Numbers)
  pub placed : Numbers
  pub consts : List DeclJudge
  pub types : List DeclJudge
  pub vars : List DeclJudge
  pub routines : List RoutineJudge
  pub body : Owner → Regions → At → Outcome

abbrev pub block_idents : BlockParts → Texts
block_idents b =
    decl_idents b.consts ++ (decl_idents b.types ++ (decl_idents b.vars ++ routine_idents b.routines))

abbrev pub layout_end : Owner → At → Outcome
layout_end owner here = Ok (with_layout owner here)

-- the place after the declarations of labels, constants, types and variables, where the layout of the owner stands
abbrev pub declarations : Option (Name × Numbers) → Numbers → List DeclJudge → List DeclJudge → List DeclJudge → Owner → Regions → At → Outcome
declarations labels placed consts types vars owner outer here =
    then_on (label_part labels placed here) (λ h.
    then_on (decl_items owner outer consts h) (λ h.
    then_on (type_part owner outer types h) (λ h.
    then_on (decl_items owner outer vars h) (layout_end owner))))

abbrev pub block_walk : BlockParts → Owner → Regions → At → Outcome
block_walk b owner outer here =
    then_on (declarations b.labels b.placed b.consts b.types b.vars owner outer here) (λ h.
    then_on (routine_items owner outer b.routines h) (b.body owner outer))

abbrev pub block_of_parts : BlockParts → BlockJudge
block_of_parts b = record { idents = block_idents b; walk = (λ owner outer here. block_walk b owner outer here) }

-- where bodies are left out
abbrev pub no_body : Owner → Regions → At → Outcome
no_body owner outer here = Ok here

-- ---- a program (6.10): its parameters are `input` and `output`, each at most once

abbrev pub is_file : Text → Bool
is_file x = bytes_eq x (codes "input") || bytes_eq x (codes "output")

abbrev pub are_files : Texts → Bool
are_files [] = true
are_files (x ∷ xs) = is_file x && not (has_ident xs x) && are_files xs

abbrev pub program_name : Name
program_name = record { 0 = 1 }

abbrev pub program_owner : Owner
program_owner = record { name = program_name; level = 0; functions = [] }

abbrev pub nothing_known : Known
nothing_known = record { table = []; domains = []; changed = []; layouts = []; places = [] }

abbrev pub program_walk : Texts → BlockJudge → Outcome
program_walk files b =
    then_on
    (item program_name (kind_unless (are_files files) WRONG_PARAMETER) (new_block nothing_known b.idents))
    (b.walk program_owner (predeclared_region ∷ []))
