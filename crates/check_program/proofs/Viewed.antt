-- Blocks and routines as plain routines, layer by layer.
use Rattle.std.proofs.Common.{◌≡◌, ℕ, ◌==◌, Bool, true, false, if◌then◌else◌, List, [], ◌∷◌, ◌++◌, map, Option, Some, None, refl, ap, sym, ◌∙◌, append-nil}
use Rattle.dice_base.specs.declared.name.Name.{Name}
use Rattle.pascal_tree.specs.declared.decl.Block.{Block, out-Block, map-Block}
use Rattle.pascal_tree.specs.declared.decl.Routine.{Routine, Routine-F, out-Routine, map-Routine}
use Rattle.pascal_tree.specs.declared.decl.Block.TheFolds.{fold_out-Block, fold_out-Routine}
use Rattle.pascal_tree.specs.declared.decl.Heading.{Heading}
use Rattle.check_rules.specs.declared.entity.Entity.{Entity}
use Rattle.check_rules.specs.declared.entity.Entity.TheVariants.{ConstantOf, TypeOf, VariableOf, FileOf, FieldOf, RoutineOf, StandardOf}
use Rattle.check_rules.specs.declared.entity.RoutineEntity.{RoutineEntity}
use Rattle.check_rules.specs.Regions.{entity_in}
use Rattle.check_rules.specs.Typing.{Text}
use Rattle.check_decl.specs.declared.place.At.{At}
use Rattle.check_decl.specs.declared.place.Owner.{Owner}
use Rattle.check_decl.specs.BlockRules.{owner_of}
use Rattle.core_tree.specs.declared.program.LinkEnd.{LinkEnd}
use Rattle.core_tree.specs.Control.{CoreRow, RoutineRow, core_rows, link_flow, routine_list, routines_list, routines_rows}
use Rattle.core_tree.specs.Plain.{Routines, NoRoutine, Also}
use Rattle.resolve_types.specs.Programs.{BlockView, BodyRule, RoutineView, block_view, context_of, in_block, in_routine, region_of, routine_view, routines_in, with_item, with_routine}
use Rattle.resolve_statements.specs.Bodies.{statement_of}
use Rattle.check_program.specs.Resolution.{Headings, block_listed, block_rows, if_routine, inner_listed, inner_rows, own_listed, own_rows, rest_rows, routine_of, routines_viewed, block_viewed, routine_viewed, trees_in}

-- ---- one layer

pub block_is : (body : BodyRule) (end : At) (b : Block)
    → block_view body end b ≡ in_block body end (map-Block Block Routine BlockView RoutineView (block_view body end) (routine_view body end) (out-Block b))
unfolding block_view routine_view
block_is body end b = fold_out-Block BlockView RoutineView (in_block body end) (in_routine body end) b

pub routine_is : (body : BodyRule) (end : At) (r : Routine)
    → routine_view body end r ≡ in_routine body end (map-Routine Block Routine BlockView RoutineView (block_view body end) (routine_view body end) (out-Routine r))
unfolding block_view routine_view
routine_is body end r = fold_out-Routine BlockView RoutineView (in_block body end) (in_routine body end) r

-- ---- a block: its own, those in it, and those of its body

pub listed_in : (end : At) (other : Name) (x : Text) (f : RoutineEntity) (owner : Owner) (b : Block) (h : Headings) → owner.name ≡ f.name
    → block_listed end other x f owner b h
    ≡ own_listed end other x f (out-Block b).body (context_of end owner) h ++ inner_listed end owner (out-Block b).routines h
listed_in end other x f owner b h same =
    ap (λ (v : BlockView). routine_list other.0 (v x f owner)) (block_is (statement_of (trees_in end) h) end b)
    ∙ ap (λ (n : Name). own_listed end other x f (out-Block b).body (context_of end owner) h ++ routines_list n.0 (routines_viewed end owner (out-Block b).routines h)) (sym same)

pub rows_in : (end : At) (x : Text) (f : RoutineEntity) (owner : Owner) (b : Block) (h : Headings)
    → block_rows end x f owner b h
    ≡ own_rows end x f (out-Block b).body (context_of end owner) h ++ rest_rows end x f owner (out-Block b) h
rows_in end x f owner b h =
    ap (λ (v : BlockView). core_rows (v x f owner)) (block_is (statement_of (trees_in end) h) end b)

-- ---- a routine with a block

abbrev also_by : Owner → Text → BlockView → Option RoutineEntity → Routines → Routines
also_by owner x b None others = others
also_by owner x b (Some f) others = Also (b x f (owner_of f owner)) others

tested : (owner : Owner) (x : Text) (b : BlockView) (t : Bool) (f : RoutineEntity) (others : Routines)
    → (if t then Also (b x f (owner_of f owner)) others else others) ≡ also_by owner x b (if t then Some f else None) others
tested owner x b true f others = refl
tested owner x b false f others = refl

with_is : (owner : Owner) (n : Name) (x : Text) (b : BlockView) (e : Option Entity) (others : Routines)
    → with_routine owner n x b e others ≡ also_by owner x b (if_routine n e) others
with_is owner n x b None others = refl
with_is owner n x b (Some (ConstantOf c t)) others = refl
with_is owner n x b (Some (TypeOf t m)) others = refl
with_is owner n x b (Some (VariableOf v)) others = refl
with_is owner n x b (Some (FileOf f)) others = refl
with_is owner n x b (Some (FieldOf f)) others = refl
with_is owner n x b (Some (StandardOf s)) others = refl
with_is owner n x b (Some (RoutineOf f)) others = tested owner x b (f.name.0 == n.0) f others

-- ---- an item, and those behind it

list_also : (o : ℕ) (owner : Owner) (x : Text) (b : BlockView) (e : Option RoutineEntity) (others : Routines)
    → routines_list o (also_by owner x b e others) ≡ routines_list o (also_by owner x b e NoRoutine) ++ routines_list o others
list_also o owner x b None others = refl
list_also o owner x b (Some f) others = ap (λ zs. zs ++ routines_list o others) (sym (append-nil (routine_list o (b x f (owner_of f owner)))))

abbrev rows_all : Routines → List CoreRow
rows_all rs = routines_rows LinkEnd (Option ℕ) link_flow rs

rows_also : (owner : Owner) (x : Text) (b : BlockView) (e : Option RoutineEntity) (others : Routines)
    → rows_all (also_by owner x b e others) ≡ rows_all (also_by owner x b e NoRoutine) ++ rows_all others
rows_also owner x b None others = refl
rows_also owner x b (Some f) others = ap (λ zs. zs ++ rows_all others) (sym (append-nil (core_rows (b x f (owner_of f owner)))))

list_item : (end : At) (o : ℕ) (owner : Owner) (n : Name) (x : Text) (v : Option BlockView) (others : Routines)
    → routines_list o (with_item end owner n x v others) ≡ routines_list o (with_item end owner n x v NoRoutine) ++ routines_list o others
list_item end o owner n x None others = refl
list_item end o owner n x (Some b) others =
    let e = entity_in (region_of end owner.name).declared x in
    ap (routines_list o) (with_is owner n x b e others)
    ∙ (list_also o owner x b (if_routine n e) others
    ∙ ap (λ rs. routines_list o rs ++ routines_list o others) (sym (with_is owner n x b e NoRoutine)))

rows_item : (end : At) (owner : Owner) (n : Name) (x : Text) (v : Option BlockView) (others : Routines)
    → rows_all (with_item end owner n x v others) ≡ rows_all (with_item end owner n x v NoRoutine) ++ rows_all others
rows_item end owner n x None others = refl
rows_item end owner n x (Some b) others =
    let e = entity_in (region_of end owner.name).declared x in
    ap rows_all (with_is owner n x b e others)
    ∙ (rows_also owner x b (if_routine n e) others
    ∙ ap (λ rs. rows_all rs ++ rows_all others) (sym (with_is owner n x b e NoRoutine)))

pub listed_turn : (end : At) (owner : Owner) (r : Routine) (rs : List Routine) (h : Headings)
    → inner_listed end owner (r ∷ rs) h ≡ inner_listed end owner (r ∷ []) h ++ inner_listed end owner rs h
listed_turn end owner r rs h =
    let v = routine_viewed end h r in
    list_item end owner.name.0 owner v.name v.ident v.block (routines_viewed end owner rs h)

pub rows_turn : (end : At) (owner : Owner) (r : Routine) (rs : List Routine) (h : Headings)
    → inner_rows end owner (r ∷ rs) h ≡ inner_rows end owner (r ∷ []) h ++ inner_rows end owner rs h
rows_turn end owner r rs h =
    let v = routine_viewed end h r in
    rows_item end owner v.name v.ident v.block (routines_viewed end owner rs h)

-- ---- one item

abbrev layer : At → Headings → Owner → Routine-F Block Routine → Routines
layer end h owner x =
    routines_in end owner
    (in_routine (statement_of (trees_in end) h) end
    (map-Routine Block Routine BlockView RoutineView (block_viewed end h) (routine_viewed end h) x)
    ∷ [])

item_is : (end : At) (h : Headings) (owner : Owner) (r : Routine) → routines_viewed end owner (r ∷ []) h ≡ layer end h owner (out-Routine r)
item_is end h owner r = ap (λ (v : RoutineView). routines_in end owner (v ∷ [])) (routine_is (statement_of (trees_in end) h) end r)

layer_none : (end : At) (h : Headings) (owner : Owner) (n : Name) (g : Heading) (o : Option Block) → o ≡ None
    → layer end h owner (record { name = n; heading = g; block = o }) ≡ NoRoutine
layer_none end h owner n g o e = ap (λ b. layer end h owner (record { name = n; heading = g; block = b })) e

layer_some : (end : At) (h : Headings) (owner : Owner) (n : Name) (g : Heading) (o : Option Block) (b : Block) (e : Option RoutineEntity)
    → o ≡ Some b → if_routine n (entity_in (region_of end owner.name).declared g.ident) ≡ e
    → layer end h owner (record { name = n; heading = g; block = o }) ≡ also_by owner g.ident (block_viewed end h b) e NoRoutine
layer_some end h owner n g o b e s is =
    ap (λ b. layer end h owner (record { name = n; heading = g; block = b })) s
    ∙ (with_is owner n g.ident (block_viewed end h b) (entity_in (region_of end owner.name).declared g.ident) NoRoutine
    ∙ ap (λ f. also_by owner g.ident (block_viewed end h b) f NoRoutine) is)

pub without_block : (end : At) (owner : Owner) (r : Routine) (h : Headings) → (out-Routine r).block ≡ None
    → routines_viewed end owner (r ∷ []) h ≡ NoRoutine
without_block end owner r h e =
    item_is end h owner r ∙ layer_none end h owner (out-Routine r).name (out-Routine r).heading (out-Routine r).block e

pub without_entity : (end : At) (owner : Owner) (r : Routine) (b : Block) (h : Headings) → (out-Routine r).block ≡ Some b
    → routine_of end owner.name (out-Routine r) ≡ None → routines_viewed end owner (r ∷ []) h ≡ NoRoutine
without_entity end owner r b h s e =
    item_is end h owner r
    ∙ layer_some end h owner (out-Routine r).name (out-Routine r).heading (out-Routine r).block b None s e

pub with_block : (end : At) (owner : Owner) (r : Routine) (b : Block) (f : RoutineEntity) (h : Headings) → (out-Routine r).block ≡ Some b
    → routine_of end owner.name (out-Routine r) ≡ Some f
    → routines_viewed end owner (r ∷ []) h
    ≡ Also (block_viewed end h b (out-Routine r).heading.ident f (owner_of f owner)) NoRoutine
with_block end owner r b f h s e =
    item_is end h owner r
    ∙ layer_some end h owner (out-Routine r).name (out-Routine r).heading (out-Routine r).block b (Some f) s e

pub listed_one : (end : At) (owner : Owner) (r : Routine) (b : Block) (f : RoutineEntity) (h : Headings) → (out-Routine r).block ≡ Some b
    → routine_of end owner.name (out-Routine r) ≡ Some f
    → inner_listed end owner (r ∷ []) h ≡ block_listed end owner.name (out-Routine r).heading.ident f (owner_of f owner) b h
listed_one end owner r b f h s e =
    ap (routines_list owner.name.0) (with_block end owner r b f h s e)
    ∙ append-nil (block_listed end owner.name (out-Routine r).heading.ident f (owner_of f owner) b h)

pub rows_one : (end : At) (owner : Owner) (r : Routine) (b : Block) (f : RoutineEntity) (h : Headings) → (out-Routine r).block ≡ Some b
    → routine_of end owner.name (out-Routine r) ≡ Some f
    → inner_rows end owner (r ∷ []) h ≡ block_rows end (out-Routine r).heading.ident f (owner_of f owner) b h
rows_one end owner r b f h s e =
    ap rows_all (with_block end owner r b f h s e)
    ∙ append-nil (block_rows end (out-Routine r).heading.ident f (owner_of f owner) b h)
