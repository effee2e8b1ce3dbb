-- What the walk through a whole program adds is what the program is resolved to.
use Rattle.std.proofs.Common.{◌≡◌, ℕ, List, [], ◌∷◌, ◌++◌, map, Option, Some, None, Result, Ok, Err, ap, sym, subst, ◌∙◌}
use Rattle.dice_base.specs.declared.name.Name.{Name}
use Rattle.pascal_tree.specs.declared.program.Tree.{Tree}
use Rattle.check_rules.specs.declared.entity.RoutineEntity.{RoutineEntity}
use Rattle.check_rules.specs.declared.fault.CheckEnd.{CheckEnd}
use Rattle.check_rules.specs.declared.fault.CheckEnd.TheVariants as the_end
use Rattle.check_decl.specs.declared.place.At.{At}
use Rattle.check_decl.specs.declared.place.Owner.{Owner}
use Rattle.check_decl.specs.BlockRules.{program_owner}
use Rattle.core_tree.specs.declared.program.DomainShape.{DomainShape}
use Rattle.core_tree.specs.declared.shape.ShapeEntry.{ShapeEntry}
use Rattle.core_tree.specs.Control.{core_routines, routine_list}
use Rattle.core_tree.specs.Plain.{Heading}
use Rattle.core_tree.specs.Shapes.{trees_of}
use Rattle.core_tree.specs.Views.{routine_row}
use Rattle.resolve_types.specs.Programs.{AreBuilt, BlockView, program_entity, program_over}
use Rattle.resolve_statements.specs.Bodies.{statement_of}
use Rattle.resolve_statements.specs.Tables.{rows_of}
use Rattle.check_program.specs.declared.lists.Lists.{Lists}
use Rattle.check_program.specs.Parts.{HasSize, IsOutcome}
use Rattle.check_program.specs.Resolution.{Adds, Headings, block_listed, block_rows, trees_in}
use Rattle.check_program.proofs.Viewed.{block_is}

abbrev program_number : Name
program_number = record { 0 = 1 }

abbrev none_headed : Headings
none_headed n = record { parameters = []; result = None }

abbrev pub AddsProgram : {U : Type 0} → Result U CheckEnd → Tree → At → Lists → Lists → Type 0
AddsProgram r p end old new =
    Adds r end old new (block_listed end program_number p.ident program_entity program_owner p.block)
    (block_rows end p.ident program_entity program_owner p.block)

-- the routine that stands for the program
pub as_program : {U : Type 0} (r : Result U CheckEnd) (p : Tree) (end : At) (old new : Lists) (f : RoutineEntity) → f ≡ program_entity
    → Adds r end old new (block_listed end program_number p.ident f program_owner p.block) (block_rows end p.ident f program_owner p.block)
    → AddsProgram r p end old new
as_program r p end old new f is adds =
    subst (λ g. Adds r end old new (block_listed end program_number p.ident g program_owner p.block) (block_rows end p.ident g program_owner p.block)) is adds

pub outcome_ended : {U : Type 0} (e : CheckEnd) (p : Tree) (end : At) (old new : Lists) → AddsProgram {U = U} (Err e) p end old new → IsOutcome (Err e) p end
outcome_ended (the_end.Size s) p end old new adds = λ h. adds.blocks h
outcome_ended (the_end.Fault f) p end old new adds = adds.blocks none_headed
outcome_ended the_end.NoMemory p end old new adds = tt

listed_whole : (p : Tree) (end : At) (h : Headings)
    → block_listed end program_number p.ident program_entity program_owner p.block h
    ≡ core_routines (program_over statement_of end h p)
listed_whole p end h =
    ap (λ (v : BlockView). routine_list 1 (v p.ident program_entity program_owner)) (block_is (statement_of (trees_in end) h) end p.block)
    ∙ sym (ap (λ (v : BlockView). core_routines (v p.ident program_entity program_owner)) (block_is (statement_of (trees_in end) h) end p.block))

pub built : {U : Type 0} (u : U) (p : Tree) (end : At) (entries : List ShapeEntry) (old new : Lists) → trees_of entries ≡ trees_in end
    → old.routines ≡ [] → old.blocks ≡ [] → AddsProgram (Ok u) p end old new → AreBuilt statement_of p end entries new.routines new.blocks
built u p end entries old new same none nothing adds = record {
  trees = same;
  listed = λ h.
      ap (λ t. map (routine_row t) new.routines) same
      ∙ (adds.routines h
      ∙ (ap (λ rs. map (routine_row (trees_in end)) rs ++ block_listed end program_number p.ident program_entity program_owner p.block h) none
      ∙ listed_whole p end h));
  rows = λ h.
      ap (λ t. rows_of new.blocks t h) same
      ∙ ((adds.blocks h).pushed
      ∙ ap (λ bs. rows_of bs (trees_in end) h ++ block_rows end p.ident program_entity program_owner p.block h) nothing);
}

pub all_fit : {U : Type 0} (u : U) (p : Tree) (end : At) (old new : Lists) → AddsProgram (Ok u) p end old new → HasSize p end None
all_fit u p end old new adds = λ h. (adds.blocks h).fit
