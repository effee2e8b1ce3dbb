-- Where an identifier is looked for (ISO 7185:1990, 6.2.2): in the regions around the use, of which the innermost that
-- declares it anywhere is meant. Where it does so only after the use, the identifier is unknown. In lists of regions the
-- outermost is the first.
use Rattle.std.specs.Prelude.{◌≡◌, ℕ, Bool, true, false, ◌||◌, if◌then◌else◌, List, [], ◌∷◌, ◌++◌, map, Option, Some, None, is_some, bytes_eq, codes, pos}
use Rattle.dice_base.specs.declared.name.Name.{Name}
use Rattle.check_rules.specs.declared.typing.Host.TheVariants as host
use Rattle.check_rules.specs.declared.typing.Typing.{Typing}
use Rattle.check_rules.specs.declared.typing.Typing.TheVariants.{Ordinal}
use Rattle.check_rules.specs.declared.entity.Entity.{Entity}
use Rattle.check_rules.specs.declared.entity.Entity.TheVariants.{ConstantOf, TypeOf, VariableOf, FileOf, FieldOf, RoutineOf, StandardOf}
use Rattle.check_rules.specs.declared.entity.Constant.TheVariants.{Number}
use Rattle.check_rules.specs.declared.entity.Standard.{Standard}
use Rattle.check_rules.specs.declared.entity.Standard.TheVariants as standard
use Rattle.check_rules.specs.declared.entity.StandardFile.TheVariants as file
use Rattle.check_rules.specs.declared.entity.Declared.{Declared}
use Rattle.check_rules.specs.declared.entity.Region.{Region}
use Rattle.check_rules.specs.Typing.{Text}
use Rattle.check_rules.specs.Faults.{kind_unless}
use Rattle.check_rules.specs.declared.kinds.TheConstants.{CLEAN, TWICE}

abbrev pub Texts : Type 0
Texts = List Text

abbrev pub Regions : Type 0
Regions = List Region

abbrev pub has_ident : Texts → Text → Bool
has_ident [] x = false
has_ident (y ∷ ys) x = bytes_eq y x || has_ident ys x

abbrev pub entity_in : List Declared → Text → Option Entity
entity_in [] x = None
entity_in (d ∷ ds) x = if bytes_eq d.ident x then Some d.entity else entity_in ds x

abbrev pub entity_or_outer : Option Entity → Bool → Option Entity → Option Entity
entity_or_outer (Some e) later outer = Some e
entity_or_outer None later outer = if later then None else outer

-- what the identifier stands for in a region, where it stands for this outside
abbrev pub entity_through : Region → Text → Option Entity → Option Entity
entity_through r x outer = entity_or_outer (entity_in r.declared x) (has_ident r.later x) outer

abbrev pub entity_within : Option Entity → Regions → Text → Option Entity
entity_within outer [] x = outer
entity_within outer (r ∷ rs) x = entity_within (entity_through r x outer) rs x

abbrev pub entity_of : Regions → Text → Option Entity
entity_of rs x = entity_within None rs x

-- ---- declaring in a region (6.2.2.7: once)

abbrev pub new_region : Texts → Region
new_region later = record { declared = []; later = later; types = []; constants = [] }

abbrev pub declaration_of : Text → Entity → Declared
declaration_of x e = record { ident = x; entity = e }

abbrev pub region_with : Region → Text → Entity → Region
region_with r x e = record r { declared = r.declared ++ declaration_of x e ∷ [] }

abbrev pub region_after : Region → Text → Entity → Option Entity → Region × ℕ
region_after r x e (Some old) = (r, TWICE)
region_after r x e None = (region_with r x e, CLEAN)

-- the region with one more identifier, and whether it was declared there already
abbrev pub declare : Region → Text → Entity → Region × ℕ
declare r x e = region_after r x e (entity_in r.declared x)

-- ---- what is predeclared, in a region round the program (6.2.2.10)

abbrev pub standard_types : List Declared
standard_types =
    declaration_of (codes "integer") (TypeOf (Ordinal host.Integer) None)
    ∷ declaration_of (codes "boolean") (TypeOf (Ordinal host.Boolean) None)
    ∷ declaration_of (codes "char") (TypeOf (Ordinal host.Char) None)
    ∷ []

abbrev pub standard_constants : List Declared
standard_constants =
    declaration_of (codes "false") (ConstantOf (Number (pos 0)) (Ordinal host.Boolean))
    ∷ declaration_of (codes "true") (ConstantOf (Number (pos 1)) (Ordinal host.Boolean))
    ∷ declaration_of (codes "maxint") (ConstantOf (Number (pos 32767)) (Ordinal host.Integer))
    ∷ []

abbrev pub standard_files : List Declared
standard_files = declaration_of (codes "input") (FileOf file.Input) ∷ declaration_of (codes "output") (FileOf file.Output) ∷ []

abbrev pub standard_functions : List Declared
standard_functions =
    declaration_of (codes "abs") (StandardOf standard.Abs)
    ∷ declaration_of (codes "sqr") (StandardOf standard.Sqr)
    ∷ declaration_of (codes "odd") (StandardOf standard.Odd)
    ∷ declaration_of (codes "ord") (StandardOf standard.Ord)
    ∷ declaration_of (codes "chr") (StandardOf standard.Chr)
    ∷ declaration_of (codes "succ") (StandardOf standard.Succ)
    ∷ declaration_of (codes "pred") (StandardOf standard.Pred)
    ∷ declaration_of (codes "eof") (StandardOf standard.Eof)
    ∷ declaration_of (codes "eoln") (StandardOf standard.Eoln)
    ∷ []

abbrev pub standard_procedures : List Declared
standard_procedures =
    declaration_of (codes "new") (StandardOf standard.New)
    ∷ declaration_of (codes "dispose") (StandardOf standard.Dispose)
    ∷ declaration_of (codes "read") (StandardOf standard.Read)
    ∷ declaration_of (codes "readln") (StandardOf standard.Readln)
    ∷ declaration_of (codes "write") (StandardOf standard.Write)
    ∷ declaration_of (codes "writeln") (StandardOf standard.Writeln)
    ∷ []

abbrev pub predeclared_region : Region
predeclared_region = record {
  declared = standard_types ++ (standard_constants ++ (standard_files ++ (standard_functions ++ standard_procedures)));
  later = [];
  types = [];
  constants = [];
}
