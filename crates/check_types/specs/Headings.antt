-- Headings of procedures and functions (ISO 7185:1990, 6.6.1 to 6.6.3). The regions `rs` are those around the routine.
use Rattle.std.specs.Prelude.{ℕ, min, Bool, true, false, ◌&&◌, ◌||◌, not, List, [], ◌∷◌, ◌++◌, Option, Some, None, is_some}
use Rattle.pascal_tree.specs.declared.decl.Section.{Section}
use Rattle.pascal_tree.specs.declared.decl.Heading.{Heading}
use Rattle.check_rules.specs.declared.kinds.TheConstants.{CLEAN, WRONG_TYPE}
use Rattle.check_rules.specs.declared.typing.Typing.{Typing}
use Rattle.check_rules.specs.declared.typing.Typing.TheVariants.{Unknown}
use Rattle.check_rules.specs.declared.entity.Region.{Region}
use Rattle.check_rules.specs.declared.entity.Entity.{Entity}
use Rattle.check_rules.specs.declared.entity.Entity.TheVariants.{VariableOf}
use Rattle.check_rules.specs.Typing.{Table, Text, host_of, domain_of}
use Rattle.check_rules.specs.Faults.{kind_unless}
use Rattle.check_rules.specs.Regions.{Texts, Regions, new_region, declare, entity_of, entity_through}
use Rattle.check_types.specs.TypeRules.{type_of_entity, type_of_ident}
use Rattle.check_types.specs.declared.headings.HeadingWalk.{HeadingWalk}
use Rattle.check_types.specs.declared.headings.JudgedHeading.{JudgedHeading}

abbrev pub section_idents : List Section → Texts
section_idents [] = []
section_idents (s ∷ ss) = s.idents ++ section_idents ss

-- ---- parameters: those of one heading are in one region

abbrev pub parameter_entity : Bool → Typing → Entity
parameter_entity by_place t = VariableOf (record {
  owner = record { 0 = 0 };
  typing = t;
  offset = 0;
  by_place = by_place;
  local = false;
})

abbrev pub with_parameter : Bool → Typing → Text → HeadingWalk → Region × ℕ → HeadingWalk
with_parameter by_place t x w (own, kind) = record {
  own = own;
  parameters = w.parameters ++ record { ident = x; by_place = by_place; typing = t } ∷ [];
  kind = min w.kind kind;
}

abbrev pub with_parameters : Bool → Typing → Texts → HeadingWalk → HeadingWalk
with_parameters by_place t [] w = w
with_parameters by_place t (x ∷ xs) w =
    with_parameters by_place t xs
    (with_parameter by_place t x w (declare w.own x (parameter_entity by_place t)))

abbrev pub with_section : Section → HeadingWalk → Typing × ℕ → HeadingWalk
with_section s w (t, kind) =
    with_parameters s.by_place t s.idents (record w { kind = min w.kind kind })

-- the type of a section is looked for outside the routine, where the parameters before it do not hide it
abbrev pub section_type : Regions → Region → Text → Typing × ℕ
section_type rs own x = type_of_entity (entity_through own x (entity_of rs x))

abbrev pub with_sections : Regions → List Section → HeadingWalk → HeadingWalk
with_sections rs [] w = w
with_sections rs (s ∷ ss) w = with_sections rs ss (with_section s w (section_type rs w.own s.shape))

-- ---- results (6.6.2): ordinal or a pointer

abbrev pub may_be_result : Table → Typing → Bool
may_be_result tys Unknown = true
may_be_result tys t = is_some (host_of tys t) || is_some (domain_of tys t)

abbrev pub result_of_type : Table → Typing × ℕ → Typing × ℕ
result_of_type tys (t, kind) = (t, min kind (kind_unless (may_be_result tys t) WRONG_TYPE))

abbrev pub result_of : Table → Regions → Option Text → Typing × ℕ
result_of tys rs None = (Unknown, CLEAN)
result_of tys rs (Some x) = result_of_type tys (type_of_ident rs x)

-- ---- whole headings

abbrev pub heading_with : HeadingWalk → Typing × ℕ → JudgedHeading
heading_with w (t, kind) = record { parameters = w.parameters; result = t; kind = min w.kind kind }

abbrev pub new_walk : Texts → HeadingWalk
new_walk xs = record { own = new_region xs; parameters = []; kind = CLEAN }

abbrev pub heading_of : Table → Regions → Heading → JudgedHeading
heading_of tys rs h =
    heading_with (with_sections rs h.sections (new_walk (section_idents h.sections)))
    (result_of tys rs h.result)

-- a function without the type of its result
abbrev pub lacks_result : Heading → Bool
lacks_result h = h.function && not (is_some h.result)

abbrev pub has_sections : List Section → Bool
has_sections [] = false
has_sections (s ∷ ss) = true

-- nothing but class and identifier, as the block of a forward heading has it
abbrev pub is_bare_heading : Heading → Bool
is_bare_heading h = not (has_sections h.sections) && not (is_some h.result)
