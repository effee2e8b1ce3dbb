-- A worked program, at the end of the walk through it. Trees are given by what their parts are:
--
--   program main;
--   var x : integer;
--   procedure outer;
--     var y : char;
--     function inner(var a : integer) : char; begin .. end;
--   begin .. end;
--   procedure last; forward;
--   procedure last; begin .. end;
--   begin .. end.
use Rattle.std.specs.Prelude.{◌≡◌, refl, ℕ, false, true, List, [], ◌∷◌, Option, Some, None, codes}
use Rattle.dice_base.specs.declared.name.Name.{Name}
use Rattle.pascal_tree.specs.declared.stmt.Stmt.{Stmt}
use Rattle.pascal_tree.specs.declared.decl.Block.{Block-F}
use Rattle.check_rules.specs.declared.typing.Host.TheVariants as host
use Rattle.check_rules.specs.declared.typing.Typing.TheVariants.{Ordinal, Unknown}
use Rattle.check_rules.specs.declared.entity.Declared.{Declared}
use Rattle.check_rules.specs.declared.entity.Entity.TheVariants.{VariableOf, RoutineOf}
use Rattle.check_rules.specs.declared.entity.Region.{Region}
use Rattle.check_rules.specs.declared.entity.RoutineEntity.{RoutineEntity}
use Rattle.check_rules.specs.Regions.{predeclared_region}
use Rattle.check_rules.specs.Typing.{Text}
use Rattle.check_decl.specs.declared.place.At.{At}
use Rattle.check_decl.specs.declared.place.Owner.{Owner}
use Rattle.check_decl.specs.BlockRules.{program_owner}
use Rattle.resolve_expr.specs.declared.context.Context.{Context}
use Rattle.resolve_expr.specs.declared.context.OwnerWords.{OwnerWords}
use Rattle.core_tree.specs.Plain.{Block, Formal, Head, Local, Routine, NoRoutine, Also}
use Rattle.core_tree.specs.Shapes.{ShapeTree, Char, Integer}
use Rattle.resolve_types.specs.Programs.{BlockView, BodyRule, RoutineView, entered, headings_in, in_block, program_entity}
use Rattle.core_tree.specs.Control.{core_routines}

abbrev name : ℕ → Name
name n = record { 0 = n }

abbrev declares : List Declared → Region
declares ds = record { declared = ds; later = []; types = []; constants = [] }

abbrev outer : RoutineEntity
outer = record { name = name 3; function = false; level = 1; parameters = []; result = Unknown; forward = false }

abbrev inner : RoutineEntity
inner = record {
  name = name 5;
  function = true;
  level = 2;
  parameters = record { ident = codes "a"; by_place = true; typing = Ordinal host.Integer } ∷ [];
  result = Ordinal host.Char;
  forward = false;
}

-- known under the name of the item with its block
abbrev last : RoutineEntity
last = record { name = name 10; function = false; level = 1; parameters = []; result = Unknown; forward = true }

abbrev main_region : Region
main_region =
    declares
    (record { ident = codes "x"; entity = VariableOf (record { owner = name 1; typing = Ordinal host.Integer; offset = 0; by_place = false; local = true }) }
    ∷ record { ident = codes "outer"; entity = RoutineOf outer }
    ∷ record { ident = codes "last"; entity = RoutineOf last }
    ∷ [])

abbrev outer_region : Region
outer_region = declares (record { ident = codes "inner"; entity = RoutineOf inner } ∷ [])

abbrev inner_owner : Owner
inner_owner = record { name = name 5; level = 2; functions = name 3 ∷ name 5 ∷ [] }

abbrev end : At
end = record {
  known = record {
    table = [];
    domains = [];
    changed = [];
    layouts =
        record { owner = name 1; level = 0; rows = record { ident = codes "x"; typing = Ordinal host.Integer; offset = 0; by_place = false } ∷ []; words = 1 }
        ∷ record { owner = name 3; level = 1; rows = record { ident = codes "y"; typing = Ordinal host.Char; offset = 0; by_place = false } ∷ []; words = 1 }
        ∷ record {
          owner = name 5;
          level = 2;
          rows =
              record { ident = codes "inner"; typing = Ordinal host.Char; offset = 0; by_place = false }
              ∷ record { ident = codes "a"; typing = Ordinal host.Integer; offset = 1; by_place = true }
              ∷ [];
          words = 2;
        }
        ∷ record { owner = name 10; level = 1; rows = []; words = 0 }
        ∷ [];
    places =
        record { owner = inner_owner; region = declares [] }
        ∷ record { owner = record { name = name 3; level = 1; functions = name 3 ∷ [] }; region = outer_region }
        ∷ record { owner = record { name = name 10; level = 1; functions = name 10 ∷ [] }; region = declares [] }
        ∷ [];
  };
  block = main_region;
  rows = [];
  words = 1;
}

-- what stands around a body, in these regions, with the words of these owners
abbrev around : ℕ → ℕ → List Name → List Region → List OwnerWords → Context
around n level functions regions owners = record {
  env = record {
    table = [];
    domains = [];
    regions = predeclared_region ∷ (main_region ∷ regions);
    opened = [];
    holds = 0;
    owner = name n;
    functions = functions;
    changed = [];
  };
  level = level;
  owners = record { owner = name 1; level = 0; words = 1 } ∷ owners;
}

abbrev outer_words : OwnerWords
outer_words = record { owner = name 3; level = 1; words = 1 }

abbrev in_inner : Context
in_inner =
    around 5 2 (name 3 ∷ name 5 ∷ []) (outer_region ∷ declares [] ∷ [])
    (outer_words ∷ record { owner = name 5; level = 2; words = 2 } ∷ [])

-- ---- the program, whose bodies are a, b, c and d in the order of the text

abbrev block : List RoutineView → Stmt → Block-F BlockView RoutineView
block routines body =
    record { labels = None; consts = []; types = []; vars = []; routines = routines; body = body }

abbrev declared : BodyRule → ℕ → Text → List RoutineView → Stmt → RoutineView
declared rule n x routines s = record { name = name n; ident = x; block = Some (in_block rule end (block routines s)) }

abbrev main : BodyRule → Stmt → Stmt → Stmt → Stmt → Routine
main rule a b c d =
    in_block rule end
    (block
    (declared rule 3 (codes "outer") (declared rule 5 (codes "inner") [] a ∷ []) b
    ∷ record { name = name 9; ident = codes "last"; block = None }
    ∷ declared rule 10 (codes "last") [] c
    ∷ [])
    d)
    (codes "main") program_entity program_owner

abbrev head : ℕ → Text → ℕ → List Formal → Option ShapeTree → List Local → Head
head n x level parameters result locals =
    record { name = n; ident = x; level = level; heading = record { parameters = parameters; result = result }; locals = locals }

abbrev program_worked :
    (rule : BodyRule) (a b c d : Stmt)
    → main rule a b c d
    ≡ Block (head 1 (codes "main") 0 [] None (record { ident = codes "x"; shape = Integer } ∷ []))
    (Also
    (Block (head 3 (codes "outer") 1 [] None (record { ident = codes "y"; shape = Char } ∷ []))
    (Also
    (Block (head 5 (codes "inner") 2 (record { ident = codes "a"; by_place = true; shape = Integer } ∷ []) (Some Char) [])
    NoRoutine (rule a in_inner))
    NoRoutine)
    (rule b (around 3 1 (name 3 ∷ []) (outer_region ∷ []) (outer_words ∷ []))))
    (Also
    (Block (head 10 (codes "last") 1 [] None []) NoRoutine
    (rule c (around 10 1 (name 10 ∷ []) (declares [] ∷ []) (record { owner = name 10; level = 1; words = 0 } ∷ []))))
    NoRoutine))
    (rule d (around 1 0 [] [] []))
program_worked rule a b c d = refl

-- a call of `inner` is told by its heading, and one of a routine that is not there does not come
abbrev heading_worked :
    (rule : BodyRule) (a b c d : Stmt)
    → headings_in (core_routines (main rule a b c d)) 5
    ≡ record { parameters = record { ident = codes "a"; by_place = true; shape = Integer } ∷ []; result = Some Char }
heading_worked rule a b c d = refl

abbrev no_heading_worked :
    (rule : BodyRule) (a b c d : Stmt)
    → headings_in (core_routines (main rule a b c d)) 7 ≡ record { parameters = []; result = None }
no_heading_worked rule a b c d = refl

-- from the block of `outer` into that of `inner`
abbrev entered_worked : entered end inner (around 3 1 (name 3 ∷ []) (outer_region ∷ []) (outer_words ∷ [])) ≡ in_inner
entered_worked = refl
