-- What comes of the body of a block: its first fault, or what it changes.
use Rattle.std.specs.Prelude.{ℕ, List, [], ◌∷◌, ◌++◌, Option, Some, None, Result, Ok, Err}
use Rattle.dice_base.specs.declared.name.Name.{Name}
use Rattle.check_rules.specs.declared.fault.CheckFault.{CheckFault}
use Rattle.check_rules.specs.Regions.{Regions}
use Rattle.expression_rules.specs.declared.notes.Env.{Env}
use Rattle.expression_rules.specs.Values.{VariableName}
use Rattle.check_decl.specs.declared.place.At.{At}
use Rattle.check_decl.specs.declared.place.Owner.{Owner}
use Rattle.check_decl.specs.declared.place.Known.{Known}
use Rattle.check_decl.specs.declared.place.Layout.{Layout}
use Rattle.check_decl.specs.declared.place.BodyPlace.{BodyPlace}
use Rattle.check_decl.specs.declared.place.Row.{Row}
use Rattle.check_rules.specs.declared.entity.Region.{Region}
use Rattle.body_labels.specs.Labels.{Numbers}
use Rattle.check_decl.specs.BlockRules.{Outcome, regions_at}
use Rattle.check_body.specs.StatementRules.{Judge, first_fault}

abbrev pub env_at : Owner → Regions → At → Env
env_at owner outer here = record {
  table = here.known.table;
  domains = here.known.domains;
  regions = regions_at outer here;
  opened = [];
  holds = 0;
  owner = owner.name;
  functions = owner.functions;
  changed = here.known.changed;
}

-- the place behind a body that changes these variables
abbrev pub place_behind :
    Env → List Layout → List BodyPlace → List Row → ℕ → List VariableName → Region → At
place_behind env layouts places rows words changes block = record {
  known = record {
    table = env.table;
    domains = env.domains;
    changed = env.changed ++ changes;
    layouts = layouts;
    places = places;
  };
  block = block;
  rows = rows;
  words = words;
}

abbrev pub after_body : At → List VariableName → Option CheckFault → Outcome
after_body here changes (Some e) = Err e
after_body here changes None =
    Ok (record here { known = record (here.known) { changed = here.known.changed ++ changes } })

abbrev pub body_outcome : Judge → Owner → Regions → At → Outcome
body_outcome j owner outer here =
    after_body here (j.changes (env_at owner outer here)) (first_fault (j.kinds (env_at owner outer here) []))

abbrev pub layouts_in : Outcome → Result (List Layout) CheckFault
layouts_in (Ok here) = Ok here.known.layouts
layouts_in (Err e) = Err e
