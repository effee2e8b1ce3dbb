-- The first block of a table, in the order of the text, that does not fit its limits: words of code before words of
-- temporaries before holds.
use Rattle.std.specs.Prelude.{ℕ, ◌≡◌, nat_le, if◌then◌else◌, List, [], ◌∷◌, ◌++◌, Option, Some, None, Result, Ok, Err}
use Rattle.dice_base.specs.declared.name.Name.{Name}
use Rattle.check_rules.specs.declared.fault.SizeFault.{SizeFault}
use Rattle.check_rules.specs.declared.fault.SizeFault.TheVariants as size
use Rattle.check_rules.specs.declared.fault.CheckEnd.{CheckEnd}
use Rattle.check_rules.specs.declared.fault.CheckEnd.TheVariants as the_end
use Rattle.core_tree.specs.Charge.{charge_of, counted_charge, holds_of, need_of}
use Rattle.core_tree.specs.Control.{Row, name_of}
use Rattle.core_tree.specs.Plain.{BlockForm}
use Rattle.resolve_expr.specs.declared.context.TheConstants.{MAX_BLOCK_WORDS}
use Rattle.resolve_statements.specs.declared.limits.TheConstants.{MAX_BLOCK_TEMPS, MAX_BLOCK_HOLDS}

abbrev pub first_of : Option SizeFault → Option SizeFault → Option SizeFault
first_of (Some f) later = Some f
first_of None later = later

abbrev pub fault_past : ℕ → ℕ → SizeFault → Option SizeFault
fault_past limit n f = if nat_le n limit then None else Some f

-- what is counted is told up to 1,000,000
abbrev pub form_fault : Name → BlockForm → Option SizeFault
form_fault n f =
    first_of (fault_past MAX_BLOCK_WORDS (charge_of f) (size.BlockTooLong n (counted_charge (charge_of f))))
    (first_of (fault_past MAX_BLOCK_TEMPS (need_of f) (size.TooManyTemps n (counted_charge (need_of f))))
    (fault_past MAX_BLOCK_HOLDS (holds_of f) (size.TooManyHolds n (counted_charge (holds_of f)))))

module _ {A B : Type 0} where
  abbrev pub first_size : List (Row A B) → Option SizeFault
  first_size [] = None
  first_size (r ∷ rs) = first_of (form_fault (name_of r.name) r.form) (first_size rs)

  -- all these rows stand in the table behind the old ones, and fit
  pub record ArePushed (old new rows : List (Row A B)) : Type 0 where
    pub pushed : new ≡ old ++ rows
    pub fit : first_size rows ≡ None

  -- or the first that does not is told. Want of memory tells nothing, and what breaks a rule of the check is none of these
  abbrev pub Pushed : {U : Type 0} → Result U CheckEnd → List (Row A B) → List (Row A B) → List (Row A B) → Type 0
  Pushed (Ok u) old new rows = ArePushed old new rows
  Pushed (Err (the_end.Size f)) old new rows = first_size rows ≡ Some f
  Pushed (Err (the_end.Fault f)) old new rows = ⊥
  Pushed (Err the_end.NoMemory) old new rows = Unit {0}
