-- Check faults. A part of an item that is judged has a kind: the least number of the rules that it breaks, from 1 to 11,
-- or `CLEAN`. The first item in the order of the text that is not `CLEAN` is the fault of the program.
use Rattle.std.specs.Prelude.{ℕ, Bool, nat_lt, if◌then◌else◌, Option, Some, None}
use Rattle.dice_base.specs.declared.name.Name.{Name}
use Rattle.check_rules.specs.declared.kinds.TheConstants.{CLEAN}
use Rattle.check_rules.specs.declared.fault.CheckFault.{CheckFault}

-- the kind of a rule, where the test says that it is kept
abbrev pub kind_unless : Bool → ℕ → ℕ
kind_unless kept kind = if kept then CLEAN else kind

-- the fault of an item with this least kind
abbrev pub fault_at : Name → ℕ → Option CheckFault
fault_at name kind = if nat_lt kind CLEAN then Some (record { kind = kind; name = name }) else None
