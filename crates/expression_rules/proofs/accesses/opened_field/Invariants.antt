use Rattle.std.proofs.Common.{◌≡◌, drop, None}
use Rattle.expression_rules.specs.Accesses.{field_within}
use Rattle.expression_rules.proofs.accesses.opened_field.Given as goal

abbrev pub invariant-loop-record : goal.invariant-loop-record
invariant-loop-record l =
    field_within l.env.table None l.env.opened l.ident
    ≡ field_within l.env.table l.found (drop l.record-index l.env.opened) l.ident
