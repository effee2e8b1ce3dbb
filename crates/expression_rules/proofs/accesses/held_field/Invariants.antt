use Rattle.std.proofs.Common.{◌≡◌, drop}
use Rattle.expression_rules.specs.Accesses.{held_field}
use Rattle.expression_rules.proofs.accesses.held_field.Given as goal

abbrev pub invariant-loop-field : goal.invariant-loop-field
invariant-loop-field l =
    held_field l.hold l.packed l.fields l.ident
    ≡ held_field l.hold l.packed (drop l.field-index l.fields) l.ident
