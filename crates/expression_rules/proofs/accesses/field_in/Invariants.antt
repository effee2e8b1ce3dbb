use Rattle.std.proofs.Common.{◌≡◌, drop}
use Rattle.expression_rules.specs.Accesses.{field_in}
use Rattle.expression_rules.proofs.accesses.field_in.Given as goal

abbrev pub invariant-loop-field : goal.invariant-loop-field
invariant-loop-field l = field_in l.fields l.ident ≡ field_in (drop l.field-index l.fields) l.ident
