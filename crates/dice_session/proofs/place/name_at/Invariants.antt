use Rattle.std.proofs.Common.{◌≡◌, ◌+◌, drop}
use Rattle.pascal_semantics.specs.Charge.{charges_of}
use Rattle.dice_session.specs.Places.{name_from}
use Rattle.dice_session.proofs.place.name_at.Given as goal

abbrev pub invariant-loop-statement : goal.invariant-loop-statement
invariant-loop-statement l = record {
  rest : name_from l.finish (drop l.statement-index l.statements) l.place ≡ name_from 288 l.fn.statements l.fn.place;
  words : l.finish + charges_of (drop l.statement-index l.statements) ≡ 288 + charges_of l.fn.statements;
}
