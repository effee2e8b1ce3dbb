use Rattle.std.proofs.Common.{◌≡◌, ◌≤◌, ◌+◌, ◌*◌, drop}
use Rattle.pascal_semantics.specs.Charge.{charges_of}
use Rattle.pascal_semantics.proofs.charges.code_words.Given as goal

abbrev pub invariant-loop-statement : goal.invariant-loop-statement
invariant-loop-statement l = record {
  rest : l.words + charges_of (drop l.statement-index l.statements) ≡ 32 + charges_of l.fn.statements;
  bound : l.words ≤ 32 + 84 * l.statement-index;
}
