use Rattle.std.proofs.Common.{arith}
use Rattle.pdp11_code.proofs.Laws.{decoded_listed}
use Rattle.pdp11_code.proofs.Same.{decoded_same, decoded_number}
use Rattle.pdp11_code.proofs.reading.decode.Goals as goal

pub returns-clause-listed : goal.returns-clause-listed
returns-clause-listed c = rw c.instruction.ensures (decoded_listed c.args.words.now (λ i. omega (arith, c.type_inv.words i)))

pub returns-clause-number : goal.returns-clause-number
returns-clause-number c = rw c.instruction.ensures (decoded_number c.args.words.now)

pub returns-clause-written : goal.returns-clause-written
returns-clause-written c = rw c.instruction.ensures (decoded_same c.args.words.now (λ i. omega (arith, c.type_inv.words i)))
