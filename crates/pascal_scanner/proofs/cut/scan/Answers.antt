use Rattle.std.proofs.Common.{arith}
use Rattle.pascal_scanner.proofs.Onward.{read-start, read-done, read-stands, stand-few, Lexes-one}
use Rattle.pascal_scanner.proofs.cut.scan.Goals as goal

pub loop-at-init : goal.loop-at-init
loop-at-init c = rw c.new-tokens.ensures.items (read-start _)

pub returns-clause-tokens : goal.returns-clause-tokens
returns-clause-tokens c = read-done _ _ _ c.loop-at.invariant c.loop-at-test.false

pub returns-clause-only : goal.returns-clause-only
returns-clause-only c = λ list l. Lexes-one _ _ _ l (read-done _ _ _ c.loop-at.invariant c.loop-at-test.false)

pub returns-clause-spans : goal.returns-clause-spans
returns-clause-spans c = read-stands _ _ _ c.loop-at.invariant c.loop-at-test.false

pub returns-clause-few : goal.returns-clause-few
returns-clause-few c = stand-few _ _ _ (read-stands _ _ _ c.loop-at.invariant c.loop-at-test.false) (omega arith)
