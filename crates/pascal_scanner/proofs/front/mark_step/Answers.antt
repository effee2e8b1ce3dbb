use Rattle.pascal_scanner.proofs.Marks.{hole_at}
use Rattle.pascal_scanner.proofs.front.mark_step.Goals as goal

pub returns-then-text-eq35-clause-ok : goal.returns-then-text-eq35-clause-ok
returns-then-text-eq35-clause-ok c = hole_at _ c.requires.some c.if-text-eq35.true
