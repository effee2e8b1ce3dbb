use Rattle.std.proofs.Common.{subst, sym}
use Rattle.script_lines.specs.Front.{strip, SameFront}
use Rattle.script_lines.proofs.Fronts.{same-front}
use Rattle.script_lines.proofs.line.stripped.Goals as goal

pub returns-clause-front : goal.returns-clause-front
returns-clause-front c = λ l is. subst (SameFront (strip l)) (sym c.without_return.ensures) (same-front l c.args.line.now is)
