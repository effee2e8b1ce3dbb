use Rattle.std.proofs.Common.{sym}
use Rattle.pascal_scanner.proofs.Takes.{gap_at}
use Rattle.pascal_scanner.proofs.front.read_step.Goals as goal

pub returns-in-Separator-clause-ok : goal.returns-in-Separator-clause-ok
returns-in-Separator-clause-ok c = gap_at _ c.requires (sym c.in-Separator.ensures)
