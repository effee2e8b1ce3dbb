use Rattle.std.proofs.Common.{[]}
use Rattle.resolve_statements.proofs.parts.one_part.Goals as goal

pub returns : goal.returns
returns c = λ x is. c.appended.ensures [] x c.no_parts.ensures is
