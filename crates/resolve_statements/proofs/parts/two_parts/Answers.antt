use Rattle.std.proofs.Common.{[], ◌∷◌}
use Rattle.resolve_statements.proofs.parts.two_parts.Goals as goal

pub returns : goal.returns
returns c = λ x y first second. c.in_ok-two.ensures (x ∷ []) y (c.in_ok-one.ensures [] x c.no_parts.ensures first) second
