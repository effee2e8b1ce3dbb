use Rattle.std.proofs.Common.{length}
use Rattle.image_plan.proofs.lay.+lay_statements.Given as goal

-- proposed from what the function passes where it calls itself
abbrev pub decreases-lay_statements : goal.decreases-lay_statements
decreases-lay_statements l = length l.codes.now
