use Rattle.std.proofs.Common.{drop}
use Rattle.resolve_statements.specs.Tables.{arms_in}
use Rattle.resolve_statements.proofs.Gates.{AreLeft}
use Rattle.resolve_statements.proofs.entries.push_arm_entries.Given as goal

abbrev pub invariant-loop-arm : goal.invariant-loop-arm
invariant-loop-arm l = AreLeft l.fn.out l.out (arms_in (drop l.arm-index l.arms)) (arms_in l.arms)
