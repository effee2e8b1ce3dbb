use Rattle.std.proofs.Common.{take}
use Rattle.image_plan.specs.Codes.{AreCodes}
use Rattle.image_plan.proofs.load.emit_all.Given as goal

abbrev pub invariant-loop-statement : goal.invariant-loop-statement
invariant-loop-statement l = AreCodes (take l.statement-index l.statements) l.codes.items
