use Rattle.std.proofs.Common.{Some, None, refl, arith}
use Rattle.pdp11_code.specs.declared.table.Shape.TheVariants.{SingleOperand}
use Rattle.pdp11_code.proofs.Found.{found}
use Rattle.pdp11_code.proofs.reading.high_shape.Goals as goal

pub returns-in-138-to-140 : goal.returns-in-138-to-140
returns-in-138-to-140 c = found 35328 36096 c.args.word (Some SingleOperand) (omega (arith, c.in-138-to-140)) (omega (arith, c.in-138-to-140)) refl

pub returns-in_default-2 : goal.returns-in_default-2
returns-in_default-2 c = found 36096 36864 c.args.word None (omega (arith, c.requires, c.in_default)) (omega (arith, c.requires, c.in_default)) refl
