use Rattle.std.proofs.Common.{Some, None, refl, arith}
use Rattle.pdp11_code.specs.declared.table.Shape.TheVariants.{DoubleOperand}
use Rattle.pdp11_code.proofs.Found.{found}
use Rattle.pdp11_code.proofs.reading.shape_of.Goals as goal

pub returns-in-9-to-14 : goal.returns-in-9-to-14
returns-in-9-to-14 c = found 36864 61440 c.args.word (Some DoubleOperand) (omega (arith, c.in-9-to-14)) (omega (arith, c.in-9-to-14)) refl

pub returns-in_default : goal.returns-in_default
returns-in_default c = found 61440 65536 c.args.word None (omega (arith, c.in_default)) (omega (arith, c.in_default, c.ranges.word)) refl
