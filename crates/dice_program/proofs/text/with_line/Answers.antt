use Rattle.std.proofs.Common.{◌++◌, ap, length, arith}
use Rattle.std.proofs.lemmas.List.{length-take}
use Rattle.dice_program.specs.Kept.{kept_text}
use Rattle.dice_program.proofs.text.with_line.Goals as goal

pub add_front-requires-2 : goal.add_front-requires-2
add_front-requires-2 c = omega (arith, ap length c.in_ok-add_front.ensures, length-take kept_text (c.args.text.items ++ c.args.line.now))
