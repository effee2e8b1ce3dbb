use Rattle.std.proofs.Common.{◌∙◌, arith}
use Rattle.dice_program.proofs.Kept.{front-added}
use Rattle.dice_program.proofs.text.add_front.Goals as goal

pub returns : goal.returns
returns c = c.in_ok-extend_from_slice.ensures.items ∙ front-added c.args.text.now.items c.args.bytes.now c.len-room.result c.min-count.result (omega (arith, c.len-room.ensures)) c.min-count.ensures c.requires
