use Rattle.std.proofs.Common.{◌∙◌}
use Rattle.std.proofs.lemmas.Result.{err_from_is_err_and}
use Rattle.dice_program.proofs.Turns.{answered, cut_short}
use Rattle.dice_program.proofs.Kept.{quit-ends}
use Rattle.dice_program.proofs.serve.answer.Goals as goal

pub returns-in_err-write_all-clause-answers : goal.returns-in_err-write_all-clause-answers
returns-in_err-write_all-clause-answers g c = λ w e lives tells.
    let p = err_from_is_err_and c.from_residual-in_err-write_all.result c.from_residual-in_err-write_all.ensures.1 in
    rw (p.1, p.2) (cut_short w e c.args.line.now c.args.text.now _ _ _ _ _ _ _ _ c.in_ok-command.command tells c.in_ok-command.ensures.command (c.in_ok-command-2.ensures w lives) c.new-reply.ensures c.bytes.ensures c.in_err-write_all.ensures.part)

pub returns-clause-answers : goal.returns-clause-answers
returns-clause-answers g c = λ w e lives tells. (
  answered w e c.args.line.now c.args.text.now _ _ _ _ _ _ _ _ c.in_ok-command.command tells c.in_ok-command.ensures.command (c.in_ok-command-2.ensures w lives) c.new-reply.ensures c.bytes.ensures c.in_ok-write_all.ensures.whole,
  c.is_quit-quit.ensures ∙ quit-ends e.line e.text c.in_ok-command.command (tells c.in_ok-command.command c.in_ok-command.ensures.command),
)
