use Rattle.pdp11_code.proofs.Written.{read_again}
use Rattle.pdp11_code.proofs.writing.encode.Goals as goal

pub returns-clause-read_again : goal.returns-clause-read_again
returns-clause-read_again c = λ rest. rw c.write_instruction.ensures.number (read_again c.args.instr.now rest c.requires)
