use Rattle.std.proofs.Common.{arith}
use Rattle.pdp11_code.proofs.Put.{put_one, put_two}
use Rattle.pdp11_code.proofs.writing.write_one.Goals as goal

pub returns-in-None-clause-words : goal.returns-in-None-clause-words
returns-in-None-clause-words c = rw c.in-None.is (put_one c.args.out.now c.args.first (omega arith))

pub returns-in-Some-clause-words : goal.returns-in-Some-clause-words
returns-in-Some-clause-words c = rw c.in-Some.is (put_two c.args.out.now c.args.first c.in-Some.word (omega arith))
