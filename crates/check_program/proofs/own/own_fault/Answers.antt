use Rattle.check_program.proofs.OwnRows.{own_long, own_short}
use Rattle.check_program.proofs.own.own_fault.Goals as goal

pub charge-words-requires : goal.charge-words-requires
charge-words-requires c = tt

pub returns-then-words-gt-MAX_BLOCK_WORDS : goal.returns-then-words-gt-MAX_BLOCK_WORDS
returns-then-words-gt-MAX_BLOCK_WORDS c = λ own. own_long c.args.name c.args.form.now c.charge-words.result own c.charge-words.ensures.words c.if-words-gt-MAX_BLOCK_WORDS.true

pub returns-else-words-gt-MAX_BLOCK_WORDS : goal.returns-else-words-gt-MAX_BLOCK_WORDS
returns-else-words-gt-MAX_BLOCK_WORDS c = λ own. own_short c.args.name c.args.form.now c.charge-words.result own c.charge-words.ensures.words c.if-words-gt-MAX_BLOCK_WORDS.false
