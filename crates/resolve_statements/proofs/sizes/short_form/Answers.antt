use Rattle.std.proofs.Common.{refl}
use Rattle.resolve_statements.proofs.Fitting.{many_holds, all_fit}
use Rattle.resolve_statements.proofs.sizes.short_form.Goals as goal

pub returns-then-holds-gt-MAX_BLOCK_HOLDS : goal.returns-then-holds-gt-MAX_BLOCK_HOLDS
returns-then-holds-gt-MAX_BLOCK_HOLDS c = λ short.
    many_holds c.args.name c.args.form c.need-words.result c.statement_holds-holds.result short c.need-words.ensures.words c.if-words-gt-MAX_BLOCK_TEMPS.false c.statement_holds-holds.ensures c.if-holds-gt-MAX_BLOCK_HOLDS.true

pub returns : goal.returns
returns c = λ short. (
  refl,
  all_fit c.args.name c.args.form c.need-words.result c.statement_holds-holds.result short c.need-words.ensures.words c.if-words-gt-MAX_BLOCK_TEMPS.false c.statement_holds-holds.ensures c.if-holds-gt-MAX_BLOCK_HOLDS.false,
)
