use Rattle.std.proofs.Common.{Some, ap, sym, ◌∙◌}
use Rattle.resolve_statements.proofs.Fitting.{too_long, taken}
use Rattle.resolve_statements.proofs.sizes.block_form.Goals as goal

pub returns-then-kept-gt-MAX_BLOCK_WORDS : goal.returns-then-kept-gt-MAX_BLOCK_WORDS
returns-then-kept-gt-MAX_BLOCK_WORDS c = λ f is. too_long c.args.name c.args.kept f is c.if-kept-gt-MAX_BLOCK_WORDS.true

pub returns-in-Some : goal.returns-in-Some
returns-in-Some c = λ f is. taken c.short_form.result c.args.name c.args.kept f _ is (c.in-Some.is ∙ ap (λ x. Some x) (sym c.in-Some.form-is)) c.short_form.ensures
