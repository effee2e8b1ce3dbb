use Rattle.std.proofs.Common.{◌+◌, ap, sym, ◌∙◌, arith, List}
use Rattle.pascal_semantics.specs.declared.form.Statement.{Statement}
use Rattle.pascal_semantics.specs.Charge.{program_charge, charges_of}
use Rattle.dice_session.proofs.Sessions.{on_ok}
use Rattle.dice_session.proofs.Drafts.{apply-done}
use Rattle.dice_session.proofs.session.Session.apply_statements.Goals as goal

pub returns : goal.returns
returns c = on_ok c.begin.result c.begin.ensures (λ f w p lives is.
    apply-done w p c.args.statements.items _ _ c.args.self.now _ _ _ lives is (omega (arith, c.if-words-gt-MAX_PROGRAM_WORDS.false, c.code_words-words.ensures.words ∙ ap (λ (ss : List Statement). program_charge + charges_of ss) c.deref.ensures.value)) (sym c.is_halted.ensures ∙ c.if-is_halted.false) (f w p lives is))
