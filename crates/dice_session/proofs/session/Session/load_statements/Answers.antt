use Rattle.std.proofs.Common.{◌+◌, ap, refl, ◌∙◌, arith, List, Some}
use Rattle.pascal_semantics.specs.declared.form.Statement.{Statement}
use Rattle.pascal_semantics.specs.Charge.{program_charge, charges_of}
use Rattle.dice_session.specs.World.{loaded_line, machine_reply, with_program}
use Rattle.dice_session.proofs.Sessions.{full-became, on_ok}
use Rattle.dice_session.proofs.Drafts.{loaded-became}
use Rattle.dice_session.proofs.session.Session.load_statements.Goals as goal

pub returns-then-words-gt-MAX_PROGRAM_WORDS : goal.returns-then-words-gt-MAX_PROGRAM_WORDS
returns-then-words-gt-MAX_PROGRAM_WORDS c = on_ok c.push_full.result c.push_full.ensures (λ told w lives.
    full-became w c.args.statements.items (machine_reply (record (with_program w c.args.program) { draft = Some c.args.program }) (loaded_line c.args.statements.items)) _ _ _ _ _ lives (c.code_words-words.ensures.words ∙ ap (λ (ss : List Statement). program_charge + charges_of ss) c.deref.ensures.value) (omega (arith, c.if-words-gt-MAX_PROGRAM_WORDS.true)) told)

pub returns : goal.returns
returns c = λ w lives.
    loaded-became w c.args.program c.args.statements.items _ _ _ _ _ _ (omega (arith, c.if-words-gt-MAX_PROGRAM_WORDS.false, c.code_words-words.ensures.words ∙ ap (λ (ss : List Statement). program_charge + charges_of ss) c.deref.ensures.value)) (c.in_ok-begin.ensures w c.args.program lives c.requires.resolves) refl refl refl refl
