use Rattle.std.proofs.Common.{length, arith, ap, sym, ◌∙◌, subst}
use Rattle.pascal_semantics.specs.State.{loaded_state}
use Rattle.dice_session.specs.Places.{with_words, with_start}
use Rattle.dice_session.specs.Simulates.{SimulatesRun}
use Rattle.dice_session.proofs.Loaded.{loaded_stands}
use Rattle.dice_session.proofs.loading.load.Goals as goal

pub write_words-requires : goal.write_words-requires
write_words-requires c = omega (arith, c.requires.fits, c.in_ok-words.ensures.long, ap length c.deref.ensures.value)

pub returns-clause-simulates : goal.returns-clause-simulates
returns-clause-simulates c =
    let same = c.write_words.ensures ∙ ap (λ m. with_start (with_words m 256 c.deref.result.now)) c.reset-2.ensures ∙ ap (λ ws. with_start (with_words _ 256 ws)) c.deref.ensures.value in
    subst (SimulatesRun c.args.statements.now loaded_state) (sym same) (loaded_stands c.args.statements.now _ c.requires c.in_ok-words.ensures)
