use Rattle.std.proofs.Common.{◌-◌, ℕ, subst, sym, refl, ◌∙◌, arith}
use Rattle.std.proofs.lemmas.Result.{err_from_is_err_and}
use Rattle.dice_session.specs.World.{empty_world}
use Rattle.dice_session.specs.SessionOf.{IsSessionOf}
use Rattle.dice_program.specs.Kept.{items_of}
use Rattle.dice_program.proofs.Exits.{short-start, done-quit, closed-done, closed-fails, too-far, too-many}
use Rattle.dice_program.proofs.Serving.{Serving, serving-start, serving-turn}
use Rattle.dice_program.proofs.Whole.{turn-fails, turn-closes, unanswered, final-fails, final-closes}
use Rattle.dice_program.proofs.serve.serve_script.Goals as goal

pub returns-in_err-session-clause-serves : goal.returns-in_err-session-clause-serves
returns-in_err-session-clause-serves g c =
    let p = err_from_is_err_and c.from_residual.result c.from_residual.ensures.1 in
    rw (p.1, p.2) (short-start _ _ _ _ _ _)

pub loop-turn-init : goal.loop-turn-init
loop-turn-init g c = record {
  serving = serving-start _ _ _ _ (subst (IsSessionOf empty_world c.in_ok-session.session) (sym c.requires.unused) c.in_ok-session.ensures);
  source = refl;
  sink = refl;
}

pub returns-in_err-take_turn-clause-serves : goal.returns-in_err-take_turn-clause-serves
returns-in_err-take_turn-clause-serves g c =
    let s = c.loop-turn.invariant.serving in
    let p = err_from_is_err_and c.from_residual-in_err-take_turn.result c.from_residual-in_err-take_turn.ensures.1 in
    rw (p.1, p.2)
    (turn-fails c.in_err-take_turn.field-0.0 _ _ _ _ _ _ _ _ _ _ _ _ _ _ _ _ s (omega (arith, c.loop-turn-test.true, c.loop-turn.auto._turn)) (c.in_err-take_turn.ensures.turns _ _ s.lives s.open_text s.going))

pub returns-in-Quit-clause-serves : goal.returns-in-Quit-clause-serves
returns-in-Quit-clause-serves g c =
    let s = c.loop-turn.invariant.serving in
    let t = (rw c.in-Quit.is at c.in_ok-take_turn.ensures.turns) _ _ s.lives s.open_text s.going in
    done-quit _ _ _ _ _ _ _ _ _ _ _ _ _ _ _ s t.0 t.1.answered t.1.ended (omega (arith, c.loop-turn-test.true, c.loop-turn.auto._turn)) (λ w lives. lives.simulates)

pub returns-in_err-answer_end-in-Last-clause-serves : goal.returns-in_err-answer_end-in-Last-clause-serves
returns-in_err-answer_end-in-Last-clause-serves g c =
    let s = c.loop-turn.invariant.serving in
    let t = (rw c.in-Last.is at c.in_ok-take_turn.ensures.turns) _ _ s.lives s.open_text s.going in
    let e = turn-closes _ _ _ _ _ _ _ _ _ _ _ _ s (omega (arith, c.loop-turn-test.true, c.loop-turn.auto._turn)) t.0 t.1 in
    let p = err_from_is_err_and c.from_residual-in_err-answer_end-in-Last.result c.from_residual-in_err-answer_end-in-Last.ensures.1 in
    rw (p.1, p.2) (closed-fails c.in_err-answer_end-in-Last.field-0.0 _ _ _ _ _ _ _ _ _ _ _ _ _ _ e (c.in_err-answer_end-in-Last.ensures.answers _ _ e.lives e.open_text) (λ w lives. lives.simulates))

pub returns-in-Last-clause-serves : goal.returns-in-Last-clause-serves
returns-in-Last-clause-serves g c =
    let s = c.loop-turn.invariant.serving in
    let t = (rw c.in-Last.is at c.in_ok-take_turn.ensures.turns) _ _ s.lives s.open_text s.going in
    let e = turn-closes _ _ _ _ _ _ _ _ _ _ _ _ s (omega (arith, c.loop-turn-test.true, c.loop-turn.auto._turn)) t.0 t.1 in
    closed-done _ _ _ _ _ _ _ _ _ _ _ _ _ _ e (c.in_ok-answer_end-in-Last.ensures.answers _ _ e.lives e.open_text) (λ w lives. lives.simulates)

pub returns-in-TooFar-clause-serves : goal.returns-in-TooFar-clause-serves
returns-in-TooFar-clause-serves g c =
    let s = c.loop-turn.invariant.serving in
    let t = (rw c.in-TooFar.is at c.in_ok-take_turn.ensures.turns) _ _ s.lives s.open_text s.going in
    too-far _ _ _ _ _ _ _ _ _ _ _ _ _ _ _ s t.0 (omega (arith, c.loop-turn-test.true, c.loop-turn.auto._turn)) t.1 (λ w lives. lives.simulates)

pub loop-turn-preserved : goal.loop-turn-preserved
loop-turn-preserved g c =
    let s = c.loop-turn.invariant.serving in
    let t = (rw c.in-On.is at c.in_ok-take_turn.ensures.turns) _ _ s.lives s.open_text s.going in
    let P : ℕ → Type 0 = λ n. Serving c.take_turn.new.session c.take_turn.new.machine (items_of c.take_turn.new.text) n c.take_turn.new.room (g.S.Source.left c.args.source.now) (g.S.Source.left c.take_turn.new.source)
    (g.K.Sink.held c.args.sink.now) (g.K.Sink.held c.take_turn.new.sink) in
    record {
      serving = subst P (omega (arith, c.loop-turn.auto._turn)) (serving-turn _ _ _ _ _ _ _ _ _ _ _ _ s t.0 t.1.answered t.1.text t.1.ended);
      source = c.in_ok-take_turn.ensures.same_source ∙ c.loop-turn.invariant.source;
      sink = c.in_ok-take_turn.ensures.same_sink ∙ c.loop-turn.invariant.sink;
    }

pub returns-in_err-final_turn-clause-serves : goal.returns-in_err-final_turn-clause-serves
returns-in_err-final_turn-clause-serves g c =
    let s = c.loop-turn.invariant.serving in
    let p = err_from_is_err_and c.from_residual-in_err-final_turn.result c.from_residual-in_err-final_turn.ensures.1 in
    rw (p.1, p.2)
    (final-fails c.in_err-final_turn.field-0.0 _ _ _ _ _ _ _ _ _ _ _ _ s (omega (arith, c.loop-turn-test.false, c.loop-turn.auto._turn-end, c.loop-turn.auto._turn)) c.in_err-final_turn.ensures.finals)

pub returns-in_err-answer_end-in-Done-clause-serves : goal.returns-in_err-answer_end-in-Done-clause-serves
returns-in_err-answer_end-in-Done-clause-serves g c =
    let s = c.loop-turn.invariant.serving in
    let e = final-closes _ _ _ _ _ _ _ _ s (omega (arith, c.loop-turn-test.false, c.loop-turn.auto._turn-end, c.loop-turn.auto._turn)) (rw c.in-Done.is at c.in_ok-final_turn.ensures.finals) in
    let p = err_from_is_err_and c.from_residual-in_err-answer_end-in-Done.result c.from_residual-in_err-answer_end-in-Done.ensures.1 in
    rw (p.1, p.2) (closed-fails c.in_err-answer_end-in-Done.field-0.0 _ _ _ _ _ _ _ _ _ _ _ _ _ _ e (c.in_err-answer_end-in-Done.ensures.answers _ _ e.lives e.open_text) (λ w lives. lives.simulates))

pub returns-in-Done-clause-serves : goal.returns-in-Done-clause-serves
returns-in-Done-clause-serves g c =
    let s = c.loop-turn.invariant.serving in
    let e = final-closes _ _ _ _ _ _ _ _ s (omega (arith, c.loop-turn-test.false, c.loop-turn.auto._turn-end, c.loop-turn.auto._turn)) (rw c.in-Done.is at c.in_ok-final_turn.ensures.finals) in
    closed-done _ _ _ _ _ _ _ _ _ _ _ _ _ _ e (c.in_ok-answer_end-in-Done.ensures.answers _ _ e.lives e.open_text) (λ w lives. lives.simulates)

pub returns-clause-serves : goal.returns-clause-serves
returns-clause-serves g c =
    let s = c.loop-turn.invariant.serving in
    too-many _ _ _ _ _ _ _ _ _ _ _ _ _ _ _ s (rw c.in-TooMany.is at c.in_ok-final_turn.ensures.finals) (omega (arith, c.loop-turn-test.false, c.loop-turn.auto._turn-end, c.loop-turn.auto._turn)) (unanswered _ _ _ _ _ _ _ _ _ s) (λ w lives. lives.simulates)

pub answer_end-requires : goal.answer_end-requires
answer_end-requires g c =
    let s = c.loop-turn.invariant.serving in
    let t = (rw c.in-Last.is at c.in_ok-take_turn.ensures.turns) _ _ s.lives s.open_text s.going in
    record { lives = (_, t.1.answered.lives) }
