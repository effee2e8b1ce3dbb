use Rattle.std.proofs.Common.{◌++◌, ◌/◌, Bool, subst, sym, ap, ◌∙◌}
use Rattle.dice_session.specs.World.{written_part}
use Rattle.dice_session.specs.Places.{ending_text}
use Rattle.dice_session.specs.Simulates.{Ran}
use Rattle.dice_session.proofs.After.{ran}
use Rattle.dice_session.proofs.running.run.Goals as goal

pub returns : goal.returns
returns c = λ s can.
    let fs = c.args.statements.now in
    let bytes = c.deref.ensures.value ∙ c.in_ok-written.ensures.written in
    let written = c.in_ok-push_written.ensures ∙ ap (λ b. c.args.out.now ++ written_part b) bytes in
    subst (λ (over : Bool). Ran fs c.args.gates s over c.args.out.now c.push_ending.new.out c.go-went.new.machine c.take_output.new.console) (sym c.ends.ensures)
    (ran fs c.args.gates s c.args.machine.now c.args.console.now c.args.out.now c.push_ending.new.out (c.go-went.new.machine, c.go-went.new.console, c.go-went.result) c.take_output.new.console
    c.requires.program c.requires.some c.go-went.ensures.run c.register.ensures.machine.memory_length c.in_ok-written.ensures.empty
    (c.in_ok-push_ending.ensures ∙ ap (λ o. o ++ ending_text fs c.go-went.result.end (c.register.result / 2)) written ∙ ap (λ w. (c.args.out.now ++ written_part c.go-went.new.console.output) ++ ending_text fs c.go-went.result.end (w / 2)) c.register.ensures.word)
    can)
