use Rattle.std.proofs.Common.{ap, subst, refl, sym, ◌∙◌, List}
use Rattle.std.specs.Option.{option_map}
use Rattle.pascal_semantics.specs.declared.form.Statement.{Statement}
use Rattle.pascal_semantics.specs.State.{State}
use Rattle.dice_session.specs.Simulates.{CanRunFrom, Ran}
use Rattle.dice_session.proofs.Sessions.{ran-became}
use Rattle.dice_session.proofs.session.Session.run.Goals as goal

pub returns : goal.returns
returns c = λ w lives.
    ran-became w c.args.self.now c.args.machine.now _ c.in-Some.statements.items c.args.gates c.in_ok-over.over _ _ _ lives (ap (option_map (λ v. v.items)) c.in-Some.is) (sym c.is_over.ensures ∙ c.if-is_over.false)
    (subst (λ (ss : List Statement). (st : State) → CanRunFrom ss st c.args.machine.now c.args.self.now.console → Ran ss c.args.gates st c.in_ok-over.over c.args.out.now c.run.new.out c.run.new.machine c.run.new.console) c.deref.ensures.value c.in_ok-over.ensures) refl refl c.progress_after-self.ensures
