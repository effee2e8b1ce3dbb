use Rattle.std.proofs.Common.{sym}
use Rattle.dice_session.proofs.Sessions.{on_ok}
use Rattle.dice_session.proofs.Drafts.{apply-some}
use Rattle.dice_session.proofs.session.Session.apply.Goals as goal

pub returns-in-Some-2 : goal.returns-in-Some-2
returns-in-Some-2 c = on_ok c.apply_statements.result c.apply_statements.ensures (λ f w lives.
    apply-some w c.in-Some.draft _ _ c.args.self.now _ _ _ lives c.in-Some.is (f w c.in-Some.draft lives (sym (rw c.in-Some-2.is at c.in_ok-program.ensures.value))))
