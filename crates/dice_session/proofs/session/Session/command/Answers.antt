use Rattle.std.specs.Prelude.{codes}
use Rattle.dice_session.proofs.Sessions.{on_ok, carried-out, nothing-became, refused-became, reply-blank, reply-load, reply-list, reply-replace, reply-apply, reply-run, reply-quit, reply-unbuilt, reply-bad}
use Rattle.dice_session.proofs.session.Session.command.Goals as goal

pub returns-in-Blank : goal.returns-in-Blank
returns-in-Blank c = λ w lives. carried-out w _ _ _ _ _ _ _ _ c.in-Blank.is (reply-blank w) (nothing-became w _ _ _ lives)

pub returns-in-Quit : goal.returns-in-Quit
returns-in-Quit c = λ w lives. carried-out w _ _ _ _ _ _ _ _ c.in-Quit.is (reply-quit w) (nothing-became w _ _ _ lives)

pub returns-in-Load : goal.returns-in-Load
returns-in-Load c = on_ok c.load.result c.load.ensures (λ f w lives. carried-out w _ _ _ _ _ _ _ _ c.in-Load.is (reply-load w _) (f w lives))

pub returns-in-List : goal.returns-in-List
returns-in-List c = on_ok c.list.result c.list.ensures (λ f w lives. carried-out w _ _ _ _ _ _ _ _ c.in-List.is (reply-list w) (f w _ lives))

pub returns-in-Replace : goal.returns-in-Replace
returns-in-Replace c = on_ok c.replace.result c.replace.ensures (λ f w lives. carried-out w _ _ _ _ _ _ _ _ c.in-Replace.is (reply-replace w _ _) (f w _ lives))

pub returns-in-Apply : goal.returns-in-Apply
returns-in-Apply c = on_ok c.apply.result c.apply.ensures (λ f w lives. carried-out w _ _ _ _ _ _ _ _ c.in-Apply.is (reply-apply w) (f w lives))

pub returns-in-Run : goal.returns-in-Run
returns-in-Run c = on_ok c.run.result c.run.ensures (λ f w lives. carried-out w _ _ _ _ _ _ _ _ c.in-Run.is (reply-run w _) (f w lives))

pub returns-in-Unbuilt : goal.returns-in-Unbuilt
returns-in-Unbuilt c = on_ok c.refuse.result c.refuse.ensures (λ told w lives. carried-out w _ _ _ _ _ _ _ _ c.in-Unbuilt.is (reply-unbuilt w) (refused-became w (codes "not built") _ _ _ _ lives told))

pub returns-in-Bad : goal.returns-in-Bad
returns-in-Bad c = on_ok c.refuse_line.result c.refuse_line.ensures (λ told w lives. carried-out w _ _ _ _ _ _ _ _ c.in-Bad.is (reply-bad w _) (refused-became w _ _ _ _ _ lives told))
