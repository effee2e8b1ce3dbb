use Rattle.std.proofs.Common.{sym}
use Rattle.pascal_scanner.proofs.Marks.{pair_at, single_at, no_sign_at}
use Rattle.pascal_scanner.proofs.sign.sign_step.Goals as goal

pub returns-in-Some-clause-ok : goal.returns-in-Some-clause-ok
returns-in-Some-clause-ok c = pair_at _ _ (sym c.in-Some.ensures.value) c.requires.no_comment

pub returns-in-Some-single_sign-clause-ok : goal.returns-in-Some-single_sign-clause-ok
returns-in-Some-single_sign-clause-ok c = single_at _ _ (sym c.in-Some-single_sign.ensures) (sym c.in_default.ensures.value) c.requires.no_comment

pub returns-in-None-clause-err : goal.returns-in-None-clause-err
returns-in-None-clause-err c =
    no_sign_at _ c.requires.some c.requires.begins c.requires.no_hole c.requires.no_comment c.requires.no_string (sym c.in_default.ensures.value) (sym c.in-None.ensures)
