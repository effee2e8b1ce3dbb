use Rattle.std.proofs.Common.{sym, ap, ◌∙◌}
use Rattle.pascal_scanner.specs.Longest.{closed_len}
use Rattle.pascal_scanner.proofs.Fronts.{rest_whole}
use Rattle.pascal_scanner.proofs.Comments.{comment_closed, comment_open}
use Rattle.pascal_scanner.proofs.comment.comment_step.Goals as goal

pub returns-in-Some-clause-ok : goal.returns-in-Some-clause-ok
returns-in-Some-clause-ok c =
    comment_closed _ _ _ c.requires c.opening_len-opening.ensures.value
    (sym (c.in-Some.ensures.value ∙ ap closed_len (rest_whole c.opening_len-opening.result c.args.text.now)))

pub returns-in-None-clause-err : goal.returns-in-None-clause-err
returns-in-None-clause-err c =
    comment_open _ _ c.requires c.opening_len-opening.ensures.value
    (sym (c.in-None.ensures.value ∙ ap closed_len (rest_whole c.opening_len-opening.result c.args.text.now)))
