use Rattle.std.proofs.Common.{[], ◌∷◌, ◌++◌, ap, sym, ◌∙◌}
use Rattle.core_tree.specs.Shapes.{trees_of}
use Rattle.core_tree.specs.Views.{head_over}
use Rattle.check_program.proofs.OwnRows.{no_heading, own_form, own_made, own_passed}
use Rattle.check_program.proofs.own.own_block.Goals as goal

pub returns-in-Some : goal.returns-in-Some
returns-in-Some c =
    let trees = trees_of c.args.source.now.shapes.entries in
    let row = c.args.row.now in
    own_passed trees row c.args.body.now c.in-Ok.form c.in-Some.fault (λ h. c.in-Ok.ensures h)
    (sym c.in-Some.is ∙ c.own_fault.ensures (own_form trees c.in-Ok.form (head_over trees row) (c.in-Ok.ensures no_heading)))

pub returns : goal.returns
returns c =
    let trees = trees_of c.args.source.now.shapes.entries in
    let row = c.args.row.now in
    own_made trees row c.args.body.now c.in-Ok.form c.entry_of-entry.result c.push.new.self (λ h. c.in-Ok.ensures h)
    c.entry_of-entry.ensures (c.in-Ok-push.ensures.ok ∙ ap (λ ns. ns ++ c.entry_of-entry.result ∷ []) c.new-entries.ensures)
    (sym c.in_default-own_fault.is ∙ c.own_fault.ensures (own_form trees c.in-Ok.form (head_over trees row) (c.in-Ok.ensures no_heading)))
