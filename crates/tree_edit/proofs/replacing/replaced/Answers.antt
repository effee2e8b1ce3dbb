use Rattle.std.proofs.Common.{sym, refl, Some, None}
use Rattle.program_tree.specs.Lookups.{item_value}
use Rattle.tree_edit.specs.Edited.{replaced_program, replaced_stmt}
use Rattle.tree_edit.proofs.Found.{none_found, item_found, same_gives}
use Rattle.tree_edit.proofs.replacing.replaced.Goals as goal

pub returns-in_default : goal.returns-in_default
returns-in_default c = none_found c.args.name.0 c.args.stmt.now c.args.program.now (sym c.in_default.ensures.value)

pub returns-in_default-find : goal.returns-in_default-find
returns-in_default-find c = item_found c.args.name.0 c.args.stmt.now c.args.program.now c.in-Some.path.now None None (sym c.in-Some.ensures.value) c.in_default-find.ensures.value refl

pub returns-in_default-stmt_of : goal.returns-in_default-stmt_of
returns-in_default-stmt_of c =
    item_found c.args.name.0 c.args.stmt.now c.args.program.now c.in-Some.path.now (Some (item_value c.in-Some-find.item)) None (sym c.in-Some.ensures.value) c.in-Some-find.ensures.value c.in_default-stmt_of.ensures

pub returns : goal.returns
returns c =
    let old = c.in-Some-stmt_of.old.now in
    let found = item_found c.args.name.0 c.args.stmt.now c.args.program.now c.in-Some.path.now (Some (item_value c.in-Some-find.item)) (Some old) (sym c.in-Some.ensures.value) c.in-Some-find.ensures.value c.in-Some-stmt_of.ensures in
    same_gives c.replaced_stmt.result (replaced_stmt old c.in-Some.path.now c.args.name.0 c.args.stmt.now c.args.program.now) (replaced_program c.args.name.0 c.args.stmt.now c.args.program.now) found c.replaced_stmt.ensures
