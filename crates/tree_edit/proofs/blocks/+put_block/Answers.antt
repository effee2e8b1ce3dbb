use Rattle.std.proofs.Common.{◌≡◌, sym, arith}
use Rattle.std.specs.Prelude.{slice_get, Some, None}
use Rattle.std.proofs.lemmas.Grind.{common_steps}
use Rattle.tree_edit.specs.Place.{put_in_block, change_in_routine}
use Rattle.tree_edit.proofs.Lists.{change_past, change_at}
use Rattle.tree_edit.proofs.blocks.+put_block.Goals as goal

pub put_routines-returns-in_default : goal.put_routines-returns-in_default
put_routines-returns-in_default t c =
    let past : slice_get c.args.routines.now c.args.at ≡ None = sym c.in_default.ensures in
    let e = change_past (change_in_routine (put_in_block c.args.path.now c.args.new.now)) c.args.at c.args.routines.now past in
    first_of (cc, grind (arith, common_steps))

pub put_routines-returns : goal.put_routines-returns
put_routines-returns t c =
    let found : slice_get c.args.routines.now c.args.at ≡ Some c.in-Some.routine.now = sym c.in-Some.ensures in
    let e = change_at (change_in_routine (put_in_block c.args.path.now c.args.new.now)) c.args.at c.in-Some.routine.now c.args.routines.now found in
    first_of (cc, grind (arith, common_steps))
