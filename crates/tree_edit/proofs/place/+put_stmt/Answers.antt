use Rattle.std.proofs.Common.{◌≡◌, sym, arith}
use Rattle.std.specs.Prelude.{slice_get, Some, None}
use Rattle.std.proofs.lemmas.Grind.{common_steps}
use Rattle.tree_edit.specs.Place.{put_at, change_in_arm}
use Rattle.tree_edit.proofs.Lists.{change_past, change_at}
use Rattle.tree_edit.proofs.place.+put_stmt.Goals as goal

pub put_list-returns-in_default : goal.put_list-returns-in_default
put_list-returns-in_default t c =
    let past : slice_get c.args.stmts.now c.args.at ≡ None = sym c.in_default.ensures in
    let e = change_past (put_at c.args.path.now c.args.new.now) c.args.at c.args.stmts.now past in
    first_of (cc, grind (arith, common_steps))

pub put_list-returns : goal.put_list-returns
put_list-returns t c =
    let found : slice_get c.args.stmts.now c.args.at ≡ Some c.in-Some.stmt.now = sym c.in-Some.ensures in
    let e = change_at (put_at c.args.path.now c.args.new.now) c.args.at c.in-Some.stmt.now c.args.stmts.now found in
    first_of (cc, grind (arith, common_steps))

pub put_arms-returns-in_default : goal.put_arms-returns-in_default
put_arms-returns-in_default t c =
    let past : slice_get c.args.arms.now c.args.at ≡ None = sym c.in_default.ensures in
    let e = change_past (change_in_arm (put_at c.args.path.now c.args.new.now)) c.args.at c.args.arms.now past in
    first_of (cc, grind (arith, common_steps))

pub put_arms-returns : goal.put_arms-returns
put_arms-returns t c =
    let found : slice_get c.args.arms.now c.args.at ≡ Some c.in-Some.arm.now = sym c.in-Some.ensures in
    let e = change_at (change_in_arm (put_at c.args.path.now c.args.new.now)) c.args.at c.in-Some.arm.now c.args.arms.now found in
    first_of (cc, grind (arith, common_steps))
