use Rattle.std.proofs.Common.{◌≡◌, sym, arith}
use Rattle.std.specs.Prelude.{slice_get, Some, None}
use Rattle.std.proofs.lemmas.Grind.{common_steps}
use Rattle.std.proofs.lemmas.Option.{slice_get_within}
use Rattle.std.proofs.lemmas.List.{length-take-le}
use Rattle.pascal_tree.specs.Openness.{Ending, stmt_ending}
use Rattle.tree_edit.specs.Place.{put_at, change_in_arm}
use Rattle.tree_edit.proofs.Endings.{arms_but}
use Rattle.tree_edit.proofs.Lists.{change_past, all_but}
use Rattle.tree_edit.proofs.pairing.+is_paired_with.Goals as goal

pub are_paired_with-returns-in_default : goal.are_paired_with-returns-in_default
are_paired_with-returns-in_default t c =
    let past : slice_get c.args.stmts.now c.args.at ≡ None = sym c.in_default.ensures in
    let e = change_past (put_at c.args.path.now c.args.new.now) c.args.at c.args.stmts.now past in
    cc

pub are_paired_with-returns-then-not-is_paired_with : goal.are_paired_with-returns-then-not-is_paired_with
are_paired_with-returns-then-not-is_paired_with t c =
    let found : slice_get c.args.stmts.now c.args.at ≡ Some c.in-Some.stmt.now = sym c.in-Some.ensures in
    let e = all_but (λ (e : Ending). e.is_paired) stmt_ending (put_at c.args.path.now c.args.new.now) c.args.at c.in-Some.stmt.now c.args.stmts.now found in
    first_of (cc, grind (arith, common_steps))

pub are_paired_with-slice_bounds-are_paired-end : goal.are_paired_with-slice_bounds-are_paired-end
are_paired_with-slice_bounds-are_paired-end t c =
    let within = slice_get_within c.args.stmts.now c.args.at c.in-Some.stmt.now (sym c.in-Some.ensures) in
    sym (length-take-le c.args.at c.args.stmts.now (omega arith))

pub are_paired_with-returns-then-are_paired : goal.are_paired_with-returns-then-are_paired
are_paired_with-returns-then-are_paired t c =
    let found : slice_get c.args.stmts.now c.args.at ≡ Some c.in-Some.stmt.now = sym c.in-Some.ensures in
    let e = all_but (λ (e : Ending). e.is_paired) stmt_ending (put_at c.args.path.now c.args.new.now) c.args.at c.in-Some.stmt.now c.args.stmts.now found in
    first_of (cc, grind (arith, common_steps))

pub are_paired_with-returns-else-are_paired : goal.are_paired_with-returns-else-are_paired
are_paired_with-returns-else-are_paired t c =
    let found : slice_get c.args.stmts.now c.args.at ≡ Some c.in-Some.stmt.now = sym c.in-Some.ensures in
    let e = all_but (λ (e : Ending). e.is_paired) stmt_ending (put_at c.args.path.now c.args.new.now) c.args.at c.in-Some.stmt.now c.args.stmts.now found in
    first_of (cc, grind (arith, common_steps))

pub are_arms_paired_with-returns-in_default : goal.are_arms_paired_with-returns-in_default
are_arms_paired_with-returns-in_default t c =
    let past : slice_get c.args.arms.now c.args.at ≡ None = sym c.in_default.ensures in
    let e = change_past (change_in_arm (put_at c.args.path.now c.args.new.now)) c.args.at c.args.arms.now past in
    cc

pub are_arms_paired_with-returns-then-not-is_paired_with : goal.are_arms_paired_with-returns-then-not-is_paired_with
are_arms_paired_with-returns-then-not-is_paired_with t c =
    let found : slice_get c.args.arms.now c.args.at ≡ Some c.in-Some.arm.now = sym c.in-Some.ensures in
    let e = arms_but (put_at c.args.path.now c.args.new.now) c.args.at c.in-Some.arm.now c.args.arms.now found in
    first_of (cc, grind (arith, common_steps))

pub are_arms_paired_with-slice_bounds-are_arms_paired-end : goal.are_arms_paired_with-slice_bounds-are_arms_paired-end
are_arms_paired_with-slice_bounds-are_arms_paired-end t c =
    let within = slice_get_within c.args.arms.now c.args.at c.in-Some.arm.now (sym c.in-Some.ensures) in
    sym (length-take-le c.args.at c.args.arms.now (omega arith))

pub are_arms_paired_with-returns-then-are_arms_paired : goal.are_arms_paired_with-returns-then-are_arms_paired
are_arms_paired_with-returns-then-are_arms_paired t c =
    let found : slice_get c.args.arms.now c.args.at ≡ Some c.in-Some.arm.now = sym c.in-Some.ensures in
    let e = arms_but (put_at c.args.path.now c.args.new.now) c.args.at c.in-Some.arm.now c.args.arms.now found in
    first_of (cc, grind (arith, common_steps))

pub are_arms_paired_with-returns-else-are_arms_paired : goal.are_arms_paired_with-returns-else-are_arms_paired
are_arms_paired_with-returns-else-are_arms_paired t c =
    let found : slice_get c.args.arms.now c.args.at ≡ Some c.in-Some.arm.now = sym c.in-Some.ensures in
    let e = arms_but (put_at c.args.path.now c.args.new.now) c.args.at c.in-Some.arm.now c.args.arms.now found in
    first_of (cc, grind (arith, common_steps))
