use Rattle.std.proofs.Common.{◌≡◌, Bool, sym, arith}
use Rattle.std.specs.Prelude.{slice_get, Some, None}
use Rattle.std.proofs.lemmas.Grind.{common_steps}
use Rattle.std.proofs.lemmas.Option.{slice_get_within}
use Rattle.std.proofs.lemmas.List.{length-take-le}
use Rattle.pascal_tree.specs.Openness.{routine_is_paired}
use Rattle.tree_edit.specs.Place.{put_in_block, change_in_routine}
use Rattle.tree_edit.proofs.Endings.{put_past}
use Rattle.tree_edit.proofs.Lists.{change_past, all_but}
use Rattle.tree_edit.proofs.pairing.+is_block_paired_with.Goals as goal

pub are_routines_paired_with-returns-in_default : goal.are_routines_paired_with-returns-in_default
are_routines_paired_with-returns-in_default t c =
    let past : slice_get c.args.routines.now c.args.at ≡ None = sym c.in_default.ensures in
    let e = change_past (change_in_routine (put_in_block c.args.path.now c.args.new.now)) c.args.at c.args.routines.now past in
    cc

pub are_routines_paired_with-returns-then-not-is_routine_paired_with : goal.are_routines_paired_with-returns-then-not-is_routine_paired_with
are_routines_paired_with-returns-then-not-is_routine_paired_with t c =
    let found : slice_get c.args.routines.now c.args.at ≡ Some c.in-Some.routine.now = sym c.in-Some.ensures in
    let e = all_but (λ (paired : Bool). paired) routine_is_paired (change_in_routine (put_in_block c.args.path.now c.args.new.now)) c.args.at c.in-Some.routine.now c.args.routines.now found in
    first_of (cc, grind (arith, common_steps))

pub are_routines_paired_with-slice_bounds-are_routines_paired-end : goal.are_routines_paired_with-slice_bounds-are_routines_paired-end
are_routines_paired_with-slice_bounds-are_routines_paired-end t c =
    let within = slice_get_within c.args.routines.now c.args.at c.in-Some.routine.now (sym c.in-Some.ensures) in
    sym (length-take-le c.args.at c.args.routines.now (omega arith))

pub are_routines_paired_with-returns-then-are_routines_paired : goal.are_routines_paired_with-returns-then-are_routines_paired
are_routines_paired_with-returns-then-are_routines_paired t c =
    let found : slice_get c.args.routines.now c.args.at ≡ Some c.in-Some.routine.now = sym c.in-Some.ensures in
    let e = all_but (λ (paired : Bool). paired) routine_is_paired (change_in_routine (put_in_block c.args.path.now c.args.new.now)) c.args.at c.in-Some.routine.now c.args.routines.now found in
    first_of (cc, grind (arith, common_steps))

pub are_routines_paired_with-returns-else-are_routines_paired : goal.are_routines_paired_with-returns-else-are_routines_paired
are_routines_paired_with-returns-else-are_routines_paired t c =
    let found : slice_get c.args.routines.now c.args.at ≡ Some c.in-Some.routine.now = sym c.in-Some.ensures in
    let e = all_but (λ (paired : Bool). paired) routine_is_paired (change_in_routine (put_in_block c.args.path.now c.args.new.now)) c.args.at c.in-Some.routine.now c.args.routines.now found in
    first_of (cc, grind (arith, common_steps))

pub is_block_paired_with-returns-in-Some : goal.is_block_paired_with-returns-in-Some
is_block_paired_with-returns-in-Some t c =
    let e = put_past c.args.path.now c.args.new.now c.in-Some.at c.args.block.now c.in-len1-up.len_at_least c.in-Some.ensures in
    cc
