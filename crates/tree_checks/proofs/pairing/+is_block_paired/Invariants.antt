use Rattle.std.proofs.Common.{◌≡◌, drop, map}
use Rattle.std.specs.List.{list_all}
use Rattle.pascal_tree.specs.Openness.{routine_is_paired}
use Rattle.tree_checks.proofs.pairing.+is_block_paired.Given as goal

-- the routines so far are paired, so all are paired where the rest is
abbrev pub invariant-are_routines_paired-loop-routine : goal.invariant-are_routines_paired-loop-routine
invariant-are_routines_paired-loop-routine l =
    list_all (λ paired. paired) (map routine_is_paired (drop l.routine-index l.routines)) ≡ list_all (λ paired. paired) (map routine_is_paired l.routines)
