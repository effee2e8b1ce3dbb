use Rattle.std.proofs.Common.{◌≡◌, drop}
use Rattle.check_decl.specs.BlockRules.{with_parameters}
use Rattle.check_decl.proofs.routines.with_parameters.Given as goal

abbrev pub invariant-loop-parameter : goal.invariant-loop-parameter
invariant-loop-parameter l =
    with_parameters l.owner l.parameters (l.fn.first.here, l.fn.first.kind)
    ≡ with_parameters l.owner (drop l.parameter-index l.parameters) (l.so_far.here, l.so_far.kind)
