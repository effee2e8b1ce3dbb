use Rattle.std.proofs.Common.{◌≡◌, take}
use Rattle.check_decl.proofs.routines.copy_parameters.Given as goal

abbrev pub invariant-loop-parameter : goal.invariant-loop-parameter
invariant-loop-parameter l = l.all ≡ take l.parameter-index l.parameters
