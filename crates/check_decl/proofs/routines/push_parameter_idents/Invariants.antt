use Rattle.std.proofs.Common.{◌≡◌, ◌++◌, drop}
use Rattle.check_decl.specs.BlockRules.{parameter_idents}
use Rattle.check_decl.proofs.routines.push_parameter_idents.Given as goal

abbrev pub invariant-loop-parameter : goal.invariant-loop-parameter
invariant-loop-parameter l =
    parameter_idents l.parameters ≡ l.all ++ parameter_idents (drop l.parameter-index l.parameters)
