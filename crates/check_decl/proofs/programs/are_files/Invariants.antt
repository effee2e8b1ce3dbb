use Rattle.std.proofs.Common.{◌≡◌, drop}
use Rattle.check_decl.specs.BlockRules.{are_files}
use Rattle.check_decl.proofs.programs.are_files.Given as goal

abbrev pub invariant-loop-index : goal.invariant-loop-index
invariant-loop-index l = are_files l.files ≡ are_files (drop l.index l.files)
