use Rattle.std.proofs.Common.{◌≡◌, ◌++◌, drop, map}
use Rattle.check_decl.specs.BlockRules.{type_names}
use Rattle.check_decl.specs.Blocks.{decl_judge}
use Rattle.check_decl.proofs.idents.type_names.Given as goal

abbrev pub invariant-loop-decl : goal.invariant-loop-decl
invariant-loop-decl l =
    type_names (map decl_judge l.decls) ≡ l.all ++ type_names (map decl_judge (drop l.decl-index l.decls))
