use Rattle.std.proofs.Common.{◌≡◌, ◌++◌, drop, map}
use Rattle.check_decl.specs.BlockRules.{decl_idents}
use Rattle.check_decl.specs.Blocks.{decl_judge}
use Rattle.check_decl.proofs.idents.push_decls.Given as goal

abbrev pub invariant-loop-decl : goal.invariant-loop-decl
invariant-loop-decl l =
    l.fn.out ++ decl_idents (map decl_judge l.decls)
    ≡ l.out ++ decl_idents (map decl_judge (drop l.decl-index l.decls))
