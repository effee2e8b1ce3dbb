use Rattle.std.proofs.Common.{◌≡◌, drop, map}
use Rattle.check_decl.specs.BlockRules.{decl_items}
use Rattle.check_decl.specs.Blocks.{decl_judge}
use Rattle.check_decl.proofs.items.decl_items.Given as goal

abbrev pub invariant-loop-decl : goal.invariant-loop-decl
invariant-loop-decl l =
    decl_items l.owner l.outer (map decl_judge l.decls) l.fn.here
    ≡ decl_items l.owner l.outer (map decl_judge (drop l.decl-index l.decls)) l.so_far
