use Rattle.std.proofs.Common.{◌≡◌, ◌++◌, drop, map}
use Rattle.tree_listing.specs.Events.{ended, declaration}
use Rattle.tree_listing.proofs.blocks.push_declarations.Given as goal

abbrev pub invariant-loop-decl : goal.invariant-loop-decl
invariant-loop-decl l = l.out ++ ended (map declaration (drop l.decl-index l.decls)) l.level ≡ l.fn.out ++ ended (map declaration l.decls) l.level
