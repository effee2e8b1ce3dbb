use Rattle.std.proofs.Common.{◌≡◌, drop}
use Rattle.pascal_tree.specs.Naming.{decls_numbering}
use Rattle.tree_names.proofs.Numbers.{with_front}
use Rattle.tree_names.proofs.naming.number_decls.Given as goal

abbrev pub invariant-loop-decl : goal.invariant-loop-decl
invariant-loop-decl l = with_front l.all (decls_numbering (drop l.decl-index l.decls) l.next) ≡ decls_numbering l.decls l.fn.next
