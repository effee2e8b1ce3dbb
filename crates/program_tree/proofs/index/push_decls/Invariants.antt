use Rattle.std.proofs.Common.{◌≡◌, ◌+◌, ◌++◌, drop, map}
use Rattle.pascal_tree.specs.Rows.{decl_rows, rows_from}
use Rattle.program_tree.specs.Entries.{entry_of}
use Rattle.program_tree.proofs.index.push_decls.Given as goal

abbrev pub invariant-loop-decl : goal.invariant-loop-decl
invariant-loop-decl l =
    (l.out ++ map entry_of (rows_from l.next (map decl_rows (drop l.decl-index l.decls)) l.path) ≡ l.fn.out ++ map entry_of (rows_from l.fn.at (map decl_rows l.decls) l.path)) × (l.next ≡ l.fn.at + l.decl-index)
