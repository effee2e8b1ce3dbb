-- The names that items get which are read by themselves: from 1 on in the order of the text, each item before what it
-- contains. So the item itself has the name 1.
use Rattle.std.specs.Prelude.{ℕ}
use Rattle.pascal_tree.specs.declared.stmt.Stmt.{Stmt, roll-Stmt, out-Stmt}
use Rattle.pascal_tree.specs.declared.decl.Decl.{Decl}
use Rattle.pascal_tree.specs.declared.decl.Routine.{Routine}
use Rattle.pascal_tree.specs.declared.program.Header.{Header}
use Rattle.pascal_tree.specs.Naming.{stmt_numbering, decl_numbering, routine_numbering}

abbrev pub named_stmt : Stmt → Stmt
named_stmt s = (stmt_numbering s 1).0

abbrev pub named_decl : Decl → Decl
named_decl d = (decl_numbering d 1).0

abbrev pub named_routine : Routine → Routine
named_routine r = (routine_numbering r 1).0

-- what is left out of a header has no name
abbrev pub named_header : Stmt → Header
named_header s =
    record { stmt = roll-Stmt (record { name = record { 0 = 1 }; label = (out-Stmt s).label; kind = (out-Stmt s).kind }) }
