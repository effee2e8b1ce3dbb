-- A program without the names of its items: each is 0.
use Rattle.std.specs.Prelude.{map}
use Rattle.std.specs.Option.{option_map}
use Rattle.pascal_tree.specs.declared.stmt.Stmt.{Stmt, Stmt-F, roll-Stmt, fold-Stmt}
use Rattle.pascal_tree.specs.declared.stmt.StmtKind.{StmtKind, roll-StmtKind, fold-StmtKind}
use Rattle.pascal_tree.specs.declared.stmt.Arm.{Arm, roll-Arm, fold-Arm}
use Rattle.pascal_tree.specs.declared.decl.Decl.{Decl}
use Rattle.pascal_tree.specs.declared.decl.Block.{Block, Block-F, roll-Block, fold-Block}
use Rattle.pascal_tree.specs.declared.decl.Routine.{Routine, Routine-F, roll-Routine, fold-Routine}
use Rattle.pascal_tree.specs.declared.program.Tree.{Tree}
use Rattle.pascal_tree.specs.Declarations.{no_name}

-- ---- statements

-- one layer of the tree, in which each part is without names already
abbrev pub in_stmt : Stmt-F StmtKind Arm Stmt → Stmt
in_stmt s = roll-Stmt (record { name = no_name; label = s.label; kind = s.kind })

-- a statement, a kind and an arm, each with all that it contains
unfoldable pub unnamed_stmt : Stmt → Stmt
unnamed_stmt = fold-Stmt StmtKind Arm Stmt roll-StmtKind roll-Arm in_stmt

unfoldable pub unnamed_kind : StmtKind → StmtKind
unnamed_kind = fold-StmtKind StmtKind Arm Stmt roll-StmtKind roll-Arm in_stmt

unfoldable pub unnamed_arm : Arm → Arm
unnamed_arm = fold-Arm StmtKind Arm Stmt roll-StmtKind roll-Arm in_stmt

-- ---- declarations, blocks and programs, each with all that it contains

abbrev pub unnamed_decl : Decl → Decl
unnamed_decl d = record { name = no_name; kind = d.kind }

abbrev pub in_block : Block-F Block Routine → Block
in_block b =
    roll-Block (record {
      labels = option_map unnamed_decl b.labels;
      consts = map unnamed_decl b.consts;
      types = map unnamed_decl b.types;
      vars = map unnamed_decl b.vars;
      routines = b.routines;
      body = unnamed_stmt b.body;
    })

abbrev pub in_routine : Routine-F Block Routine → Routine
in_routine r = roll-Routine (record { name = no_name; heading = r.heading; block = r.block })

unfoldable pub unnamed_block : Block → Block
unnamed_block = fold-Block Block Routine in_block in_routine

unfoldable pub unnamed_routine : Routine → Routine
unnamed_routine = fold-Routine Block Routine in_block in_routine

abbrev pub unnamed_program : Tree → Tree
unnamed_program p = record { ident = p.ident; files = p.files; block = unnamed_block p.block; next = 0 }
