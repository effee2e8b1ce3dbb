-- To which `if` an `else` belongs (ISO 7185:1990, 6.8.3.4): an `if` statement without `else` is not followed at once by an
-- `else`. So the first branch of an `if` with `else` is not open.
use Rattle.std.specs.Prelude.{Bool, true, false, not, ◌&&◌, List, Option, Some, None}
use Rattle.std.specs.List.{list_all}
use Rattle.pascal_tree.specs.declared.stmt.Stmt.{Stmt, Stmt-F, fold-Stmt}
use Rattle.pascal_tree.specs.declared.stmt.StmtKind.{StmtKind, StmtKind-F, fold-StmtKind}
use Rattle.pascal_tree.specs.declared.stmt.Arm.{Arm, Arm-F, fold-Arm}
use Rattle.pascal_tree.specs.declared.decl.Block.{Block, Block-F, fold-Block}
use Rattle.pascal_tree.specs.declared.decl.Routine.{Routine, Routine-F, fold-Routine}
use Rattle.pascal_tree.specs.declared.program.Tree.{Tree}

-- how a statement ends
pub record Ending : Type 0 where
  -- it is an `if` without `else`, or its last part is an open statement that no word ends: an `else` behind it would be
  -- that one's
  pub is_open : Bool
  -- in it each `else` belongs to its own `if`: no first branch before an `else` is open
  pub is_paired : Bool

-- a statement that a word ends, or that contains no other
abbrev pub closed : Bool → Ending
closed paired = record { is_open = false; is_paired = paired }

abbrev pub are_paired : List Ending → Bool
are_paired endings = list_all (λ e. e.is_paired) endings

-- the same where an `else` follows the statement at once, or where none does
abbrev pub is_paired_before : Bool → Ending → Bool
is_paired_before has_else e = e.is_paired && not (has_else && e.is_open)

-- ---- one layer of a statement; in the place of each part stands how it ends

abbrev pub ending_of_kind : StmtKind-F Ending Ending Ending → Ending
ending_of_kind StmtKind-F.Empty = closed true
ending_of_kind (StmtKind-F.Assign access value) = closed true
ending_of_kind (StmtKind-F.Call x args) = closed true
ending_of_kind (StmtKind-F.Goto label) = closed true
ending_of_kind (StmtKind-F.Compound stmts) = closed (are_paired stmts)
ending_of_kind (StmtKind-F.If test first None) = record { is_open = true; is_paired = first.is_paired }
ending_of_kind (StmtKind-F.If test first (Some second)) =
    record { is_open = second.is_open; is_paired = is_paired_before true first && second.is_paired }
ending_of_kind (StmtKind-F.Case selector arms) = closed (are_paired arms)
ending_of_kind (StmtKind-F.While test body) = body
ending_of_kind (StmtKind-F.Repeat stmts test) = closed (are_paired stmts)
ending_of_kind (StmtKind-F.For x first down last body) = body
ending_of_kind (StmtKind-F.With records body) = body

-- an arm ends as its statement does
abbrev pub ending_of_arm : Arm-F Ending Ending Ending → Ending
ending_of_arm a = a.body

-- a label changes nothing
abbrev pub ending_of_stmt : Stmt-F Ending Ending Ending → Ending
ending_of_stmt s = s.kind

-- ---- how a whole kind, arm and statement end

unfoldable pub kind_ending : StmtKind → Ending
kind_ending = fold-StmtKind Ending Ending Ending ending_of_kind ending_of_arm ending_of_stmt

unfoldable pub arm_ending : Arm → Ending
arm_ending = fold-Arm Ending Ending Ending ending_of_kind ending_of_arm ending_of_stmt

unfoldable pub stmt_ending : Stmt → Ending
stmt_ending = fold-Stmt Ending Ending Ending ending_of_kind ending_of_arm ending_of_stmt

-- whether a statement is open, and whether each `else` in it belongs to its own `if`
abbrev pub is_open : Stmt → Bool
is_open s = (stmt_ending s).is_open

abbrev pub is_paired : Stmt → Bool
is_paired s = (stmt_ending s).is_paired

-- ---- blocks, routines and programs: whether each `else` in them belongs to its own `if`

-- a `forward` heading has no block
abbrev pub paired_if_any : Option Bool → Bool
paired_if_any None = true
paired_if_any (Some paired) = paired

abbrev pub paired_of_block : Block-F Bool Bool → Bool
paired_of_block b = list_all (λ paired. paired) b.routines && is_paired b.body

abbrev pub paired_of_routine : Routine-F Bool Bool → Bool
paired_of_routine r = paired_if_any r.block

unfoldable pub block_is_paired : Block → Bool
block_is_paired = fold-Block Bool Bool paired_of_block paired_of_routine

unfoldable pub routine_is_paired : Routine → Bool
routine_is_paired = fold-Routine Bool Bool paired_of_block paired_of_routine

abbrev pub program_is_paired : Tree → Bool
program_is_paired t = block_is_paired t.block
