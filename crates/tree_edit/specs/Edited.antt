-- Edits of a program, with their faults in order.
use Rattle.std.specs.Prelude.{◌≡◌, ℕ, ◌+◌, ◌-◌, nat_lt, Bool, true, false, not, ◌&&◌, ◌||◌, if◌then◌else◌, List, ◌∷◌, ◌++◌, length, map, Option, Some, None, option_and_then, Result, Ok, Err}
use Rattle.pascal_tree.specs.declared.stmt.Stmt.{Stmt, out-Stmt}
use Rattle.pascal_tree.specs.declared.decl.Block.{Block}
use Rattle.pascal_tree.specs.declared.program.Tree.{Tree}
use Rattle.pascal_tree.specs.Names.{Counts, names_within, stmt_renaming}
use Rattle.pascal_tree.specs.Formed.{is_body}
use Rattle.pascal_tree.specs.Openness.{program_is_paired}
use Rattle.pascal_tree.specs.Paths.{ItemValue, OfStmt, tree_at}
use Rattle.pascal_tree.specs.Rows.{Row, stmt_rows, program_rows}
use Rattle.program_tree.specs.Lookups.{name_of}
use Rattle.program_tree.specs.Search.{path_of}
use Rattle.tree_edit.specs.declared.fault.EditFault.{EditFault}
use Rattle.tree_edit.specs.declared.fault.EditFault.TheVariants.{NoSuchName, WrongKind, TooDeep, NamesSpent, NoMemory}
use Rattle.pascal_tree.specs.Depth.{stmt_depth}
use Rattle.tree_edit.specs.Place.{put_in_block, leads_to_body}

-- ---- faults

-- the body of a block must be a compound statement without a label (6.2.1), and other statements may be any
abbrev pub can_stand : List ℕ → Stmt → Block → Bool
can_stand path s b = not (leads_to_body path b) || is_body s

-- The program is level 1, and each item on a path is one level below the one before. So a statement at the path is on level
-- 1 + length path, and the last level that it takes is this.
abbrev pub last_level : List ℕ → Stmt → ℕ
last_level path s = length path + stmt_depth s

-- so many new names are needed, from the next one on, and 1,000,000 is the last there is
abbrev pub are_spent : ℕ → ℕ → Bool
are_spent next count = nat_lt 0 count && nat_lt 1000000 (next + count - 1)

-- ---- a statement in the place of another

-- a program with this statement in the place at the path, and with this next name
abbrev pub with_stmt : List ℕ → Stmt × ℕ → Tree → Tree
with_stmt path r t = record { ident = t.ident; files = t.files; block = put_in_block path r.0 t.block; next = r.1 }

-- the program with s in the place of the old statement at the path: the name stays, and what is inside has new names
abbrev pub edited_program : Stmt → List ℕ → Stmt → Tree → Tree
edited_program old path s t = with_stmt path (stmt_renaming (out-Stmt old).name.0 s t.next) t

-- s can stand there, and in the edited program each `else` still belongs to its own `if` (6.8.3.4)
abbrev pub is_right_kind : Stmt → List ℕ → Stmt → Tree → Bool
is_right_kind old path s t = can_stand path s t.block && program_is_paired (edited_program old path s t)

-- the edited program, or the first fault
abbrev pub replaced_stmt : Stmt → List ℕ → ℕ → Stmt → Tree → Result Tree EditFault
replaced_stmt old path n s t =
    if is_right_kind old path s t then
    (if nat_lt 64 (last_level path s) then Err TooDeep
    else (if are_spent t.next (length (names_within s)) then Err NamesSpent
    else Ok (edited_program old path s t)))
    else Err (WrongKind (name_of n))

-- the item as a statement, if it is one
abbrev pub stmt_of : ItemValue → Option Stmt
stmt_of (OfStmt s) = Some s
stmt_of _ = None

-- the same, where a statement is at the path
abbrev pub replaced_at : Option Stmt → List ℕ → ℕ → Stmt → Tree → Result Tree EditFault
replaced_at None path n s t = Err (WrongKind (name_of n))
replaced_at (Some old) path n s t = replaced_stmt old path n s t

-- the same, at the path that the search found
abbrev pub replaced_found : Option (List ℕ) → ℕ → Stmt → Tree → Result Tree EditFault
replaced_found None n s t = Err (NoSuchName (name_of n))
replaced_found (Some path) n s t = replaced_at (option_and_then stmt_of (tree_at path t)) path n s t

-- the program with the statement in the place of the one with this name, or the first fault
unfoldable pub replaced_program : ℕ → Stmt → Tree → Result Tree EditFault
replaced_program n s t = replaced_found (path_of n t) n s t

-- ---- what an edit gives

-- the edited program, or the fault; nothing is said of want of memory
abbrev pub Gives : Result Tree EditFault → Result Tree EditFault → Type 0
Gives (Ok t) outcome = outcome ≡ Ok t
Gives (Err NoMemory) outcome = Unit {0}
Gives (Err fault) outcome = outcome ≡ Err fault

-- the same of an edit in place
abbrev pub Edits : {A : Type 0} → Result A EditFault → Result Tree EditFault → Tree → Type 0
Edits (Ok a) outcome new = outcome ≡ Ok new
Edits (Err NoMemory) outcome new = Unit {0}
Edits (Err fault) outcome new = outcome ≡ Err fault

-- ---- an edit in rows

-- a row without its name
abbrev pub unnamed_row : Row → Row
unnamed_row r = record { path = r.path; name = 0; own = r.own }

-- The rows of the statement with the name n have those of s in their place, at the same path: the first keeps the name, and
-- the others take the next names in turn. All other rows are as they were.
pub record IsEditedRows (n : ℕ) (s : Stmt) (t u : Tree) : Type 0 where
  pub path : List ℕ
  pub old : Stmt
  pub new : List Row
  pub names : List ℕ
  pub before : List Row
  pub after : List Row
  pub found : path_of n t ≡ Some path
  pub stood : tree_at path t ≡ Some (OfStmt old)
  pub old_rows : program_rows t ≡ before ++ (stmt_rows old path ++ after)
  pub new_rows : program_rows u ≡ before ++ (new ++ after)
  pub unnamed : map unnamed_row new ≡ map unnamed_row (stmt_rows s path)
  pub named : map (λ r. r.name) new ≡ n ∷ names
  pub in_turn : Counts t.next names u.next
