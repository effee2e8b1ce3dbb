-- An edit that is made changes the rows of the statement with the name, and no others; and in the edited program each `else`
-- belongs to its own `if`.
use Rattle.std.proofs.Common.{◌≡◌, ◌&&◌, ℕ, Bool, true, false, List, [], ◌∷◌, Option, Some, None, Result, Ok, Err, map, refl, sym, ap, ◌∙◌, subst}
use Rattle.std.specs.Prelude.{option_and_then, if◌then◌else◌, nat_lt, length}
use Rattle.pascal_tree.specs.declared.stmt.Stmt.{Stmt, Stmt-F, out-Stmt, out-roll-Stmt}
use Rattle.pascal_tree.specs.declared.stmt.StmtKind.{StmtKind}
use Rattle.pascal_tree.specs.declared.stmt.Arm.{Arm}
use Rattle.pascal_tree.specs.declared.program.Tree.{Tree}
use Rattle.pascal_tree.specs.Names.{names_within, stmt_renaming}
use Rattle.pascal_tree.specs.Naming.{kind_numbering}
use Rattle.pascal_tree.specs.Openness.{program_is_paired}
use Rattle.pascal_tree.specs.Paths.{ItemValue, OfProgram, OfDecl, OfRoutine, OfStmt, item_name, tree_at}
use Rattle.pascal_tree.specs.Rows.{Row, program_rows, stmt_rows}
use Rattle.tree_names.proofs.StmtNames.{renaming_names}
use Rattle.program_tree.specs.Lookups.{name_of}
use Rattle.program_tree.specs.Search.{path_of}
use Rattle.program_tree.proofs.RowNames.{stmt_names-is, stmt_row_names}
use Rattle.program_tree.proofs.Searched.{AsPath, Finds, path_found}
use Rattle.tree_edit.specs.declared.fault.EditFault.{EditFault}
use Rattle.tree_edit.specs.declared.fault.EditFault.TheVariants.{WrongKind, TooDeep, NamesSpent}
use Rattle.tree_edit.specs.Edited.{can_stand, edited_program, is_right_kind, last_level, are_spent, with_stmt, stmt_of, replaced_at, replaced_found, replaced_program, IsEditedRows}
use Rattle.tree_edit.proofs.Among.{Splits}
use Rattle.tree_edit.proofs.NumberedRows.{renamed_rows}
use Rattle.tree_edit.proofs.RowSplits.{rows_at, rows_split}

-- ---- the rows

-- the outermost layer of the statement with new names
abbrev renaming_layer : ℕ → Stmt → ℕ → Stmt-F StmtKind Arm Stmt
renaming_layer n s next = record { name = record { 0 = n }; label = (out-Stmt s).label; kind = (kind_numbering (out-Stmt s).kind next).0 }

-- the rows of the new statement have its name, and then the next ones
named_rows : (n : ℕ) (s : Stmt) (next : ℕ) (path : List ℕ) → map (λ (r : Row). r.name) (stmt_rows (stmt_renaming n s next).0 path) ≡ n ∷ names_within (stmt_renaming n s next).0
named_rows n s next path =
    stmt_row_names (stmt_renaming n s next).0 path
    ∙ stmt_names-is (stmt_renaming n s next).0
    ∙ ap (λ (x : Stmt-F StmtKind Arm Stmt). x.name.0 ∷ names_within (stmt_renaming n s next).0) (out-roll-Stmt (renaming_layer n s next))

put_rows : (path : List ℕ) (old : Stmt) (n : ℕ) (s : Stmt) (t : Tree) → path_of n t ≡ Some path → tree_at path t ≡ Some (OfStmt old)
    → Splits (rows_at path) (program_rows t) (λ x. program_rows (with_stmt path (x, (stmt_renaming n s t.next).1) t)) old → IsEditedRows n s t (with_stmt path (stmt_renaming n s t.next) t)
put_rows path old n s t found at (before, after, is, will) = record {
  path = path;
  old = old;
  new = stmt_rows (stmt_renaming n s t.next).0 path;
  names = names_within (stmt_renaming n s t.next).0;
  before = before;
  after = after;
  found = found;
  stood = at;
  old_rows = is;
  new_rows = will (stmt_renaming n s t.next).0;
  unnamed = renamed_rows n s t.next path;
  named = named_rows n s t.next path;
  in_turn = renaming_names n s t.next;
}

-- ---- what an edit that is made has made

abbrev outcome : Bool → Bool → Bool → ℕ → Tree → Result Tree EditFault
outcome right deep spent n v = if right then (if deep then Err TooDeep else (if spent then Err NamesSpent else Ok v)) else Err (WrongKind (name_of n))

abbrev done : Tree → Result Tree EditFault
done u = Ok u

chosen : (b1 b2 b3 : Bool) (n : ℕ) (v u : Tree) → outcome b1 b2 b3 n v ≡ done u → (b1 ≡ true) × (v ≡ u)
chosen true false false n v u e = (refl, cc)
chosen true true b3 n v u e = absurd cc
chosen true false true n v u e = absurd cc
chosen false b2 b3 n v u e = absurd cc

-- the statement that was replaced, and that the new one was right there
record IsMade (n : ℕ) (s : Stmt) (t u : Tree) : Type 0 where
  path : List ℕ
  old : Stmt
  found : path_of n t ≡ Some path
  stood : tree_at path t ≡ Some (OfStmt old)
  named : (out-Stmt old).name.0 ≡ n
  right : is_right_kind old path s t ≡ true
  same : edited_program old path s t ≡ u

item_made : (item : Option ItemValue) (path : List ℕ) (n : ℕ) (s : Stmt) (t u : Tree) → path_of n t ≡ Some path → Finds t n (program_rows t) path → tree_at path t ≡ item → replaced_at (option_and_then stmt_of item) path n s t ≡ Ok u → IsMade n s t u
item_made None path n s t u found finds at e = absurd cc
item_made (Some (OfProgram p)) path n s t u found finds at e = absurd cc
item_made (Some (OfDecl d)) path n s t u found finds at e = absurd cc
item_made (Some (OfRoutine r)) path n s t u found finds at e = absurd cc
item_made (Some (OfStmt old)) path n s t u found finds at e =
    (let stands : tree_at path t ≡ Some finds.item = finds.stands in
    let same : finds.item ≡ OfStmt old = cc in
    let made = chosen (is_right_kind old path s t) (nat_lt 64 (last_level path s)) (are_spent t.next (length (names_within s))) n (edited_program old path s t) u e in
    record { path = path; old = old; found = found; stood = at; named = sym (ap item_name same) ∙ finds.named; right = made.0; same = made.1 })

found_made : (o : Option (List ℕ)) (n : ℕ) (s : Stmt) (t u : Tree) → path_of n t ≡ o → AsPath t n o → replaced_found o n s t ≡ Ok u → IsMade n s t u
found_made None n s t u found finds e = absurd cc
found_made (Some path) n s t u found finds e = item_made (tree_at path t) path n s t u found finds refl e

made : (n : ℕ) (s : Stmt) (t u : Tree) → replaced_program n s t ≡ Ok u → IsMade n s t u
unfolding replaced_program
made n s t u e = found_made (path_of n t) n s t u refl (path_found t n) e

-- ---- its rows, and that each `else` belongs to its own `if`

rows_of : (n : ℕ) (s : Stmt) (t u : Tree) → IsMade n s t u → IsEditedRows n s t u
rows_of n s t u m =
    (let kept : with_stmt m.path (stmt_renaming n s t.next) t ≡ edited_program m.old m.path s t = ap (λ (k : ℕ). with_stmt m.path (stmt_renaming k s t.next) t) (sym m.named) in
    subst (λ (v : Tree). IsEditedRows n s t v) (kept ∙ m.same) (put_rows m.path m.old n s t m.found m.stood (rows_split m.path m.old (OfProgram t) [] m.stood)))

pub edited_rows : (n : ℕ) (s : Stmt) (t u : Tree) → replaced_program n s t ≡ Ok u → IsEditedRows n s t u
edited_rows n s t u e = rows_of n s t u (made n s t u e)

second : (a b : Bool) → (a && b) ≡ true → b ≡ true
second true b e = e
second false b e = absurd cc

paired_of : (n : ℕ) (s : Stmt) (t u : Tree) → IsMade n s t u → program_is_paired u ≡ true
paired_of n s t u m = ap (λ (v : Tree). program_is_paired v) (sym m.same) ∙ second (can_stand m.path s t.block) (program_is_paired (edited_program m.old m.path s t)) m.right

pub edited_paired : (n : ℕ) (s : Stmt) (t u : Tree) → replaced_program n s t ≡ Ok u → program_is_paired u ≡ true
edited_paired n s t u e = paired_of n s t u (made n s t u e)
