-- The names of a program where an edit at a path changes them: what comes before and after stays, as in its rows.
use Rattle.std.proofs.Common.{◌≡◌, ℕ, List, [], ◌++◌, Some, map, ap, ◌∙◌, sym}
use Rattle.std.proofs.lemmas.List.{map-append}
use Rattle.pascal_tree.specs.declared.stmt.Stmt.{Stmt}
use Rattle.pascal_tree.specs.declared.program.Tree.{Tree}
use Rattle.pascal_tree.specs.Names.{stmt_names, program_names}
use Rattle.pascal_tree.specs.Paths.{OfProgram, OfStmt, tree_at}
use Rattle.pascal_tree.specs.Rows.{Row, stmt_rows, program_rows}
use Rattle.program_tree.proofs.RowNames.{row_names, stmt_row_names}
use Rattle.tree_edit.specs.Edited.{with_stmt}
use Rattle.tree_edit.proofs.Among.{Splits}
use Rattle.tree_edit.proofs.RowSplits.{rows_at, rows_split}

abbrev names_in : List Row → List ℕ
names_in rows = map (λ (r : Row). r.name) rows

names_among : (before after : List Row) (x : Stmt) (path : List ℕ) → names_in (before ++ (stmt_rows x path ++ after)) ≡ names_in before ++ (stmt_names x ++ names_in after)
names_among before after x path =
    map-append (λ (r : Row). r.name) before (stmt_rows x path ++ after)
    ∙ ap (λ (ns : List ℕ). names_in before ++ ns) (map-append (λ (r : Row). r.name) (stmt_rows x path) after ∙ ap (λ (ns : List ℕ). ns ++ names_in after) (stmt_row_names x path))

of_rows : (path : List ℕ) (old : Stmt) (last : ℕ) (t : Tree) → Splits (rows_at path) (program_rows t) (λ x. program_rows (with_stmt path (x, last) t)) old
    → Splits stmt_names (program_names t) (λ x. program_names (with_stmt path (x, last) t)) old
of_rows path old last t (before, after, is, will) =
    (names_in before, names_in after, sym (row_names t) ∙ (ap names_in is ∙ names_among before after old path), λ x. sym (row_names (with_stmt path (x, last) t)) ∙ (ap names_in (will x) ∙ names_among before after x path))

pub names_split : (path : List ℕ) (old : Stmt) (last : ℕ) (t : Tree) → tree_at path t ≡ Some (OfStmt old) → Splits stmt_names (program_names t) (λ x. program_names (with_stmt path (x, last) t)) old
names_split path old last t at = of_rows path old last t (rows_split path old (OfProgram t) [] at)
