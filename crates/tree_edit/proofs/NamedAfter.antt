-- An edited program has names again.
use Rattle.std.proofs.Common.{◌≡◌, ℕ, ◌≤◌, List, [], ◌∷◌, ◌++◌, Some, ◌∙◌, sym, subst, arith, append_assoc, eqb}
use Rattle.std.specs.List.{AllByRecursion, IsDistinct}
use Rattle.pascal_tree.specs.declared.stmt.Stmt.{Stmt, out-Stmt}
use Rattle.pascal_tree.specs.declared.program.Tree.{Tree}
use Rattle.pascal_tree.specs.Names.{Counts, names_within, stmt_names, program_names}
use Rattle.program_tree.specs.Named.{IsNamed, IsNameBelow}
use Rattle.pascal_tree.specs.Paths.{OfStmt, tree_at}
use Rattle.tree_edit.specs.Edited.{with_stmt}
use Rattle.tree_edit.proofs.Distinct.{renewed}
use Rattle.tree_edit.proofs.Among.{Splits}
use Rattle.tree_edit.proofs.NameSplits.{names_split}
use Rattle.program_tree.proofs.RowNames.{stmt_names-is}

named_by : (path : List ℕ) (old new : Stmt) (t : Tree) (last : ℕ) → (out-Stmt new).name.0 ≡ (out-Stmt old).name.0 → Counts t.next (names_within new) last → last ≤ 4294967295 → IsNamed t
    → Splits stmt_names (program_names t) (λ x. program_names (with_stmt path (x, last) t)) old → IsNamed (with_stmt path (new, last) t)
named_by path old new t last name counts small named (before, after, is, will) =
    (let n = (out-Stmt old).name.0 in
    let here = before ++ (n ∷ []) in
    let was : program_names t ≡ here ++ (names_within old ++ after) = is ∙ (rw (stmt_names-is old) (sym (append_assoc before (n ∷ []) (names_within old ++ after)))) in
    let now : program_names (with_stmt path (new, last) t) ≡ here ++ (names_within new ++ after) = will new ∙ (rw (stmt_names-is new, name) (sym (append_assoc before (n ∷ []) (names_within new ++ after)))) in
    let one : 1 ≤ t.next = omega (arith, named.within.0.1) in
    let both = renewed t.next last here (names_within old) (names_within new) after one (subst (IsDistinct eqb) was named.differ) (subst (AllByRecursion (IsNameBelow t.next)) was named.within) counts in
    record {
      differ = subst (IsDistinct eqb) (sym now) both.0;
      within = subst (AllByRecursion (IsNameBelow last)) (sym now) both.1;
      small = small;
    })

pub named_after : (path : List ℕ) (old new : Stmt) (t : Tree) (last : ℕ) → tree_at path t ≡ Some (OfStmt old) → (out-Stmt new).name.0 ≡ (out-Stmt old).name.0 → Counts t.next (names_within new) last
    → last ≤ 4294967295 → IsNamed t → IsNamed (with_stmt path (new, last) t)
named_after path old new t last at name counts small named = named_by path old new t last name counts small named (names_split path old last t at)
