-- The outcome of an edit, by what bears the name.
use Rattle.std.proofs.Common.{◌≡◌, ℕ, List, Option, Some, None, Result, Err, ap, ◌∙◌, sym, subst}
use Rattle.pascal_tree.specs.declared.stmt.Stmt.{Stmt}
use Rattle.pascal_tree.specs.declared.program.Tree.{Tree}
use Rattle.pascal_tree.specs.Paths.{ItemValue, tree_at}
use Rattle.program_tree.specs.Lookups.{name_of, item_named}
use Rattle.program_tree.specs.Search.{path_of}
use Rattle.tree_edit.specs.declared.fault.EditFault.{EditFault}
use Rattle.tree_edit.specs.declared.fault.EditFault.TheVariants.{NoSuchName}
use Rattle.tree_edit.specs.Edited.{Gives, replaced_at, replaced_found, replaced_program, stmt_of}
use Rattle.std.specs.Prelude.{option_and_then}

pub none_found : (n : ℕ) (s : Stmt) (t : Tree) → path_of n t ≡ None → replaced_program n s t ≡ Err (NoSuchName (name_of n))
unfolding replaced_program
none_found n s t e = ap (λ (o : Option (List ℕ)). replaced_found o n s t) e

pub item_found : (n : ℕ) (s : Stmt) (t : Tree) (path : List ℕ) (item : Option ItemValue) (old : Option Stmt) → path_of n t ≡ Some path → item ≡ item_named n t → old ≡ option_and_then stmt_of item
    → replaced_program n s t ≡ replaced_at old path n s t
unfolding replaced_program
item_found n s t path item old e is stmt =
    (let there : item ≡ tree_at path t = is ∙ ap (λ (o : Option (List ℕ)). option_and_then (λ p. tree_at p t) o) e in
    let same : old ≡ option_and_then stmt_of (tree_at path t) = stmt ∙ ap (λ (o : Option ItemValue). option_and_then stmt_of o) there in
    ap (λ (o : Option (List ℕ)). replaced_found o n s t) e ∙ ap (λ (o : Option Stmt). replaced_at o path n s t) (sym same))

pub same_gives : (r : Result Tree EditFault) (outcome other : Result Tree EditFault) → other ≡ outcome → Gives r outcome → Gives r other
same_gives r outcome other e given = subst (λ (o : Result Tree EditFault). Gives r o) (sym e) given
