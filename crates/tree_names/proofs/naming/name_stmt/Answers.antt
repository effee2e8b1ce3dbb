use Rattle.std.proofs.Common.{ℕ, sym, subst, rules}
use Rattle.pascal_tree.specs.declared.stmt.StmtKind.{StmtKind}
use Rattle.pascal_tree.specs.Names.{Counts, kind_names}
use Rattle.tree_names.proofs.StmtNames.{proper_kind}
use Rattle.tree_names.proofs.naming.name_stmt.Goals as goal

pub returns : goal.returns
returns c = record {
  value = search rules;
  names = subst (λ (r : StmtKind × ℕ). Counts c.args.next (kind_names r.0) r.1) (sym c.in_ok-kind.ensures) (proper_kind _ c.args.next);
}
