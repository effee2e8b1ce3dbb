use Rattle.std.proofs.Common.{◌≡◌, drop}
use Rattle.std.specs.List.{AllByRecursion}
use Rattle.pascal_semantics.specs.Valid.{IsForm}
use Rattle.simple_form.specs.Simple.{leaves_behind, stmts_leaves}
use Rattle.simple_form.proofs.statements.+push_stmt.Given as goal

abbrev pub invariant-push_stmts-loop-stmt : goal.invariant-push_stmts-loop-stmt
invariant-push_stmts-loop-stmt l = record {
  value : leaves_behind l.fn.out.items (stmts_leaves l.variables l.stmts) ≡ leaves_behind l.out.items (stmts_leaves l.variables (drop l.stmt-index l.stmts));
  within : AllByRecursion (λ s. IsForm s.form) l.fn.out.items → AllByRecursion (λ s. IsForm s.form) l.out.items;
}
