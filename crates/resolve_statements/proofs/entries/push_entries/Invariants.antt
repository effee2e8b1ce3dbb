use Rattle.std.proofs.Common.{drop}
use Rattle.resolve_statements.specs.Tables.{stmts_in}
use Rattle.resolve_statements.proofs.Gates.{AreLeft}
use Rattle.resolve_statements.proofs.entries.push_entries.Given as goal

abbrev pub invariant-loop-stmt : goal.invariant-loop-stmt
invariant-loop-stmt l = AreLeft l.fn.out l.out (stmts_in (drop l.stmt-index l.stmts)) (stmts_in l.stmts)
