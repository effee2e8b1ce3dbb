use Rattle.std.proofs.Common.{drop}
use Rattle.resolve_statements.specs.Tables.{stmts_rows, arms_rows}
use Rattle.resolve_statements.proofs.Over.{Reached}
use Rattle.resolve_statements.proofs.table.+table.Given as goal

abbrev pub invariant-push_arms-loop-arm : goal.invariant-push_arms-loop-arm
invariant-push_arms-loop-arm l =
    Reached l.fn.out l.out l.fn.context l.context (arms_rows (drop l.arm-index l.arms) l.fn.context l.place) (arms_rows l.arms l.fn.context l.place)

abbrev pub invariant-push_sequence-loop-index : goal.invariant-push_sequence-loop-index
invariant-push_sequence-loop-index l =
    Reached l.fn.out l.out l.fn.context l.context (stmts_rows (drop l.index l.stmts) l.fn.context l.place) (stmts_rows l.stmts l.fn.context l.place)
