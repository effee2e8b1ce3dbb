use Rattle.resolve_statements.proofs.Begins.{begins_own, begins_compound, begins_repeat}
use Rattle.resolve_statements.proofs.entries.+entries.Goals as goal

pub entry_of-returns-in-Compound : goal.entry_of-returns-in-Compound
entry_of-returns-in-Compound t c =
    begins_compound c.args.stmt.now c.in-Compound.stmts c.as_slice.result.now c.first_entry.result c.in-Compound.is c.as_slice.ensures c.first_entry.ensures

pub entry_of-returns-in-Repeat : goal.entry_of-returns-in-Repeat
entry_of-returns-in-Repeat t c =
    begins_repeat c.args.stmt.now c.in-Repeat.stmts c.as_slice-in-Repeat.result.now c.in-Repeat.field-1 c.first_entry-in-Repeat.result c.in-Repeat.is c.as_slice-in-Repeat.ensures c.first_entry-in-Repeat.ensures

pub entry_of-returns-in_default : goal.entry_of-returns-in_default
entry_of-returns-in_default t c = begins_own c.args.stmt.now c.in_default.not-Compound c.in_default.not-Repeat
