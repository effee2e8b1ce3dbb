use Rattle.std.proofs.Common.{subst}
use Rattle.pascal_print.proofs.Printed.{Printed, printed-back, printed-names}
use Rattle.pascal_print.proofs.print.print_program.Goals as goal

-- the tree that is listed is that of the program
pub returns-clause-reads_back : goal.returns-clause-reads_back
returns-clause-reads_back c =
    printed-back c.args.names c.args.program.now c.tree.ensures.invariant _
    (subst (λ p. Printed c.args.names p c.list_program.result) c.tree.ensures.value c.list_program.ensures)

pub returns-clause-names : goal.returns-clause-names
returns-clause-names c =
    printed-names c.args.names c.args.program.now c.tree.ensures.invariant _
    (subst (λ p. Printed c.args.names p c.list_program.result) c.tree.ensures.value c.list_program.ensures)
