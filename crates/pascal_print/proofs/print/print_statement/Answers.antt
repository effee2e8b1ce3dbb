-- The listing is what the law speaks of.
use Rattle.tree_listing.specs.Listing.{statement_listing}
use Rattle.pascal_print.specs.ReadsBack.{StatementReadsBack}
use Rattle.pascal_print.proofs.Moved.{ok_moved}
use Rattle.pascal_print.proofs.ReadsBack.{statement_reads_back}
use Rattle.pascal_print.proofs.print.print_statement.Goals as goal

pub returns-clause-reads_back : goal.returns-clause-reads_back
returns-clause-reads_back c =
    let s = c.args.statement.now in
    ok_moved (λ text. StatementReadsBack s text) (statement_listing s)
    (statement_reads_back s) _ c.list_statement.ensures
