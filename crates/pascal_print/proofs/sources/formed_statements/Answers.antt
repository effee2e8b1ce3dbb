use Rattle.pascal_print.proofs.OneText.{statement-sources}
use Rattle.pascal_print.proofs.sources.formed_statements.Goals as goal

pub returns : goal.returns
returns c = statement-sources c.args.stmt.now
