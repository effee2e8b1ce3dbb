use Rattle.pascal_print.proofs.OneText.{program-sources}
use Rattle.pascal_print.proofs.sources.formed_programs.Goals as goal

pub returns : goal.returns
returns c = program-sources c.args.tree.now
