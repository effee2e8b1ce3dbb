use Rattle.std.proofs.lemmas.List.{take-replicate}
use Rattle.console_service.proofs.console.spaces.Goals as goal

pub returns : goal.returns
returns c = take-replicate c.args.count 255 32 c.requires
