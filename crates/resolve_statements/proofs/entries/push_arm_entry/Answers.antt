use Rattle.resolve_statements.proofs.Gates.{arm_entry}
use Rattle.resolve_statements.proofs.entries.push_arm_entry.Goals as goal

pub returns : goal.returns
returns c = arm_entry c.args.arm.now c.args.out.now c.push.new.self c.entry_of.result c.entry_of.ensures c.in_ok-push.ensures.ok
