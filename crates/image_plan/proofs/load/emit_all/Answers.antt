use Rattle.image_plan.proofs.Lists.{AreCodes-push, all_at, take_statement, zero_statement, AreCodes-whole}
use Rattle.image_plan.proofs.load.emit_all.Goals as goal

pub loop-statement-preserved : goal.loop-statement-preserved
loop-statement-preserved c =
    rw (c.in_ok-push.ensures.items, take_statement c.args.statements.now c.loop-statement.statement-index c.loop-statement-test.true)
    (AreCodes-push _ _ _ _ c.loop-statement.invariant c.in_ok-emit_simple.ensures.code c.in_ok-emit_simple.ensures.parts)

pub emit_simple-requires : goal.emit_simple-requires
emit_simple-requires c = all_at _ c.args.statements.now c.loop-statement.statement-index zero_statement c.requires c.loop-statement-test.true

pub returns : goal.returns
returns c = AreCodes-whole c.args.statements.now c.loop-statement.codes.items c.loop-statement.statement-index c.loop-statement-test.false c.loop-statement.invariant
