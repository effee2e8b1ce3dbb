use Rattle.expression_rules.specs.Expressions.{argument_of}
use Rattle.check_body.proofs.Chains.{read_turn}
use Rattle.check_body.proofs.transfers.read_all.Goals as goal

pub loop-arg-preserved : goal.loop-arg-preserved
loop-arg-preserved c =
    read_turn c.args.env.now.table (argument_of c.args.env.now) c.args.args.now c.loop-arg.arg-index c.arg-item.result c.loop-arg.notes c.in_ok-more.more c.in_ok-notes.notes
    c.loop-arg-test.true c.arg-item.is c.loop-arg.invariant c.in_ok-more.ensures c.in_ok-notes.ensures
