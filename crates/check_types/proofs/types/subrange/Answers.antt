use Rattle.check_types.specs.TypeRules.{scope}
use Rattle.check_types.proofs.Later.{subrange_ok}
use Rattle.check_types.proofs.types.subrange.Goals as goal

pub returns : goal.returns
returns c =
    subrange_ok c.args.state.now (scope c.args.outer.now c.args.state.now c.args.fields.now) c.args.first.now c.args.last.now c.in_ok-a.a c.in_ok-b.b c.known_subrange.new.state c.known_subrange.result c.in_ok-a.ensures c.in_ok-b.ensures c.known_subrange.ensures
