use Rattle.std.proofs.Common.{◌≡◌, ◌-◌}
use Rattle.dice_program.specs.Kept.{items_of}
use Rattle.dice_program.proofs.Serving.{Serving}
use Rattle.dice_program.proofs.serve.serve_script.Given as goal

abbrev pub invariant-loop-turn : goal.invariant-loop-turn
invariant-loop-turn g l = record {
  serving : Serving l.session l.machine (items_of l.text) (l._turn - 1) l.room (g.S.Source.left l.fn.source) (g.S.Source.left l.source) (g.K.Sink.held l.fn.sink) (g.K.Sink.held l.sink);
  source : g.S.Source.faults l.source ≡ g.S.Source.faults l.fn.source;
  sink : g.K.Sink.faults l.sink ≡ g.K.Sink.faults l.fn.sink;
}
