use Rattle.link_frames.specs.Laws.{done-read}
use Rattle.monitor_link.proofs.target_end.TargetEnd.new.Goals as goal

pub invariant_of-result : goal.invariant_of-result
invariant_of-result c = done-read
