use Rattle.std.proofs.Common.{◌≡◌, length}
use Rattle.check_types.specs.TypeRules.{arrays_of, judgement}
use Rattle.check_types.proofs.types.arrays_of.Given as goal

abbrev pub invariant-loop-index : goal.invariant-loop-index
invariant-loop-index l = arrays_of l.packed l.fn.types (judgement l.fn.state l.fn.component.typing l.fn.component.kind) ≡ arrays_of l.packed l.left (judgement l.state l.made.typing l.made.kind)

abbrev pub decreases-loop-index : goal.decreases-loop-index
decreases-loop-index l = length l.left
