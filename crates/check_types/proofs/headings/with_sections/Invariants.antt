use Rattle.std.proofs.Common.{◌≡◌, [], ◌∷◌, ◌++◌, drop}
use Rattle.check_types.specs.Headings.{with_sections}
use Rattle.check_types.proofs.headings.with_sections.Given as goal

abbrev pub invariant-loop-section : goal.invariant-loop-section
invariant-loop-section l =
    with_sections (l.outer ++ l.block ∷ []) l.sections l.fn.walk
    ≡ with_sections (l.outer ++ l.block ∷ []) (drop l.section-index l.sections) l.so_far
