use Rattle.std.proofs.Common.{◌≡◌, ◌++◌, drop, take}
use Rattle.check_types.specs.Headings.{section_idents}
use Rattle.check_types.proofs.headings.section_idents.Given as goal

abbrev pub invariant-loop-section : goal.invariant-loop-section
invariant-loop-section l =
    section_idents l.sections ≡ l.all ++ section_idents (drop l.section-index l.sections)
