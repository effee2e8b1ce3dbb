use Rattle.std.proofs.Common.{◌≡◌, take}
use Rattle.pascal_tree.proofs.decl_copies.copy_sections.Given as goal

abbrev pub invariant-loop-section : goal.invariant-loop-section
invariant-loop-section l = l.all ≡ take l.section-index l.sections
