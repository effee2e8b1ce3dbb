use Rattle.std.proofs.Common.{◌≡◌, [], ◌∷◌, ◌++◌, drop, map}
use Rattle.dice_base.specs.Symbols.{semicolon_sign}
use Rattle.pascal_tree.specs.Joined.{join}
use Rattle.pascal_tree.specs.DeclTokens.{section_tokens}
use Rattle.tree_text.proofs.Rest.{still}
use Rattle.tree_text.proofs.declarations.push_sections.Given as goal

abbrev pub invariant-loop-section : goal.invariant-loop-section
invariant-loop-section l =
    l.out.items ++ still semicolon_sign section_tokens l.first (drop l.section-index l.sections) ≡ l.fn.out.items ++ join (semicolon_sign ∷ []) (map section_tokens l.sections)
