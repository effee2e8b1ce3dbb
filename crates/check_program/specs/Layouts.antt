-- The sizes of layouts: that of the program first, then each routine's stack charge, in the order of the text.
use Rattle.std.specs.Prelude.{ℕ, ◌+◌, min, nat_le, if◌then◌else◌, List, [], ◌∷◌, Option, Some, None}
use Rattle.check_rules.specs.declared.kinds.TheConstants.{MAX_COUNTED}
use Rattle.dice_base.specs.declared.name.Name.{Name}
use Rattle.check_decl.specs.declared.place.Layout.{Layout}
use Rattle.check_program.specs.declared.layouts.LayoutFault.{LayoutFault}
use Rattle.check_program.specs.declared.layouts.LayoutFault.TheVariants.{GlobalsFull, FrameTooLarge}

-- five words of linkage, eight holds and 32 temporaries beside the layout
abbrev pub stack_charge : Layout → ℕ
stack_charge l = min MAX_COUNTED (45 + l.words)

abbrev pub frame_fault : List Layout → Option LayoutFault
frame_fault [] = None
frame_fault (l ∷ ls) = if nat_le (stack_charge l) 2048 then frame_fault ls else Some (FrameTooLarge l.owner (stack_charge l))

abbrev pub layout_fault : List Layout → Option LayoutFault
layout_fault [] = None
layout_fault (l ∷ ls) = if nat_le l.words 4096 then frame_fault ls else Some (GlobalsFull l.words)
