-- The layouts of a program, and which of them is too large.
use Rattle.std.specs.Prelude.{◌≡◌, ℕ, ◌+◌, ◌==◌, nat_lt, List, [], ◌∷◌, find, Option, Some, None, Result, Ok, Err, if◌then◌else◌}
use Rattle.core_tree.specs.declared.shape.ShapeEntry.{ShapeEntry}
use Rattle.core_tree.specs.declared.program.CoreRoutine.{CoreRoutine}
use Rattle.core_tree.specs.Shapes.{counted_words}
use Rattle.frame_layout.specs.declared.fault.LayoutFault.{LayoutFault}
use Rattle.frame_layout.specs.declared.fault.LayoutFault.TheVariants as fault
use Rattle.frame_layout.specs.declared.rows.Layout.{Layout}
use Rattle.frame_layout.specs.declared.rows.Layouts.{Layouts}
use Rattle.frame_layout.specs.declared.sizes.TheConstants.{LINKAGE_WORDS, MAX_GLOBAL_WORDS, MAX_STACK_CHARGE}
use Rattle.frame_layout.specs.Slots.{routine_frame}

abbrev pub layout_of : List ShapeEntry → CoreRoutine → Layout
layout_of entries r = record {
  routine = r.name;
  level = r.level;
  words = (routine_frame entries r).words;
  rows = (routine_frame entries r).rows;
}

-- the words of the stack that a call takes
abbrev pub stack_charge : ℕ → ℕ
stack_charge words = counted_words (LINKAGE_WORDS + words)

-- the first routine, in the order of the text, that takes too many
abbrev pub frame_fault : List Layout → Option LayoutFault
frame_fault [] = None
frame_fault (l ∷ ls) =
    if nat_lt MAX_STACK_CHARGE (stack_charge l.words)
    then Some (fault.FrameTooLarge l.routine (stack_charge l.words))
    else frame_fault ls

-- the program's layout is the first, and its fault comes before those of the routines
abbrev pub layout_fault : List Layout → Option LayoutFault
layout_fault [] = None
layout_fault (globals ∷ ls) =
    if nat_lt MAX_GLOBAL_WORDS globals.words then Some (fault.GlobalsFull globals.words) else frame_fault ls

abbrev pub layout_found : List Layout → ℕ → Option Layout
layout_found layouts n = find (λ l. l.routine.0 == n) layouts

-- ---- what a call answers

abbrev pub fault_result : {A : Type 0} → A → Option LayoutFault → Result A LayoutFault
fault_result done None = Ok done
fault_result done (Some e) = Err e

-- want of memory may come in the place of any other answer; else the fault is this one, and none where there is none
abbrev pub HasFault : Result Layouts LayoutFault → Option LayoutFault → Type 0
HasFault (Ok layouts) e = e ≡ None
HasFault (Err fault.NoMemory) e = Unit {0}
HasFault (Err f) e = e ≡ Some f
