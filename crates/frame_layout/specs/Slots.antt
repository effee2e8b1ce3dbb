-- The variables of an owner, in the order in which they lie in its frame.
use Rattle.std.specs.Prelude.{ℕ, ◌+◌, Bool, false, List, [], ◌∷◌, ◌++◌, map, Option, Some, None, if◌then◌else◌}
use Rattle.core_tree.specs.declared.shape.Shape.{Shape}
use Rattle.core_tree.specs.declared.shape.ShapeEntry.{ShapeEntry}
use Rattle.core_tree.specs.declared.program.CoreRoutine.{CoreRoutine}
use Rattle.core_tree.specs.declared.program.CoreVariable.{CoreVariable}
use Rattle.core_tree.specs.declared.program.HeadingParameter.{HeadingParameter}
use Rattle.core_tree.specs.Shapes.{counted_words, table_words}
use Rattle.frame_layout.specs.declared.frame.Frame.{Frame}

-- what takes words in a frame: a function's result, under the function's identifier, a parameter, or a variable
pub record Slot : Type 0 where
  pub ident : List ℕ
  pub shape : Shape
  pub by_place : Bool

abbrev pub slot : List ℕ → Shape → Bool → Slot
slot ident s by_place = record { ident = ident; shape = s; by_place = by_place }

abbrev pub result_slots : List ℕ → Option Shape → List Slot
result_slots ident None = []
result_slots ident (Some s) = slot ident s false ∷ []

abbrev pub parameter_slot : HeadingParameter → Slot
parameter_slot p = slot p.ident p.shape p.by_place

abbrev pub variable_slot : CoreVariable → Slot
variable_slot v = slot v.ident v.shape false

-- the result, the parameters, the variables of the block
abbrev pub slots_of : CoreRoutine → List Slot
slots_of r = result_slots r.ident r.heading.result ++ (map parameter_slot r.heading.parameters ++ map variable_slot r.variables)

-- a variable parameter holds a place, any other variable its value
abbrev pub slot_words : List ShapeEntry → Slot → ℕ
slot_words entries s = if s.by_place then 1 else table_words entries s.shape

-- one more variable begins where those before it end
abbrev pub frame_with : List ShapeEntry → Frame → Slot → Frame
frame_with entries f s = record {
  rows = f.rows ++ record { ident = s.ident; shape = s.shape; offset = f.words; by_place = s.by_place } ∷ [];
  words = counted_words (f.words + slot_words entries s);
}

abbrev pub frame_after : List ShapeEntry → Frame → List Slot → Frame
frame_after entries f [] = f
frame_after entries f (s ∷ ss) = frame_after entries (frame_with entries f s) ss

abbrev pub empty_frame : Frame
empty_frame = record { rows = []; words = 0 }

abbrev pub routine_frame : List ShapeEntry → CoreRoutine → Frame
routine_frame entries r = frame_after entries empty_frame (slots_of r)
