-- What the blocks of simple programs do, and when a machine stands for their variables, their frame and their output.
use Rattle.std.specs.Prelude.{◌≡◌, ℕ, ◌+◌, ◌-◌, ◌*◌, ◌<◌, ◌≤◌, Bool, true, false, List, [], ◌∷◌, ◌++◌, length, slice_index, slice_set}
use Rattle.dice_base.specs.IntegerText.{integer_text}
use Rattle.dice_base.specs.declared.link.LinkTo.TheVariants.{Next, Child}
use Rattle.console_service.specs.declared.memory_map.TheConstants.{CONSOLE_ROOM_BYTES, MEMORY_END_BYTE, MEMORY_END_WORD}
use Rattle.statement_code.specs.declared.emit.TheConstants.{STACK_CHARGE_WORDS}
use Rattle.console_service.specs.Cpu.{Cpu}
use Rattle.console_service.specs.Block.{First}
use Rattle.console_service.specs.Semantics.{Begin, At, Exit, Out, Over, Fails, Hanging, Semantics}
use Rattle.pascal_semantics.specs.declared.form.SimpleForm.{SimpleForm}
use Rattle.pascal_semantics.specs.declared.form.SimpleForm.TheVariants.{Assign, WriteLine, Empty}
use Rattle.pascal_semantics.specs.Charge.{charge_of, program_charge}
use Rattle.pascal_semantics.specs.Step.{Evaluation, Value, Error, width_of}
use Rattle.pascal_semantics.specs.Evaluations.{form_evaluation}
use Rattle.statement_code.specs.ExpressionCode.{HasGlobals}

-- the own forms of blocks: that of the program, and those of its statements
pub data BlockForm : Type 0 where
  ProgramBlock : BlockForm
  StatementBlock : (form : SimpleForm) → BlockForm

-- there are no calls yet
abbrev pub NoCall : Type 0
NoCall = ⊥

-- there is none to number
abbrev pub call_number : NoCall → ℕ
call_number path = 0

-- there is none in any form
abbrev pub IsCall : BlockForm → NoCall → Type 0
IsCall f path = ⊥

-- the variables and the output; whether the program's frame was made
pub record Store : Type 0 where
  pub globals : List ℕ
  pub output : List ℕ
  pub started : Bool

-- what a statement does with the value of its sum
abbrev pub after_effect : SimpleForm → ℕ → Store → Store
after_effect (Assign g e) v d = record d { globals = slice_set d.globals g v }
after_effect (WriteLine e w) v d = record d { output = d.output ++ (integer_text v (width_of w) ++ 10 ∷ []) }
after_effect Empty v d = d

-- how a statement leaves its block: to the next one, or in an error
abbrev pub exit_by : SimpleForm → Store → Evaluation → Exit NoCall Store
exit_by f d (Value v) = Out Next (after_effect f v d)
exit_by f d (Error number) = Fails number d

-- the value that a statement does its effect with, or its error
abbrev pub evaluation_of : SimpleForm → Store → Evaluation
evaluation_of f d = form_evaluation f d.globals

-- a statement is carried out from its gate; the program's block makes the frame, and its end part ends the program
abbrev pub does : BlockForm → Begin NoCall → Store → Exit NoCall Store
does (StatementBlock f) s d = exit_by f d (evaluation_of f d)
does ProgramBlock (At First) d = Out (Child 0) (record d { started = true })
does ProgramBlock other d = Over d

-- the program's frame, the topmost words of the stack: return address, caller's R5, where R5 points, static link, the
-- sum of the stack charges, and nine words for what a statement holds, which are zero while none holds anything
pub record HasFrame (c : Cpu) : Type 0 where
  pub frame : c.r5 ≡ MEMORY_END_BYTE - 4
  pub stack : c.sp ≡ MEMORY_END_WORD - 13
  pub back : slice_index c.mem (MEMORY_END_WORD - 1) ≡ 0
  pub caller : slice_index c.mem (MEMORY_END_WORD - 2) ≡ 0
  pub static_link : slice_index c.mem (MEMORY_END_WORD - 3) ≡ 0
  pub charges : slice_index c.mem (MEMORY_END_WORD - 4) ≡ STACK_CHARGE_WORDS
  pub zeros : (k : ℕ) → MEMORY_END_WORD - 13 ≤ k → k < MEMORY_END_WORD - 4 → slice_index c.mem k ≡ 0

-- the program's frame is made, or the stack is empty before that
abbrev pub FrameHolds : Bool → Cpu → Type 0
FrameHolds true c = HasFrame c
FrameHolds false c = c.sp ≡ MEMORY_END_WORD

-- variables, frame and output are those of the store
pub record Holds (d : Store) (hs : List (Hanging NoCall)) (c : Cpu) : Type 0 where
  pub globals_are : HasGlobals d.globals c
  pub frame : FrameHolds d.started c
  pub console : c.console.output ≡ d.output

-- once a run has ended, its variables and its output are told
pub record Shows (d : Store) (c : Cpu) : Type 0 where
  pub globals_are : HasGlobals d.globals c
  pub console : c.console.output ≡ d.output

-- the longest line that a statement writes
abbrev pub line_room : ℕ
line_room = 257

-- at a gate the output has room for a line; the program's frame is made once
abbrev pub IsGood : BlockForm → Begin NoCall → Store → Type 0
IsGood (StatementBlock f) s d = length d.output + line_room ≤ CONSOLE_ROOM_BYTES
IsGood ProgramBlock (At First) d = d.started ≡ false
IsGood ProgramBlock other d = Unit {0}

-- the words of a block
abbrev pub block_charge : BlockForm → ℕ
block_charge ProgramBlock = program_charge
block_charge (StatementBlock f) = charge_of f

-- at the most so many instructions in a stretch, for each word of the block
abbrev pub most : BlockForm → Begin NoCall → ℕ
most f s = 16384 * block_charge f

-- the meaning of simple programs, for the level of blocks
abbrev pub simple : Semantics BlockForm NoCall Store
simple = record {
  does = does;
  number = call_number;
  IsPath = IsCall;
  IsGood = IsGood;
  Holds = Holds;
  Shows = Shows;
  most = most;
}
