-- What clauses see of a console, and what its services do.
use Rattle.std.specs.Prelude.{ℕ, ◌+◌, ◌-◌, Bool, ◌&&◌, ◌||◌, nat_eq, nat_lt, nat_le, if◌then◌else◌, List, [], ◌∷◌, ◌++◌, length}
use Rattle.dice_base.specs.IntegerText.{integer_text}
use Rattle.pdp11_machine.specs.State.{MachineState, reg}
use Rattle.console_service.specs.declared.memory_map.TheConstants.{CONSOLE_ROOM_BYTES}
use Rattle.console_service.specs.declared.services.TheConstants as service
use Rattle.console_service.specs.declared.console.Served.{Served}
use Rattle.console_service.specs.declared.console.Served.TheVariants.{Done, Finished, Error, Full}

-- the bytes that were written and not yet drained, and those that were fed and not yet read
pub record ConsoleState : Type 0 where
  pub output : List ℕ
  pub input : List ℕ

-- both queues are empty
abbrev pub empty_console : ConsoleState
empty_console = record { output = []; input = [] }

-- the free room of the output, in bytes
abbrev pub output_room : ConsoleState → ℕ
output_room k = CONSOLE_ROOM_BYTES - length k.output

-- the free room of the input, in bytes
abbrev pub input_room : ConsoleState → ℕ
input_room k = CONSOLE_ROOM_BYTES - length k.input

-- the services that are built: the end of the program, an integer, a line end
abbrev pub is_service : ℕ → Bool
is_service number =
    nat_eq number service.PROGRAM_END
    || nat_eq number service.WRITE_INTEGER
    || nat_eq number service.WRITE_LINE_END

-- the sign of a word as a signed number, as a text
abbrev pub sign_of : ℕ → List ℕ
sign_of word = if nat_lt word 32768 then [] else 45 ∷ []

-- its magnitude
abbrev pub size_of : ℕ → ℕ
size_of word = if nat_lt word 32768 then word else 65536 - word

-- a text is added to the output where all of it has room; else nothing is written
unfoldable pub after_write : List ℕ → MachineState → ConsoleState → MachineState × ConsoleState × Served
after_write text s k =
    if nat_le (length k.output + length text) CONSOLE_ROOM_BYTES
    then (s, record k { output = k.output ++ text }, Done)
    else (s, k, Full)

-- the integer in R0 is written in the width in R1
abbrev pub after_integer_write : MachineState → ConsoleState → MachineState × ConsoleState × Served
after_integer_write s k =
    if nat_le 1 (reg s 1) && nat_le (reg s 1) service.MAX_WIDTH
    then after_write (integer_text (reg s 0) (reg s 1)) s k
    else (s, k, Error service.WIDTH_ERROR)

-- what a service leaves, and how it ended
abbrev pub service_result : ℕ → MachineState → ConsoleState → MachineState × ConsoleState × Served
service_result number s k =
    if nat_eq number service.PROGRAM_END then (s, k, Finished)
    else (if nat_eq number service.WRITE_INTEGER then after_integer_write s k
    else after_write (10 ∷ []) s k)
