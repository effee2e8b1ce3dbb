-- What the monitor does with a request, and what it replies: one equation for each request.
--
-- Places are byte addresses. The code area and the area of patches behind it reach from CODE_BYTE to GLOBALS_BYTE. Words
-- are written there alone, but by Reset, which makes everything zero, and by Go, which executes instructions. A request
-- that is refused changes nothing.
use Rattle.std.specs.Prelude.{ℕ, ◌+◌, ◌-◌, ◌*◌, ◌/◌, ◌%◌, ◌^◌, ◌≤◌, min, Bool, ◌&&◌, nat_eq, nat_le, if◌then◌else◌, Some, List, [], ◌∷◌, ◌++◌, length, take, drop}
use Rattle.pdp11_machine.specs.State.{MachineState, word_at, with_word, with_reg, status_of, zero_machine}
use Rattle.console_service.specs.declared.memory_map.TheConstants.{CODE_BYTE, GLOBALS_BYTE, MEMORY_END_BYTE}
use Rattle.console_service.specs.declared.opcodes.TheConstants.{NOP, BPT}
use Rattle.console_service.specs.Console.{ConsoleState, empty_console, input_room}
use Rattle.console_service.specs.Run.{is_gate_word}
use Rattle.target_monitor.specs.declared.gates.GoEnd.{GoEnd}
use Rattle.target_monitor.specs.declared.gates.GoEnd.TheVariants as end
use Rattle.target_monitor.specs.declared.requests.TheConstants.{MAX_WORDS, MAX_PIECE_BYTES, MAX_GATES}
use Rattle.target_monitor.specs.declared.requests.Request.{Request}
use Rattle.target_monitor.specs.declared.requests.Request.TheVariants.{Reset, Poke, Peek, Registers, Gate, Go, Drain, Feed}
use Rattle.target_monitor.specs.declared.requests.Reply.{Reply}
use Rattle.target_monitor.specs.declared.requests.Reply.TheVariants.{Done, Words, Went, Bytes, Bad}
use Rattle.target_monitor.specs.declared.target.TheConstants.{GATE_ROOM_BYTES}
use Rattle.target_monitor.specs.declared.target.ProgramStatus.{ProgramStatus}
use Rattle.target_monitor.specs.declared.target.ProgramStatus.TheVariants.{Unfinished, Ended, Failed}
use Rattle.target_monitor.specs.Go.{GoResult, go_result}

-- the machine and its console, how far the program has come, and how many Resets and Gos were carried out
pub record TargetState : Type 0 where
  pub machine : MachineState
  pub console : ConsoleState
  pub status : ProgramStatus
  pub resets : ℕ
  pub goes : ℕ

-- a target that was asked nothing yet
abbrev pub fresh_target : TargetState
fresh_target = record { machine = zero_machine; console = empty_console; status = Unfinished; resets = 0; goes = 0 }

-- the request has its form: how many words, bytes or gates it speaks of
abbrev pub HasForm : Request → Type 0
HasForm (Poke place words) = (1 ≤ length words) × (length words ≤ MAX_WORDS)
HasForm (Peek place count) = (1 ≤ count) × (count ≤ MAX_WORDS)
HasForm (Go gates) = (1 ≤ gates) × (gates ≤ MAX_GATES)
HasForm (Feed total piece) = (1 ≤ length piece) × (length piece ≤ MAX_PIECE_BYTES)
HasForm other = Unit {0}

-- a count that rises stands still at 2^64 - 1
abbrev pub count_after : ℕ → ℕ
count_after n = min (n + 1) (2 ^ 64 - 1)

-- the machine at the start of a program: zero, but for SP at the end of the memory and PC at the begin of the code
abbrev pub start_machine : MachineState
start_machine = with_reg (with_reg zero_machine 6 MEMORY_END_BYTE) 7 CODE_BYTE

-- so many bytes from an even place on lie in the code area and the area of patches
abbrev pub is_in_code : ℕ → ℕ → Bool
is_in_code place bytes = nat_eq (place % 2) 0 && nat_le CODE_BYTE place && nat_le (place + bytes) GLOBALS_BYTE

-- so many bytes from an even place on lie in the memory
abbrev pub is_in_memory : ℕ → ℕ → Bool
is_in_memory place bytes = nat_eq (place % 2) 0 && nat_le (place + bytes) MEMORY_END_BYTE

-- the machine with these words from an even place on
unfoldable pub with_words : MachineState → ℕ → List ℕ → MachineState
with_words s place [] = s
with_words s place (w ∷ ws) = with_words (with_word s place w) (place + 2) ws

-- so many words from an even place on
abbrev pub words_at : MachineState → ℕ → ℕ → List ℕ
words_at s place count = take count (drop (place / 2) s.memory)

-- R0 to R5, SP, PC and the status word
abbrev pub register_words : MachineState → List ℕ
register_words s = s.registers ++ status_of s ∷ []

-- the word of a gate, with a break or without
abbrev pub gate_word : Bool → ℕ
gate_word breaks = if breaks then BPT else NOP

-- how far a program has come whose run ended so
abbrev pub status_after : GoEnd → ProgramStatus
status_after end.Ended = Ended
status_after (end.Error number) = Failed number
status_after other = Unfinished

-- done, and the target is this one
abbrev pub done : TargetState → TargetState × Reply
done t = (t, Done)

-- refused, and the target is the one that it was
abbrev pub refused : TargetState → TargetState × Reply
refused t = (t, Bad)

-- a run that was carried out, with what it left and told
abbrev pub after_run : TargetState → GoResult → TargetState × Reply
after_run t (s, k, went) = (
  record t { machine = s; console = k; status = status_after went.end; goes = count_after t.goes },
  Went went.end went.passed,
)

-- a Go, by how far the program has come
abbrev pub after_go : ProgramStatus → ℕ → TargetState → TargetState × Reply
after_go Unfinished gates t = after_run t (go_result (Some GATE_ROOM_BYTES) gates t.machine t.console)
after_go other gates t = refused t

-- the request carried out, and the reply
abbrev pub served : Request → TargetState → TargetState × Reply
served Reset t =
    done (record t { machine = start_machine; console = empty_console; status = Unfinished; resets = count_after t.resets })
served (Poke place words) t =
    if is_in_code place (2 * length words)
    then done (record t { machine = with_words t.machine place words })
    else refused t
served (Peek place count) t =
    if is_in_memory place (2 * count)
    then (t, Words (words_at t.machine place count))
    else refused t
served Registers t = (t, Words (register_words t.machine))
served (Gate place breaks) t =
    if is_in_code place 2 && is_gate_word (word_at t.machine place)
    then done (record t { machine = with_word t.machine place (gate_word breaks) })
    else refused t
served (Go gates) t = after_go t.status gates t
served Drain t = (
  record t { console = record t.console { output = drop MAX_PIECE_BYTES t.console.output } },
  Bytes (take MAX_PIECE_BYTES t.console.output),
)
served (Feed total piece) t =
    if nat_le (length piece) total && nat_le total (input_room t.console)
    then done (record t { console = record t.console { input = t.console.input ++ piece } })
    else refused t
