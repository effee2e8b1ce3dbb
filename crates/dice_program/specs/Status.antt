-- The exit status of the program, and what it says of a failure.
use Rattle.std.specs.Prelude.{ℕ, List, [], codes}
use Rattle.dice_session.specs.World.{reply_line}
use Rattle.dice_program.specs.declared.status.Status.{Status}
use Rattle.dice_program.specs.declared.status.Status.TheVariants.{Done, Usage, ReadFault, WriteFault, TooMany, NoMemory}

-- the number that a process ends with
abbrev pub number_of : Status → ℕ
number_of Done = 0
number_of Usage = 2
number_of ReadFault = 3
number_of WriteFault = 4
number_of TooMany = 6
number_of NoMemory = 7

-- the line on standard error
abbrev pub message_of : Status → List ℕ
message_of Done = []
message_of Usage = []
message_of ReadFault = reply_line (codes "dice11: the script could not be read")
message_of WriteFault = reply_line (codes "dice11: the transcript could not be written")
message_of TooMany = reply_line (codes "dice11: the script has too many lines or bytes")
message_of NoMemory = reply_line (codes "dice11: out of memory")
