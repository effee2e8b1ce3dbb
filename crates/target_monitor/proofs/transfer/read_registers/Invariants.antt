use Rattle.std.proofs.Common.{◌≡◌, take}
use Rattle.target_monitor.proofs.transfer.read_registers.Given as goal

abbrev pub invariant-loop-number : goal.invariant-loop-number
invariant-loop-number l = l.words ≡ take l.number l.machine.registers
