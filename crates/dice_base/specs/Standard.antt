-- What standard input and output tell: the bytes that the kit's reader and writer tell.
use Rattle.std.specs.Prelude.{ℕ, List}
use Rattle.std.specs.declared.option.Option.{Option}
use Rattle.std.specs.Io.Buffered.{reader_remaining}
use Rattle.dice_base.specs.declared.standard.StdSource.{StdSource}
use Rattle.dice_base.specs.declared.standard.StdSink.{StdSink}

-- the bytes that reads will give: those that were read ahead, and then those of the reader
abbrev pub input_left : {R : Type 0} → (R → Option (List ℕ)) → StdSource R → Option (List ℕ)
input_left remaining s = reader_remaining remaining s.reader

-- how often a read failed
abbrev pub input_faults : {R : Type 0} → StdSource R → ℕ
input_faults s = s.faults

-- the bytes that the writer holds
abbrev pub output_held : {W : Type 0} → (W → Option (List ℕ)) → StdSink W → Option (List ℕ)
output_held contents s = contents s.output

-- how often a write failed
abbrev pub output_faults : {W : Type 0} → StdSink W → ℕ
output_faults s = s.faults
