-- What the source and the sink in memory tell.
use Rattle.std.specs.Prelude.{ℕ, ◌+◌, ◌-◌, ◌^◌, min, Bool, ◌&&◌, ◌||◌, List, length, take, drop, nat_eq, nat_lt, vec_len}
use Rattle.std.specs.List.{list_any}
use Rattle.dice_base.specs.declared.memory.MemSource.{MemSource}
use Rattle.dice_base.specs.declared.memory.MemSink.{MemSink}

-- the number of the next call, counted from 1, as far as 32 bits count
abbrev pub next_call : ℕ → ℕ
next_call calls = min (calls + 1) (2 ^ 32 - 1)

-- whether the number of the next call is among those that fail
abbrev pub lists_next : List ℕ → ℕ → Bool
lists_next fails calls = list_any (λ n. nat_eq n (next_call calls)) fails

-- ---- the source

-- the bytes that reads will give
abbrev pub bytes_left : MemSource → List ℕ
bytes_left s = drop s.at s.bytes.items

-- how many bytes a read gives at the most
abbrev pub read_step : MemSource → ℕ
read_step s = s.step

-- the numbers of the reads that fail
abbrev pub failing_reads : MemSource → List ℕ
failing_reads s = s.fails.items

-- how many reads there were
abbrev pub reads : MemSource → ℕ
reads s = s.calls

-- how often a read failed
abbrev pub read_faults : MemSource → ℕ
read_faults s = s.faults

-- ---- the sink

-- the bytes that were taken
abbrev pub bytes_held : MemSink → List ℕ
bytes_held s = take s.filled s.bytes.items

-- how many bytes there is room for in all
abbrev pub room_of : MemSink → ℕ
room_of s = vec_len s.bytes

-- how many bytes a write takes at the most
abbrev pub write_step : MemSink → ℕ
write_step s = s.step

-- the numbers of the writes that fail
abbrev pub failing_writes : MemSink → List ℕ
failing_writes s = s.fails.items

-- how many writes there were
abbrev pub writes : MemSink → ℕ
writes s = s.calls

-- how often a write failed
abbrev pub write_faults : MemSink → ℕ
write_faults s = s.faults

-- whether the sink has no room left
abbrev pub is_full : MemSink → Bool
is_full s = nat_eq (length (bytes_held s)) (room_of s)

-- whether a write of this piece fails: its call is listed, or there is no room for any of its bytes
abbrev pub refuses : MemSink → List ℕ → Bool
refuses s piece = lists_next (failing_writes s) (writes s) || (is_full s && nat_lt 0 (length piece))
