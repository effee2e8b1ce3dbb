-- What fits its type, in requests and replies: what a frame can say is below 2^16 or 2^8.
use Rattle.std.specs.Prelude.{◌<◌, ◌≤◌, ℕ, ◌^◌, List, length, slice_index}
use Rattle.target_monitor.specs.declared.gates.GoEnd.{GoEnd}
use Rattle.target_monitor.specs.declared.gates.GoEnd.TheVariants.{Error}
use Rattle.target_monitor.specs.declared.requests.TheConstants.{MAX_WORDS, MAX_PIECE_BYTES}
use Rattle.target_monitor.specs.declared.requests.Request.{Request}
use Rattle.target_monitor.specs.declared.requests.Request.TheVariants.{Poke, Peek, Gate, Go, Feed}
use Rattle.target_monitor.specs.declared.requests.Reply.{Reply}
use Rattle.target_monitor.specs.declared.requests.Reply.TheVariants.{Words, Went, Bytes}

-- each is a word
abbrev pub FitWords : List ℕ → Type 0
FitWords ws = (k : ℕ) → slice_index ws k < 2 ^ 16

-- each is a byte
abbrev pub FitBytes : List ℕ → Type 0
FitBytes bs = (k : ℕ) → slice_index bs k < 256

abbrev pub FitsRequest : Request → Type 0
FitsRequest (Poke place words) = (place < 2 ^ 16) × FitWords words
FitsRequest (Peek place count) = (place < 2 ^ 16) × (count < 2 ^ 16)
FitsRequest (Gate place breaks) = place < 2 ^ 16
FitsRequest (Go gates) = gates < 2 ^ 16
FitsRequest (Feed total piece) = total < 2 ^ 16
FitsRequest other = Unit {0}

abbrev pub FitsEnd : GoEnd → Type 0
FitsEnd (Error code) = code < 2 ^ 16
FitsEnd other = Unit {0}

abbrev pub FitsReply : Reply → Type 0
FitsReply (Words words) = FitWords words × (length words ≤ MAX_WORDS)
FitsReply (Went end passed) = FitsEnd end × (passed < 2 ^ 16)
FitsReply (Bytes piece) = length piece ≤ MAX_PIECE_BYTES
FitsReply other = Unit {0}
