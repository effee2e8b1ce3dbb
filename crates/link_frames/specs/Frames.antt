-- Frames of the link: a request or an answer as bytes.
--
--     bytes      request                      answer
--     0          44 hexadecimal               52 hexadecimal
--     1          kind, 1 to 8                 kind, 0 to 4
--     2 to 9     number, from 1               number of its request
--     10, 11     length of the body           length of the body
--     from 12    body                         body
--
-- Numbers are little-endian, and those in bodies have two bytes, but for the end of a run, which has one. Bytes that are no
-- whole frame of a known kind, with a number of at least 1 and a body of its kind's form, say nothing.
use Rattle.std.specs.Prelude.{◌≡◌, ◌<◌, ℕ, ◌+◌, ◌-◌, ◌*◌, ◌%◌, ◌^◌, Bool, true, false, ◌&&◌, nat_eq, nat_lt, nat_le, if◌then◌else◌, List, [], ◌∷◌, ◌++◌, length, drop, slice_index, Option, Some, None, option_map, refl}
use Rattle.byteorder.specs.Endian.{little_bytes, little_number}
use Rattle.target_monitor.specs.declared.gates.GoEnd.{GoEnd}
use Rattle.target_monitor.specs.declared.gates.GoEnd.TheVariants.{Counted, AtBreak, Ended, Error, MustDrain, Overrun, Bus, ConsoleFull}
use Rattle.target_monitor.specs.declared.requests.TheConstants.{MAX_WORDS, MAX_PIECE_BYTES, MAX_GATES}
use Rattle.target_monitor.specs.declared.requests.Request.{Request}
use Rattle.target_monitor.specs.declared.requests.Request.TheVariants.{Reset, Poke, Peek, Registers, Gate, Go, Drain, Feed}
use Rattle.target_monitor.specs.declared.requests.Reply.{Reply}
use Rattle.target_monitor.specs.declared.requests.Reply.TheVariants.{Done, Words, Went, Bytes, Bad}
use Rattle.link_frames.specs.declared.frame_buf.TheConstants.{MAX_FRAME_BYTES}
use Rattle.link_frames.specs.declared.frames.TheConstants.{REQUEST_BYTE, ANSWER_BYTE, HEAD_BYTES, RESET_KIND, POKE_KIND, PEEK_KIND, REGISTERS_KIND, GATE_KIND, GO_KIND, DRAIN_KIND, FEED_KIND, DONE_KIND, WORDS_KIND, WENT_KIND, BYTES_KIND, BAD_KIND}
use Rattle.link_frames.specs.declared.frames.RequestFrame.{RequestFrame}
use Rattle.link_frames.specs.declared.frames.AnswerFrame.{AnswerFrame}

-- A frame as bytes

-- the twelve bytes before a body of this length
abbrev pub head : ℕ → ℕ → ℕ → ℕ → List ℕ
head first kind number len = first ∷ kind ∷ (little_bytes 8 number ++ little_bytes 2 len)

-- a frame with this first byte, kind, number and body
abbrev pub frame : ℕ → ℕ → ℕ → List ℕ → List ℕ
frame first kind number body = head first kind number (length body) ++ body

-- the bytes of words
abbrev pub word_bytes : List ℕ → List ℕ
word_bytes [] = []
word_bytes (w ∷ ws) = little_bytes 2 w ++ word_bytes ws

-- a yes or no as a number
abbrev pub bit : Bool → ℕ
bit true = 1
bit false = 0

abbrev pub request_kind : Request → ℕ
request_kind Reset = RESET_KIND
request_kind (Poke place words) = POKE_KIND
request_kind (Peek place count) = PEEK_KIND
request_kind Registers = REGISTERS_KIND
request_kind (Gate place breaks) = GATE_KIND
request_kind (Go gates) = GO_KIND
request_kind Drain = DRAIN_KIND
request_kind (Feed total piece) = FEED_KIND

abbrev pub request_body : Request → List ℕ
request_body Reset = []
request_body (Poke place words) = word_bytes (place ∷ words)
request_body (Peek place count) = word_bytes (place ∷ count ∷ [])
request_body Registers = []
request_body (Gate place breaks) = word_bytes (place ∷ bit breaks ∷ [])
request_body (Go gates) = word_bytes (gates ∷ [])
request_body Drain = []
request_body (Feed total piece) = little_bytes 2 total ++ piece

abbrev pub reply_kind : Reply → ℕ
reply_kind Done = DONE_KIND
reply_kind (Words words) = WORDS_KIND
reply_kind (Went end passed) = WENT_KIND
reply_kind (Bytes piece) = BYTES_KIND
reply_kind Bad = BAD_KIND

-- the number of the end of a run
abbrev pub end_number : GoEnd → ℕ
end_number Counted = 0
end_number AtBreak = 1
end_number Ended = 2
end_number (Error code) = 3
end_number MustDrain = 4
end_number Overrun = 5
end_number Bus = 6
end_number ConsoleFull = 7

-- the number of the run-time error, and 0 where there is none
abbrev pub error_code : GoEnd → ℕ
error_code (Error code) = code
error_code other = 0

abbrev pub reply_body : Reply → List ℕ
reply_body Done = []
reply_body (Words words) = word_bytes words
reply_body (Went end passed) = end_number end ∷ word_bytes (error_code end ∷ passed ∷ [])
reply_body (Bytes piece) = piece
reply_body Bad = []

-- the bytes of a request's frame
unfoldable pub request_frame : RequestFrame → List ℕ
request_frame f = frame REQUEST_BYTE (request_kind f.request) f.number (request_body f.request)

-- the bytes of an answer's frame
unfoldable pub answer_frame : AnswerFrame → List ℕ
answer_frame f = frame ANSWER_BYTE (reply_kind f.reply) f.number (reply_body f.reply)

-- What bytes say

-- the number in the head
abbrev pub number_in : List ℕ → ℕ
number_in bytes = little_number 8 (drop 2 bytes)

-- the length of the body, as the head says
abbrev pub length_in : List ℕ → ℕ
length_in bytes = little_number 2 (drop 10 bytes)

-- the bytes are a whole frame with this first byte and a number of at least 1
abbrev pub is_whole : ℕ → List ℕ → Bool
is_whole first bytes =
    nat_le HEAD_BYTES (length bytes) && nat_le (length bytes) MAX_FRAME_BYTES && nat_eq (slice_index bytes 0) first
    && nat_lt 0 (number_in bytes) && nat_eq (length_in bytes) (length bytes - HEAD_BYTES)

-- the words of an even number of bytes
abbrev pub words_in : List ℕ → List ℕ
words_in (low ∷ high ∷ bytes) = little_number 2 (low ∷ high ∷ []) ∷ words_in bytes
words_in short = []

-- this, where it has its form
abbrev pub some_if : {X : Type 0} → Bool → X → Option X
some_if has_form x = if has_form then Some x else None

-- a number is at least 1 and at most so much
abbrev pub is_within : ℕ → ℕ → Bool
is_within n most = nat_le 1 n && nat_le n most

abbrev pub poke_in : List ℕ → Option Request
poke_in body =
    some_if (nat_eq (length body % 2) 0 && nat_le 4 (length body) && nat_le (length body) (2 + 2 * MAX_WORDS))
    (Poke (little_number 2 body) (words_in (drop 2 body)))

abbrev pub peek_in : List ℕ → Option Request
peek_in body =
    some_if (nat_eq (length body) 4 && is_within (little_number 2 (drop 2 body)) MAX_WORDS)
    (Peek (little_number 2 body) (little_number 2 (drop 2 body)))

abbrev pub gate_in : List ℕ → Option Request
gate_in body =
    some_if (nat_eq (length body) 4 && nat_le (little_number 2 (drop 2 body)) 1)
    (Gate (little_number 2 body) (nat_eq (little_number 2 (drop 2 body)) 1))

abbrev pub go_in : List ℕ → Option Request
go_in body = some_if (nat_eq (length body) 2 && is_within (little_number 2 body) MAX_GATES) (Go (little_number 2 body))

abbrev pub feed_in : List ℕ → Option Request
feed_in body =
    some_if (nat_le 3 (length body) && nat_le (length body) (2 + MAX_PIECE_BYTES))
    (Feed (little_number 2 body) (drop 2 body))

-- what only an empty body says
abbrev pub if_empty : {X : Type 0} → List ℕ → X → Option X
if_empty body x = some_if (nat_eq (length body) 0) x

-- the request of a kind with a body
abbrev pub request_in : ℕ → List ℕ → Option Request
request_in kind body =
    if nat_eq kind RESET_KIND then if_empty body Reset
    else (if nat_eq kind POKE_KIND then poke_in body
    else (if nat_eq kind PEEK_KIND then peek_in body
    else (if nat_eq kind REGISTERS_KIND then if_empty body Registers
    else (if nat_eq kind GATE_KIND then gate_in body
    else (if nat_eq kind GO_KIND then go_in body
    else (if nat_eq kind DRAIN_KIND then if_empty body Drain
    else (if nat_eq kind FEED_KIND then feed_in body
    else None)))))))

-- the end of a run with this number, other than by a run-time error
abbrev pub plain_end : ℕ → Option GoEnd
plain_end number =
    if nat_eq number 0 then Some Counted
    else (if nat_eq number 1 then Some AtBreak
    else (if nat_eq number 2 then Some Ended
    else (if nat_eq number 4 then Some MustDrain
    else (if nat_eq number 5 then Some Overrun
    else (if nat_eq number 6 then Some Bus
    else (if nat_eq number 7 then Some ConsoleFull
    else None))))))

-- the end of a run with this number and error code
abbrev pub end_in : ℕ → ℕ → Option GoEnd
end_in number code = if nat_eq number 3 then Some (Error code) else (if nat_eq code 0 then plain_end number else None)

abbrev pub words_reply_in : List ℕ → Option Reply
words_reply_in body =
    some_if (nat_eq (length body % 2) 0 && nat_le (length body) (2 * MAX_WORDS)) (Words (words_in body))

abbrev pub went_in : List ℕ → Option Reply
went_in body =
    if nat_eq (length body) 5
    then option_map (λ end. Went end (little_number 2 (drop 3 body))) (end_in (slice_index body 0) (little_number 2 (drop 1 body)))
    else None

abbrev pub bytes_in : List ℕ → Option Reply
bytes_in body = some_if (nat_le (length body) MAX_PIECE_BYTES) (Bytes body)

-- the reply of a kind with a body
abbrev pub reply_in : ℕ → List ℕ → Option Reply
reply_in kind body =
    if nat_eq kind DONE_KIND then if_empty body Done
    else (if nat_eq kind WORDS_KIND then words_reply_in body
    else (if nat_eq kind WENT_KIND then went_in body
    else (if nat_eq kind BYTES_KIND then bytes_in body
    else (if nat_eq kind BAD_KIND then if_empty body Bad
    else None))))

-- the request that bytes say, if they say one
unfoldable pub request_of : List ℕ → Option RequestFrame
request_of bytes =
    if is_whole REQUEST_BYTE bytes
    then option_map (λ request. record { number = number_in bytes; request = request }) (request_in (slice_index bytes 1) (drop HEAD_BYTES bytes))
    else None

-- the answer that bytes say, if they say one
unfoldable pub answer_of : List ℕ → Option AnswerFrame
answer_of bytes =
    if is_whole ANSWER_BYTE bytes
    then option_map (λ reply. record { number = number_in bytes; reply = reply }) (reply_in (slice_index bytes 1) (drop HEAD_BYTES bytes))
    else None

-- a number of a frame has 64 bits and is at least 1
abbrev pub IsNumber : ℕ → Type 0
IsNumber n = (0 < n) × (n < 2 ^ 64)

-- the request's frame says that request
unfoldable pub IsReadRequest : Request → Type 0
IsReadRequest request =
    (number : ℕ) → IsNumber number
    → request_of (request_frame (record { number = number; request = request })) ≡ Some (record { number = number; request = request })

-- the reply's frame says that reply
unfoldable pub IsReadReply : Reply → Type 0
IsReadReply reply =
    (number : ℕ) → IsNumber number
    → answer_of (answer_frame (record { number = number; reply = reply })) ≡ Some (record { number = number; reply = reply })

-- Go over 6 gates with the number 3
go_example : request_frame (record { number = 3; request = Go 6 }) ≡ 0x44 ∷ 6 ∷ 3 ∷ 0 ∷ 0 ∷ 0 ∷ 0 ∷ 0 ∷ 0 ∷ 0 ∷ 2 ∷ 0 ∷ 6 ∷ 0 ∷ []
unfolding request_frame
go_example = refl

-- which says that again; over 4,097 gates, or with a body of one byte more than the head says, it says nothing
go_read : request_of (0x44 ∷ 6 ∷ 3 ∷ 0 ∷ 0 ∷ 0 ∷ 0 ∷ 0 ∷ 0 ∷ 0 ∷ 2 ∷ 0 ∷ 6 ∷ 0 ∷ []) ≡ Some (record { number = 3; request = Go 6 })
unfolding request_of
go_read = refl

go_too_far : request_of (0x44 ∷ 6 ∷ 3 ∷ 0 ∷ 0 ∷ 0 ∷ 0 ∷ 0 ∷ 0 ∷ 0 ∷ 2 ∷ 0 ∷ 1 ∷ 16 ∷ []) ≡ None
unfolding request_of
go_too_far = refl

go_too_long : request_of (0x44 ∷ 6 ∷ 3 ∷ 0 ∷ 0 ∷ 0 ∷ 0 ∷ 0 ∷ 0 ∷ 0 ∷ 2 ∷ 0 ∷ 6 ∷ 0 ∷ 0 ∷ []) ≡ None
unfolding request_of
go_too_long = refl
