-- What the target's end does with bytes that come to it.
use Rattle.std.specs.Prelude.{ℕ, ◌+◌, nat_eq, if◌then◌else◌, List, [], ◌∷◌, ◌++◌, Option, None, Some}
use Rattle.std.specs.Option.{option_to_list}
use Rattle.target_monitor.specs.declared.requests.Request.{Request}
use Rattle.target_monitor.specs.declared.requests.Reply.{Reply}
use Rattle.target_monitor.specs.declared.requests.Reply.TheVariants.{Done}
use Rattle.target_monitor.specs.Served.{TargetState, fresh_target, served}
use Rattle.link_frames.specs.declared.frames.RequestFrame.{RequestFrame}
use Rattle.link_frames.specs.Frames.{request_of, answer_frame}

-- the target, the number of the last request that was executed, or 0 before the first, and the reply to it
pub record EndState : Type 0 where
  pub target : TargetState
  pub last : ℕ
  pub kept : Reply

-- the target's end before the first request
abbrev pub fresh_end : EndState
fresh_end = record { target = fresh_target; last = 0; kept = Done }

-- the target after a request
unfoldable pub target_after : TargetState → Request → TargetState
target_after t request = (served request t).0

-- its reply
unfoldable pub reply_to : TargetState → Request → Reply
reply_to t request = (served request t).1

-- the target's end after it executed a request: the number rises by one, and the reply is kept
abbrev pub executed : EndState → Request → EndState
executed t request = record { target = target_after t.target request; last = t.last + 1; kept = reply_to t.target request }

-- after a frame: the request with the last number plus one is executed, and nothing else changes anything
abbrev pub taken_frame : EndState → Option RequestFrame → EndState
taken_frame t None = t
taken_frame t (Some f) = if nat_eq f.number (t.last + 1) then executed t f.request else t

-- the answer that is then given: the kept one, to a frame with the last number
abbrev pub kept_answer : EndState → Option RequestFrame → Option (List ℕ)
kept_answer t None = None
kept_answer t (Some f) =
    if nat_eq f.number t.last then Some (answer_frame (record { number = t.last; reply = t.kept })) else None

-- the target's end after any bytes
abbrev pub delivered : EndState → List ℕ → EndState
delivered t bytes = taken_frame t (request_of bytes)

-- the answer to any bytes
abbrev pub given : EndState → List ℕ → Option (List ℕ)
given t bytes = kept_answer (delivered t bytes) (request_of bytes)

-- the target's end after one delivery after another
abbrev pub all_delivered : List (List ℕ) → EndState → EndState
all_delivered [] t = t
all_delivered (f ∷ fs) t = all_delivered fs (delivered t f)

-- all answers to them
abbrev pub all_given : List (List ℕ) → EndState → List (List ℕ)
all_given [] t = []
all_given (f ∷ fs) t = option_to_list (given t f) ++ all_given fs (delivered t f)
