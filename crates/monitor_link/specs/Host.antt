-- The host's end of a link, and what its requests come to.
use Rattle.std.specs.Prelude.{◌≡◌, ◌<◌, ◌≤◌, ◌⊎◌, ℕ, ◌+◌, Bool, true, false, List, Option, None, Some, Result, Ok, Err, IfSome, option_map}
use Rattle.target_monitor.specs.declared.requests.Request.{Request}
use Rattle.target_monitor.specs.declared.requests.Reply.{Reply}
use Rattle.link_frames.specs.declared.frames.RequestFrame.{RequestFrame}
use Rattle.link_frames.specs.Frames.{request_of, answer_frame}
use Rattle.monitor_link.specs.declared.host_end.LinkDown.{LinkDown}
use Rattle.monitor_link.specs.Target.{EndState, reply_to, executed}
use Rattle.monitor_link.specs.Exchange.{Among}

-- the number of the last request, and the request that waits for its answer, if one does
pub record HostState : Type 0 where
  pub number : ℕ
  pub waits : Option Request

-- the request that a frame says
abbrev pub request_in_frame : List ℕ → Option Request
request_in_frame bytes = option_map (λ f. f.request) (request_of bytes)

-- the request that waits, where one does, which is that of the last frame
abbrev pub waiting_request : Bool → List ℕ → Option Request
waiting_request false frame = None
waiting_request true frame = request_in_frame frame

-- the last frame is kept while its request waits: it says a request, with the host's number
abbrev pub IsKeptFrame : Bool → ℕ → List ℕ → Type 0
IsKeptFrame false number frame = Unit {0}
IsKeptFrame true number frame = (request : Request) × (request_of frame ≡ Some (record { number = number; request = request }))

-- the host's end while the request that this frame says waits
abbrev pub sender : ℕ → List ℕ → HostState
sender number frame = record { number = number; waits = request_in_frame frame }

-- a frame is no newer than the host's last request, and with its number it says the request that waits
abbrev pub BelongsTo : HostState → RequestFrame → Type 0
BelongsTo host f = (f.number ≤ host.number) × (f.number ≡ host.number → IfSome host.waits (λ r. f.request ≡ r))

-- an answer is no newer than the target's last request, and with its number it is the kept one
pub record Agrees (t : EndState) (answer : List ℕ) : Type 0 where
  pub number : ℕ
  pub reply : Reply
  pub bytes : answer ≡ answer_frame (record { number = number; reply = reply })
  pub known : number ≤ t.last
  pub kept : number ≡ t.last → reply ≡ t.kept

-- the target executed the host's last request, or perhaps not yet
abbrev pub Reaches : ℕ → EndState → Type 0
Reaches number t = (t.last + 1 ≡ number) ⊎ (t.last ≡ number)

-- where no request waits the last one was executed; where one waits, perhaps not yet
abbrev pub IsAt : Option Request → ℕ → EndState → Type 0
IsAt None number t = t.last ≡ number
IsAt (Some request) number t = (0 < number) × Reaches number t

-- The host's end is in step with a link's target, last frames and last answers: the target executed the host's last
-- request, or that one waits and may still come; no frame is newer, and one that bears the host's number is the waiting
-- request's; each answer is of a request that was executed, and one to the last of them is the kept one; and the target
-- executed at least as many requests as it counts Resets and Gos.
pub record IsSynchronized (host : HostState) (target : EndState) (frames answers : List (List ℕ)) : Type 0 where
  pub at : IsAt host.waits host.number target
  pub sent : (bytes : List ℕ) → Among bytes frames → IfSome (request_of bytes) (BelongsTo host)
  pub answered : (bytes : List ℕ) → Among bytes answers → Agrees target bytes
  pub counted : target.target.resets + target.target.goes ≤ target.last

-- the request was executed once or not at all, since the target's end was this one
abbrev pub AtMostOnce : EndState → Request → EndState → Type 0
AtMostOnce base request t = (t ≡ base) ⊎ (t ≡ executed base request)

-- the target's end as it was before the request was first asked, by the request that waits
abbrev pub IsBaseBy : Option Request → ℕ → Request → EndState → EndState → Type 0
IsBaseBy None number request base t = t ≡ base
IsBaseBy (Some waiting) number request base t = (base.last + 1 ≡ number) × AtMostOnce base request t

-- the target's end as it was before the request was first asked
abbrev pub IsBase : HostState → Request → EndState → EndState → Type 0
IsBase host request base t = IsBaseBy host.waits host.number request base t

-- executed exactly once since then, and this is its reply; or executed at most once, and it waits
abbrev pub Asked : Result Unit LinkDown → Request → EndState → HostState → EndState → Reply → Type 0
Asked (Ok done) request base host t reply = (t ≡ executed base request) × (reply ≡ reply_to base.target request)
Asked (Err down) request base host t reply = (base.last + 1 ≡ host.number) × AtMostOnce base request t

-- the number of a request that is asked for the first time, or again, after this number
abbrev pub next_number : Option Request → ℕ → ℕ
next_number None number = number + 1
next_number (Some request) number = number

-- what waits once the answer came, or did not
abbrev pub waits_after : Result Unit LinkDown → Option Request → Option Request
waits_after (Ok done) waits = None
waits_after (Err down) waits = waits
