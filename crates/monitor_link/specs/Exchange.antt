-- What an exchange over a link may do.
use Rattle.std.specs.Prelude.{◌≡◌, ◌<◌, ◌≤◌, ◌⊎◌, ℕ, List, [], ◌∷◌, take, Option, Some, None}
use Rattle.link_frames.specs.Frames.{IsReadReply}
use Rattle.monitor_link.specs.declared.link.Heard.{Heard}
use Rattle.monitor_link.specs.declared.link.Heard.TheVariants.{Answer, Silence}
use Rattle.monitor_link.specs.declared.link.TheConstants.{KEPT_FRAMES}
use Rattle.monitor_link.specs.Target.{EndState, fresh_end, given, all_delivered, all_given}

-- x is one of these
abbrev pub Among : {A : Type 0} → A → List A → Type 0
Among x [] = ⊥
Among x (y ∷ ys) = (x ≡ y) ⊎ Among x ys

-- what was heard: the bytes of an answer, or nothing
abbrev pub answer_heard : Heard → List ℕ → Option (List ℕ)
answer_heard Answer bytes = Some bytes
answer_heard Silence bytes = None

-- the last nine frames, the newest first
abbrev pub frames_with : List ℕ → List (List ℕ) → List (List ℕ)
frames_with frame frames = take KEPT_FRAMES (frame ∷ frames)

-- An exchange of a frame. The target took any frames among this one and the eight before it, in any order, each as often as
-- it may be; what was heard is nothing or one of the last answers. Where the count of faults did not rise, the target took
-- this frame exactly once, and its answer was heard, or nothing where it gave none. What the target keeps is a reply that is
-- read back from its frame: so the bytes of an answer say no other reply.
pub record Exchanged (frame : List ℕ) (heard : Option (List ℕ)) (old new : EndState) (frames answers_old answers_new : List (List ℕ)) (before now : ℕ) : Type 0 where
  pub deliveries : List (List ℕ)
  pub sent : (f : List ℕ) → Among f deliveries → Among f (frames_with frame frames)
  pub took : new ≡ all_delivered deliveries old
  pub answers : (a : List ℕ) → Among a answers_new → Among a answers_old ⊎ Among a (all_given deliveries old)
  pub heard_one : (a : List ℕ) → heard ≡ Option.Some a → Among a answers_new
  pub reads : IsReadReply new.kept
  pub later : before ≤ now
  pub clean : (before < now) ⊎ ((deliveries ≡ frame ∷ []) × (heard ≡ given old frame))

-- nothing was asked over the link yet
pub record IsFresh (target : EndState) (frames answers : List (List ℕ)) : Type 0 where
  pub untouched : target ≡ fresh_end
  pub unsent : frames ≡ []
  pub unanswered : answers ≡ []
