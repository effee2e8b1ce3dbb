-- What a link in memory does with a frame, by the fate of the exchange.
use Rattle.std.specs.Prelude.{◌≡◌, ℕ, ◌+◌, ◌-◌, ◌^◌, Bool, ◌&&◌, nat_eq, nat_lt, if◌then◌else◌, List, [], ◌∷◌, ◌++◌, take, slice_get, slice_index, length, Option, Some, None, unwrap_or}
use Rattle.std.specs.Option.{option_to_list}
use Rattle.monitor_link.specs.declared.link.Fate.{Fate}
use Rattle.monitor_link.specs.declared.link.Fate.TheVariants.{Pass, RequestLost, AnswerLost, Twice, Stale}
use Rattle.monitor_link.specs.declared.link.TheConstants.{KEPT_FRAMES}
use Rattle.monitor_link.specs.Target.{EndState, fresh_end, delivered, given, all_delivered}

-- the target's end, the fates that were scheduled and the place reached in them, the last nine frames and answers with the
-- newest first, the kind of which the next frames are lost and how many, and the count of faults
pub record WireState : Type 0 where
  pub target : EndState
  pub fates : List Fate
  pub at : ℕ
  pub frames : List (List ℕ)
  pub answers : List (List ℕ)
  pub lose_kind : ℕ
  pub lose_times : ℕ
  pub faults : ℕ

-- a link on which nothing was asked, and every exchange passes
abbrev pub fresh_wire : WireState
fresh_wire = record {
  target = fresh_end;
  fates = [];
  at = 0;
  frames = [];
  answers = [];
  lose_kind = 0;
  lose_times = 0;
  faults = 0;
}

-- where there is no frame yet, the target is fresh and there is no answer
abbrev pub IsBegun : List (List ℕ) → EndState → List (List ℕ) → Type 0
IsBegun frames target answers = frames ≡ [] → (target ≡ fresh_end) × (answers ≡ [])

-- the fate that the list says, and Pass when it is used up
abbrev pub listed_fate : WireState → Fate
listed_fate w = unwrap_or (slice_get w.fates w.at) Pass

-- the frame is one of those that are to be lost
abbrev pub is_lost : WireState → List ℕ → Bool
is_lost w frame = nat_lt 0 w.lose_times && nat_lt 1 (length frame) && nat_eq (slice_index frame 1) w.lose_kind

-- the fate of an exchange: where the count cannot rise it passes, and else a frame that is to be lost is lost
abbrev pub chosen_fate : ℕ → Bool → Fate → Fate
chosen_fate faults lost listed =
    if nat_eq faults (2 ^ 64 - 1) then Pass else (if lost then RequestLost else listed)

abbrev pub fate_of : WireState → List ℕ → Fate
fate_of w frame = chosen_fate w.faults (is_lost w frame) (listed_fate w)

-- all fates but Pass are faults
abbrev pub faults_of : Fate → ℕ
faults_of Pass = 0
faults_of other = 1

-- the link once the fate of an exchange is chosen: the place in the list is used, and so is a loss; a fault is counted
abbrev pub after_fate : WireState → List ℕ → WireState
after_fate w frame = record w {
  at = if nat_lt w.at (length w.fates) then w.at + 1 else w.at;
  lose_times = if is_lost w frame then w.lose_times - 1 else w.lose_times;
  faults = w.faults + faults_of (fate_of w frame);
}

-- the last nine answers with one more, if one is given
abbrev pub answers_with : Option (List ℕ) → List (List ℕ) → List (List ℕ)
answers_with None answers = answers
answers_with (Some a) answers = take KEPT_FRAMES (a ∷ answers)

-- the last nine answers after deliveries
abbrev pub answers_after : List (List ℕ) → EndState → List (List ℕ) → List (List ℕ)
answers_after [] t answers = answers
answers_after (f ∷ fs) t answers = answers_after fs (delivered t f) (answers_with (given t f) answers)

-- what the target takes: this frame, no frame, or this one twice or after that of the exchange before
abbrev pub deliveries : Fate → Option (List ℕ) → List ℕ → List (List ℕ)
deliveries Pass before frame = frame ∷ []
deliveries RequestLost before frame = []
deliveries AnswerLost before frame = frame ∷ []
deliveries Twice before frame = frame ∷ frame ∷ []
deliveries Stale before frame = option_to_list before ++ frame ∷ []

-- the answer to the frame of the exchange before, if there was one
abbrev pub stale_answer : Option (List ℕ) → EndState → Option (List ℕ)
stale_answer None t = None
stale_answer (Some before) t = given t before

-- which answer is heard
abbrev pub answer_by : Fate → Option (List ℕ) → List ℕ → EndState → Option (List ℕ)
answer_by Pass before frame t = given t frame
answer_by RequestLost before frame t = None
answer_by AnswerLost before frame t = None
answer_by Twice before frame t = given (delivered t frame) frame
answer_by Stale before frame t = stale_answer before t

pub record Carried (fate : Fate) (before : Option (List ℕ)) (frame : List ℕ) (heard : Option (List ℕ)) (old new : EndState) (answers_old answers_new : List (List ℕ)) : Type 0 where
  pub took : new ≡ all_delivered (deliveries fate before frame) old
  pub answers : answers_new ≡ answers_after (deliveries fate before frame) old answers_old
  pub heard_one : heard ≡ answer_by fate before frame old
