-- A plain machine of stretches, over any forms: a stretch goes from where a block is begun to where it is left.
use Rattle.std.specs.Prelude.{ℕ, ◌+◌, zero, suc, Bool, true, false, List, [], ◌∷◌, Option, Some, None}
use Rattle.dice_base.specs.declared.link.LinkTo.{LinkTo}
use Rattle.console_service.specs.Block.{Gate, Spot}
use Rattle.console_service.specs.Semantics.{Begin, At, Back, Exit, Out, Calls, Returns, Over, Fails, Semantics}

-- a program as far as runs see it: the own form of each name with a block, and the ends of its links
pub record FormProgram (Form : Type 0) : Type 0 where
  pub form : ℕ → Option Form
  pub link_end : ℕ → LinkTo → Spot

-- a statement that waits for its call
pub record Pending (Path : Type 0) : Type 0 where
  pub name : ℕ
  pub path : Path

-- a state in the middle of a run
pub record Now (Path Data : Type 0) : Type 0 where
  pub name : ℕ
  pub start : Begin Path
  pub data_now : Data
  pub older : List (Pending Path)

-- a state of a run: in its middle, at the end, in a run-time error; or stuck, which no run of a program is
pub data StretchState (Path Data : Type 0) : Type 0 where
  Goes : (now : Now Path Data) → StretchState Path Data
  Ended : (name : ℕ) → (d : Data) → StretchState Path Data
  Failed : (error name : ℕ) → (d : Data) → StretchState Path Data
  Stuck : StretchState Path Data

-- it is not stuck
abbrev pub IsLive : {Path Data : Type 0} → StretchState Path Data → Type 0
IsLive Stuck = ⊥
IsLive other = Unit {0}

-- the begin is the gate of a statement
abbrev pub is_gate : {Path : Type 0} → Begin Path → Bool
is_gate (At Gate) = true
is_gate _ = false

-- it stands before a gate, or does not go on
abbrev pub stretch_rests : {Path Data : Type 0} → StretchState Path Data → Bool
stretch_rests (Goes s) = is_gate s.start
stretch_rests other = true

-- the state, or else what it goes on to
abbrev pub stretch_unless : {Path Data : Type 0} → Bool → StretchState Path Data → (StretchState Path Data → StretchState Path Data) → StretchState Path Data
stretch_unless true x on = x
stretch_unless false x on = on x

-- a run ends there before its gates are counted
abbrev pub ends_run : {Path Data : Type 0} → (ℕ → Bool) → StretchState Path Data → Bool
ends_run marks (Goes s) = marks s.name
ends_run marks other = true

-- a sum that ends there
abbrev pub sum_unless : Bool → ℕ → ℕ
sum_unless true n = 0
sum_unless false n = n

module _ {Form Path Data : Type 0} (M : Semantics Form Path Data) (P : FormProgram Form) where
  -- a return: on behind the call of the newest pending statement
  abbrev pub returned : Data → List (Pending Path) → StretchState Path Data
  returned d [] = Stuck
  returned d (a ∷ rest) = Goes (record { name = a.name; start = Back a.path; data_now = d; older = rest })

  -- a block is begun at this end of a link
  abbrev pub begun_at : Spot → Data → List (Pending Path) → StretchState Path Data
  begun_at spot d older = Goes (record { name = spot.name; start = At spot.part; data_now = d; older = older })

  -- the state behind an exit of the block of this name
  abbrev pub moved : ℕ → List (Pending Path) → Exit Path Data → StretchState Path Data
  moved n older (Out to d) = begun_at (P.link_end n to) d older
  moved n older (Calls to path d) = begun_at (P.link_end n to) d (record { name = n; path = path } ∷ older)
  moved n older (Returns d) = returned d older
  moved n older (Over d) = Ended n d
  moved n older (Fails error d) = Failed error n d

  -- one stretch of the block with this form; a name without a form leaves the run stuck
  abbrev pub stretch_of : Now Path Data → Option Form → StretchState Path Data
  stretch_of s None = Stuck
  stretch_of s (Some f) = moved s.name s.older (M.does f s.start s.data_now)

  -- one stretch
  abbrev pub stretch : Now Path Data → StretchState Path Data
  stretch s = stretch_of s (P.form s.name)

  -- one stretch, where the run goes on
  abbrev pub next : StretchState Path Data → StretchState Path Data
  next (Goes s) = stretch s
  next other = other

  -- on to the next gate, within so many stretches
  abbrev pub settle : ℕ → StretchState Path Data → StretchState Path Data
  settle zero x = stretch_unless (stretch_rests x) x (λ y. Stuck)
  settle (suc n) x = stretch_unless (stretch_rests x) x (λ y. settle n (next y))

  -- so many gates are passed, or up to a mark, the end or an error
  abbrev pub drive : ℕ → (ℕ → Bool) → ℕ → StretchState Path Data → StretchState Path Data
  drive short marks zero x = x
  drive short marks (suc k) x =
      stretch_unless (ends_run marks (settle short (next x))) (settle short (next x)) (λ y. drive short marks k y)

  -- the most instructions on the way to the next gate
  abbrev pub cost_of : Begin Path → Option Form → ℕ
  cost_of s None = 0
  cost_of s (Some f) = M.most f s

  -- the most instructions of the next stretch
  abbrev pub cost : StretchState Path Data → ℕ
  cost (Goes s) = cost_of s.start (P.form s.name)
  cost other = 0

  -- the most instructions of so many stretches, up to the next gate
  abbrev pub spent : ℕ → StretchState Path Data → ℕ
  spent zero x = 0
  spent (suc n) x = sum_unless (stretch_rests x) (cost x + spent n (next x))

  -- the begin of a stretch may rely on what it needs
  abbrev pub IsGoodNow : Now Path Data → Option Form → Type 0
  IsGoodNow s None = Unit {0}
  IsGoodNow s (Some f) = M.IsGood f s.start s.data_now

  -- so of the whole state
  abbrev pub IsGoodState : StretchState Path Data → Type 0
  IsGoodState (Goes s) = IsGoodNow s (P.form s.name)
  IsGoodState other = Unit {0}
