-- Stretch after stretch, on to the next gate.
use Rattle.std.proofs.Common.{◌≡◌, ℕ, zero, suc, ◌+◌, ◌≤◌, Bool, true, false, List, Option, refl, ap, ◌∙◌, subst, arith}
use Rattle.console_service.specs.Cpu.{Cpu}
use Rattle.console_service.proofs.Compose.{comes_on, comes_within, no_step}
use Rattle.console_service.specs.Block.{Gate, Block}
use Rattle.console_service.specs.Semantics.{Begin, At, Hanging, Semantics}
use Rattle.console_service.specs.Plain.{FormProgram, Now, StretchState, Goes, Stuck, IsLive, is_gate, stretch_rests, stretch_unless, next, settle, cost_of, cost, spent, sum_unless, stretch, IsGoodState}
use Rattle.console_service.specs.Image.{Runs, passed, gate_length, HasImage, Before, RepresentsStretch}
use Rattle.console_service.proofs.Stretch.{begun, stretch_runs, image_still}

pub runs_same : (c : Cpu) → Runs 0 c c
runs_same c = record { comes = no_step c; kept = λ k h. refl; long = refl }

pub runs_then : (m n : ℕ) (c d e : Cpu) → Runs m c d → Runs n d e → Runs (m + n) c e
runs_then m n c d e x y = record { comes = comes_on m n c d e x.comes y.comes; kept = λ k h. y.kept k h ∙ x.kept k h; long = y.long ∙ x.long }

pub runs_within : (m n : ℕ) (c d : Cpu) → m ≤ n → Runs m c d → Runs n c d
runs_within m n c d le x = record { comes = comes_within m n c d le x.comes; kept = x.kept; long = x.long }

module _ {Form Path Data : Type 0} (M : Semantics Form Path Data) where
  no_gate_length : (s : Begin Path) → is_gate s ≡ false → gate_length M s ≡ 0
  no_gate_length (At Gate) e = absurd (grind (arith, e))
  no_gate_length other e = refl

  pub gate_length_one : (s : Begin Path) → is_gate s ≡ true → gate_length M s ≡ 1
  gate_length_one (At Gate) e = refl
  gate_length_one other e = absurd (grind (arith, e))

  module _ (holds_on : (d : Data) (hs : List (Hanging Path)) (c : Cpu) (q : ℕ) → M.Holds d hs c → M.Holds d hs (record c { pc = q })) where
    -- a stretch that begins behind no gate
    next_runs : (P : FormProgram Form) (es : ℕ → Option Block) (marks : ℕ → Bool) (x : StretchState Path Data) (c : Cpu) → stretch_rests x ≡ false → HasImage M P es marks c.mem → RepresentsStretch M P es x c → IsGoodState M P x → (e : Cpu) × Runs (cost M P x) c e × RepresentsStretch M P es (next M P x) e
    next_runs P es marks (Goes s) c moves image st good =
        let zero_long : c.pc + gate_length M s.start ≡ c.pc = omega (arith, no_gate_length s.start moves) in
        let same : begun M s.start c ≡ c = ap (λ k. record c { pc = k }) zero_long in
        subst (λ k. (e : Cpu) × Runs (cost_of M P s.start (P.form s.name)) k e × RepresentsStretch M P es (stretch M P s) e) same
        (stretch_runs M holds_on P es marks s c image st good)
    next_runs P es marks other c moves image st good = absurd (grind (arith, moves))

    -- on to the next gate, where each stretch on the way finds what it relies on
    pub settle_runs : (P : FormProgram Form) (es : ℕ → Option Block) (marks : ℕ → Bool) (Good : StretchState Path Data → Type 0) → ((x : StretchState Path Data) → Good x → IsGoodState M P x) → ((x : StretchState Path Data) → Good x → stretch_rests x ≡ false → Good (next M P x))
        → (n : ℕ) (x : StretchState Path Data) (c : Cpu) → HasImage M P es marks c.mem → RepresentsStretch M P es x c → Good x → IsLive (settle M P n x) → (e : Cpu) × Runs (spent M P n x) c e × RepresentsStretch M P es (settle M P n x) e
    settle_runs P es marks Good fits keeps zero x c image st good live = at_rest (stretch_rests x) live
      where
        at_rest : (r : Bool) → IsLive (stretch_unless r x (λ y. Stuck)) → (e : Cpu) × Runs 0 c e × RepresentsStretch M P es (stretch_unless r x (λ y. Stuck)) e
        at_rest true live = (c, runs_same c, st)
        at_rest false live = absurd live
    settle_runs P es marks Good fits keeps (suc n) x c image st good live = by (stretch_rests x) refl live (λ d i st good live. settle_runs P es marks Good fits keeps n (next M P x) d i st good live)
      where
        by : (r : Bool) → stretch_rests x ≡ r → IsLive (stretch_unless r x (λ y. settle M P n (next M P y))) → ((d : Cpu) → HasImage M P es marks d.mem → RepresentsStretch M P es (next M P x) d → Good (next M P x) → IsLive (settle M P n (next M P x)) → (e : Cpu) × Runs (spent M P n (next M P x)) d e × RepresentsStretch M P es (settle M P n (next M P x)) e) → (e : Cpu) × Runs (sum_unless r (cost M P x + spent M P n (next M P x))) c e × RepresentsStretch M P es (stretch_unless r x (λ y. settle M P n (next M P y))) e
        by true eq live rest = (c, runs_same c, st)
        by false eq live rest =
            let (d, run, st1) = next_runs P es marks x c eq image st (fits x good) in
            let (e, run2, st2) = rest d (image_still M holds_on P es marks (cost M P x) c d run image) st1 (keeps x good eq) live in
            (e, runs_then (cost M P x) (spent M P n (next M P x)) c d e run run2, st2)

    -- from a gate to the next
    pub gate_runs : (P : FormProgram Form) (es : ℕ → Option Block) (marks : ℕ → Bool) (Good : StretchState Path Data → Type 0) → ((x : StretchState Path Data) → Good x → IsGoodState M P x) → ((x : StretchState Path Data) → Good x → stretch_rests x ≡ false → Good (next M P x))
        → (n : ℕ) (s : Now Path Data) (c : Cpu) → is_gate s.start ≡ true → HasImage M P es marks c.mem → Before M P es s c → Good (Goes s) → Good (stretch M P s) → IsLive (settle M P n (stretch M P s)) → (e : Cpu) × Runs (cost M P (Goes s) + spent M P n (stretch M P s)) (passed c) e × RepresentsStretch M P es (settle M P n (stretch M P s)) e
    gate_runs P es marks Good fits keeps n s c gate image st good later live =
        let same : begun M s.start c ≡ passed c = ap (λ k. record c { pc = c.pc + k }) (gate_length_one s.start gate) in
        let (d, run0, st1) = stretch_runs M holds_on P es marks s c image st (fits (Goes s) good) in
        let run : Runs (cost M P (Goes s)) (passed c) d = subst (λ k. Runs (cost M P (Goes s)) k d) same run0 in
        let (e, run2, st2) = settle_runs P es marks Good fits keeps n (stretch M P s) d (image_still M holds_on P es marks (cost M P (Goes s)) (passed c) d run image) st1 later live in
        (e, runs_then (cost M P (Goes s)) (spent M P n (stretch M P s)) (passed c) d e run run2, st2)
