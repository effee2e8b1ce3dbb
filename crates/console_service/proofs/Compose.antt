-- Runs one after another.
use Rattle.std.proofs.Common.{◌≡◌, ◌≢◌, ℕ, zero, suc, ◌+◌, ◌-◌, ◌<◌, ◌≤◌, List, [], ◌∷◌, ◌++◌, length, Option, Some, None, refl, sym, ap, ◌∙◌, subst, arith, zero-add, length-append}
use Rattle.std.specs.Prelude.{slice_index, slice_set, option_and_then}
use Rattle.std.proofs.Math.ListN.{length-set}
use Rattle.std.proofs.lemmas.List.{get_or-set_other}
use Rattle.console_service.specs.Run.{MachineAndConsole, quiet_step, quiet_steps}
use Rattle.console_service.specs.Cpu.{Cpu, state_of, HasAt, Keeps, Comes}
use Rattle.console_service.specs.declared.memory_map.TheConstants.{GLOBALS_WORD, MEMORY_END_WORD}
use Rattle.console_service.proofs.Ops.{Op, PushNumber, PushWord, PopWord, AddTop, CompareTop, PopR0, PopR1, StoreR0, SetR1, PushZero, WriteInteger, WriteEnd, words_of, after, Fits, op_step}

runs_from : (m n : ℕ) (o : Option (MachineAndConsole)) (t : MachineAndConsole) → option_and_then (quiet_steps m) o ≡ Some t → ((u : MachineAndConsole) → quiet_steps m u ≡ Some t → quiet_steps (m + n) u ≡ quiet_steps n t) → option_and_then (quiet_steps (m + n)) o ≡ quiet_steps n t
runs_from m n None t e next = cc
runs_from m n (Some u) t e next = next u e

runs_on : (m n : ℕ) (s t : MachineAndConsole) → quiet_steps m s ≡ Some t → quiet_steps (m + n) s ≡ quiet_steps n t
runs_on zero n s t e = rw zero-add (let same : s ≡ t = cc in ap (quiet_steps n) same)
runs_on (suc m) n s t e =
    let plus : suc m + n ≡ suc (m + n) = omega arith in
    ap (λ k. quiet_steps k s) plus ∙ runs_from m n (quiet_step s) t e (λ u f. runs_on m n u t f)

pub no_step : (c : Cpu) → Comes 0 c c
no_step c = record { count = 0; few = omega arith; run = refl }

pub one_step : (c d : Cpu) → quiet_step (state_of c) ≡ Some (state_of d) → Comes 1 c d
one_step c d e = record { count = 1; few = omega arith; run = ap (option_and_then (λ s. Some s)) e }

pub comes_on : (m n : ℕ) (c d e : Cpu) → Comes m c d → Comes n d e → Comes (m + n) c e
comes_on m n c d e x y = record { count = x.count + y.count; few = omega (arith, x.few, y.few); run = runs_on x.count y.count (state_of c) (state_of d) x.run ∙ y.run }

pub comes_within : (m n : ℕ) (c d : Cpu) → m ≤ n → Comes m c d → Comes n c d
comes_within m n c d le x = record { count = x.count; few = omega (arith, x.few); run = x.run }

pub keeps_all : (lo hi : ℕ) (c : Cpu) → Keeps lo hi c c
keeps_all lo hi c = record { frame = refl; long = refl; low = λ k h. refl; high = λ k h. refl }

pub keeps_on : (lo hi lo' hi' : ℕ) (c d e : Cpu) → lo ≤ lo' → hi' ≤ hi → Keeps lo hi c d → Keeps lo' hi' d e → Keeps lo hi c e
keeps_on lo hi lo' hi' c d e le le' x y = record {
  frame = y.frame ∙ x.frame;
  long = y.long ∙ x.long;
  low = λ k h. y.low k (omega arith) ∙ x.low k h;
  high = λ k h. y.high k (omega arith) ∙ x.high k h;
}

pub keeps_write : (lo hi s v : ℕ) (c d : Cpu) → lo ≤ s → s < hi → d.mem ≡ slice_set c.mem s v → d.r5 ≡ c.r5 → Keeps lo hi c d
keeps_write lo hi s v c d g l e f = record {
  frame = f;
  long = ap length e ∙ simp length-set;
  low = λ k h. let ne : k ≢ s = omega arith in ap (λ m. slice_index m k) e ∙ get_or-set_other c.mem s k v 0 ne;
  high = λ k h. let ne : k ≢ s = omega arith in ap (λ m. slice_index m k) e ∙ get_or-set_other c.mem s k v 0 ne;
}

pub keeps_same : (lo hi : ℕ) (c d : Cpu) → d.mem ≡ c.mem → d.r5 ≡ c.r5 → Keeps lo hi c d
keeps_same lo hi c d e f = record { frame = f; long = ap length e; low = λ k h. ap (λ m. slice_index m k) e; high = λ k h. ap (λ m. slice_index m k) e }

pub has_front : (mem : List ℕ) (p : ℕ) (a b : List ℕ) → HasAt mem p (a ++ b) → HasAt mem p a
has_front mem p [] b h = tt
has_front mem p (i ∷ a) b h = (h.0, has_front mem (p + 1) a b h.1)

pub has_back : (mem : List ℕ) (p : ℕ) (a b : List ℕ) → HasAt mem p (a ++ b) → HasAt mem (p + length a) b
has_back mem p [] b h = let e : p ≡ p + 0 = omega arith in subst (λ n. HasAt mem n b) e h
has_back mem p (i ∷ a) b h =
    let e : p + 1 + length a ≡ p + length (i ∷ a) = omega arith in
    subst (λ n. HasAt mem n b) e (has_back mem (p + 1) a b h.1)

-- the code stays where it was
pub has_still : (lo hi : ℕ) (c d : Cpu) (p : ℕ) (ws : List ℕ) → Keeps lo hi c d → p + length ws ≤ lo → HasAt c.mem p ws → HasAt d.mem p ws
has_still lo hi c d p [] k le h = tt
has_still lo hi c d p (w ∷ ws) k le h = (k.low p (omega arith) ∙ h.0, has_still lo hi c d (p + 1) ws k (omega arith) h.1)

pub op_keeps : (lo hi : ℕ) (o : Op) (c : Cpu) → Fits lo hi o c → Keeps lo hi c (after o c)
op_keeps lo hi (PushNumber n) c f = keeps_write lo hi (c.sp - 1) n c (after (PushNumber n) c) (omega (arith, f.0)) (omega (arith, f.0, f.1)) refl refl
op_keeps lo hi (PushWord g) c f = keeps_write lo hi (c.sp - 1) (slice_index c.mem g) c (after (PushWord g) c) (omega (arith, f.0)) (omega (arith, f.0, f.1)) refl refl
op_keeps lo hi (PopWord g) c f = keeps_write lo hi g (slice_index c.mem c.sp) c (after (PopWord g) c) f.0 f.1 refl refl
op_keeps lo hi AddTop c f = keeps_write lo hi (c.sp + 1) _ c (after AddTop c) (omega (arith, f.0)) f.1 refl refl
op_keeps lo hi (CompareTop n) c f = keeps_same lo hi c (after (CompareTop n) c) refl refl
op_keeps lo hi PopR0 c f = keeps_same lo hi c (after PopR0 c) refl refl
op_keeps lo hi PopR1 c f = keeps_same lo hi c (after PopR1 c) refl refl
op_keeps lo hi StoreR0 c f = keeps_write lo hi c.sp c.r0 c (after StoreR0 c) f.0 f.1 refl refl
op_keeps lo hi (SetR1 n) c f = keeps_same lo hi c (after (SetR1 n) c) refl refl
op_keeps lo hi PushZero c f = keeps_write lo hi (c.sp - 1) 0 c (after PushZero c) (omega (arith, f.0)) (omega (arith, f.0, f.1)) refl refl
op_keeps lo hi WriteInteger c f = keeps_same lo hi c (after WriteInteger c) refl refl
op_keeps lo hi WriteEnd c f = keeps_same lo hi c (after WriteEnd c) refl refl

pub op_place : (o : Op) (c : Cpu) → (after o c).pc ≡ c.pc + length (words_of o)
op_place (PushNumber n) c = refl
op_place (PushWord g) c = refl
op_place (PopWord g) c = refl
op_place AddTop c = refl
op_place (CompareTop n) c = refl
op_place PopR0 c = refl
op_place PopR1 c = refl
op_place StoreR0 c = refl
op_place (SetR1 n) c = refl
op_place PushZero c = refl
op_place WriteInteger c = refl
op_place WriteEnd c = refl

pub op_long : (o : Op) → 1 ≤ length (words_of o)
op_long (PushNumber n) = omega arith
op_long (PushWord g) = omega arith
op_long (PopWord g) = omega arith
op_long AddTop = omega arith
op_long (CompareTop n) = omega arith
op_long PopR0 = omega arith
op_long PopR1 = omega arith
op_long StoreR0 = omega arith
op_long (SetR1 n) = omega arith
op_long PushZero = omega arith
op_long WriteInteger = omega arith
op_long WriteEnd = omega arith

-- operations one after another
abbrev pub line_words : List Op → List ℕ
line_words [] = []
line_words (o ∷ os) = words_of o ++ line_words os

abbrev pub after_line : List Op → Cpu → Cpu
after_line [] c = c
after_line (o ∷ os) c = after_line os (after o c)

abbrev pub LineFits : ℕ → ℕ → List Op → Cpu → Type 0
LineFits lo hi [] c = Unit {0}
LineFits lo hi (o ∷ os) c = Fits lo hi o c × LineFits lo hi os (after o c)

-- what a line of operations does
pub line_runs : (lo hi : ℕ) (os : List Op) (c : Cpu) → GLOBALS_WORD ≤ lo → hi ≤ MEMORY_END_WORD → c.pc + length (line_words os) ≤ GLOBALS_WORD → HasAt c.mem c.pc (line_words os) → LineFits lo hi os c → Comes (length os) c (after_line os c) × Keeps lo hi c (after_line os c) × ((after_line os c).pc ≡ c.pc + length (line_words os))
line_runs lo hi [] c g t p has fit = (no_step c, keeps_all lo hi c, omega arith)
line_runs lo hi (o ∷ os) c g t p has fit =
    let lens = length-append (words_of o) (line_words os) in
    let here = has_front c.mem c.pc (words_of o) (line_words os) has in
    let back = has_back c.mem c.pc (words_of o) (line_words os) has in
    let keeps = op_keeps lo hi o c fit.0 in
    let at = op_place o c in
    let still = has_still lo hi c (after o c) (c.pc + length (words_of o)) (line_words os) keeps (omega arith) back in
    let moved = subst (λ k. HasAt (after o c).mem k (line_words os)) (sym at) still in
    let step = one_step c (after o c) (op_step lo hi o c t (omega (arith, op_long o)) here fit.0) in
    let rest = line_runs lo hi os (after o c) g t (omega arith) moved fit.1 in
    (comes_within (1 + length os) (length (o ∷ os)) c (after_line os (after o c)) (omega arith) (comes_on 1 (length os) c (after o c) (after_line os (after o c)) step rest.0), keeps_on lo hi lo hi c (after o c) (after_line os (after o c)) (omega arith) (omega arith) keeps rest.1, omega (arith, rest.2))
