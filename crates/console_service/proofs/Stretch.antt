-- One stretch of the machine is one stretch of the state.
use Rattle.std.proofs.Common.{◌≡◌, ℕ, ◌+◌, ◌*◌, ◌<◌, ◌≤◌, Bool, List, [], ◌∷◌, length, Option, Some, None, refl, sym, ap, ◌∙◌, subst, arith}
use Rattle.std.specs.Prelude.{slice_index, slice_set}
use Rattle.std.proofs.Math.ListN.{length-set}
use Rattle.dice_base.specs.declared.link.LinkTo.{LinkTo}
use Rattle.console_service.specs.Cpu.{Cpu, HasAt}
use Rattle.console_service.specs.declared.memory_map.TheConstants.{GLOBALS_WORD, MEMORY_END_WORD}
use Rattle.console_service.specs.Block.{Gate, Spot, Link, Block, linked, set_at, laid, gate_word, spot_place}
use Rattle.console_service.specs.Semantics.{Begin, At, Exit, Out, Calls, Returns, Over, Fails, Hanging, Semantics}
use Rattle.console_service.specs.Plain.{FormProgram, Pending, Now, moved, returned, stretch, stretch_of, cost_of, IsGoodNow}
use Rattle.console_service.specs.Image.{nth, behind_call, Runs, start_at, gate_length, Gives, ToBack, IsEnd, Lies, HasImage, back_in, hanging, Waits, AllWait, Before, RepresentsStretch}

pub has_kept : (c d : Cpu) (p : ℕ) (ws : List ℕ) → ((k : ℕ) → k < GLOBALS_WORD → slice_index d.mem k ≡ slice_index c.mem k) → p + length ws ≤ GLOBALS_WORD → HasAt c.mem p ws → HasAt d.mem p ws
has_kept c d p [] same le h = tt
has_kept c d p (w ∷ ws) same le h = (same p (omega arith) ∙ h.0, has_kept c d (p + 1) ws same (omega arith) h.1)

pub length_linked : (ws : List ℕ) (ls : List Link) (q : LinkTo → ℕ) → length (linked ws ls q) ≡ length ws
length_linked ws [] q = refl
length_linked ws (l ∷ ls) q = length_linked (slice_set ws l.at (2 * q l.to)) ls q ∙ simp length-set

pub length_set_at : (o : Option ℕ) (g : ℕ) (ws : List ℕ) → length (set_at o g ws) ≡ length ws
length_set_at None g ws = refl
length_set_at (Some k) g ws = simp length-set

pub length_laid : (b : Block) (g : ℕ) (q : LinkTo → ℕ) → length (laid b g q) ≡ length b.words
length_laid b g q = length_linked (set_at (b.part_at Gate) g b.words) b.links q ∙ length_set_at (b.part_at Gate) g b.words

-- from the place to the entry
pub place_at : (es : ℕ → Option Block) (s : Spot) (b : Block) (k : ℕ) → es s.name ≡ Some b → b.part_at s.part ≡ Some k → spot_place es s ≡ b.place + k
place_at es s b k e f = rw (e, f) refl

module _ {Form Path Data : Type 0} (M : Semantics Form Path Data) where
  -- the machine comes to the end of a link
  end_before : (P : FormProgram Form) (es : ℕ → Option Block) (marks : ℕ → Bool) (mem : List ℕ) (s : Spot) (d : Data) (older : List (Pending Path)) (c : Cpu) → HasImage M P es marks mem → IsEnd M es s → c.pc ≡ spot_place es s → length c.mem ≡ MEMORY_END_WORD → M.Holds d (hanging M es older) c → AllWait M P es older
      → Before M P es (record { name = s.name; start = At s.part; data_now = d; older = older }) c
  end_before P es marks mem s d older c image e at long holds waits =
      let f = image.only s.name e.block e.entry in
      record { form = f.0; has = f.1; fits = tt; block = e.block; entry = e.entry; offset = e.offset; start = e.part; place = at ∙ place_at es s e.block e.offset e.entry e.part; long = long; holds = holds; waits = waits }

  back_at : (es : ℕ → Option Block) (n : ℕ) (f : Path) (b : Block) (k : ℕ) → es n ≡ Some b → nth b.calls (M.number f) ≡ Some k → back_in M (es n) f ≡ b.place + (k + 2)
  back_at es n f b k e g = rw (e, g) refl

  back_stands : (n : ℕ) (P : FormProgram Form) (es : ℕ → Option Block) (d : Data) (older : List (Pending Path)) (c : Cpu) → length c.mem ≡ MEMORY_END_WORD → AllWait M P es older → ToBack M n (hanging M es older) c d
      → (e : Cpu) × Runs n c e × RepresentsStretch M P es (returned M P d older) e
  back_stands n P es d [] c long waits g = absurd g
  back_stands n P es d (a ∷ rest) c long waits (e, runs, at, holds) =
      let w = waits.0 in
      (e, runs, record { form = w.form; has = w.has; fits = w.fits; block = w.block; entry = w.entry; offset = w.offset + 2; start = ap behind_call w.call; place = at ∙ back_at es a.name a.path w.block w.offset w.entry w.call; long = runs.long ∙ long; holds = holds; waits = waits.1 })

  exit_stands : (most_now : ℕ) (P : FormProgram Form) (es : ℕ → Option Block) (marks : ℕ → Bool) (mem : List ℕ) (n : ℕ) (f : Form) (older : List (Pending Path)) (c : Cpu) (x : Exit Path Data)
      → HasImage M P es marks mem → P.form n ≡ Some f → (l : Lies M P es marks mem n f) → length c.mem ≡ MEMORY_END_WORD → AllWait M P es older
      → Gives M most_now f l.block l.block.place (λ to. spot_place es (P.link_end n to)) (hanging M es older) c x
      → (e : Cpu) × Runs most_now c e × RepresentsStretch M P es (moved M P n older x) e
  exit_stands most_now P es marks mem n f older c (Out to d) image has l long waits (e, runs, link, at, holds) =
      (e, runs, end_before P es marks mem (P.link_end n to) d older e image (l.ends to link) at (runs.long ∙ long) holds waits)
  exit_stands most_now P es marks mem n f older c (Calls to g d) image has l long waits (e, runs, link, at, k, call, fits, holds) =
      let w : Waits M P es (record { name = n; path = g }) = record { form = f; has = has; fits = fits; block = l.block; entry = l.entry; offset = k; call = call } in
      let back = back_at es n g l.block k l.entry call in
      (e, runs, end_before P es marks mem (P.link_end n to) d (record { name = n; path = g } ∷ older) e image (l.ends to link) at (runs.long ∙ long) (subst (λ r. M.Holds d (record { path = g; back = r } ∷ hanging M es older) e) (sym back) holds) (w, waits))
  exit_stands most_now P es marks mem n f older c (Returns d) image has l long waits g = back_stands most_now P es d older c long waits g
  exit_stands most_now P es marks mem n f older c (Over d) image has l long waits (e, runs, halts, inside, shows) =
      (e, runs, record { halts = halts; block = l.block; entry = l.entry; inside = inside; shows = shows })
  exit_stands most_now P es marks mem n f older c (Fails error d) image has l long waits (e, runs, halts, inside, shows) =
      (e, runs, record { halts = halts; block = l.block; entry = l.entry; inside = inside; shows = shows })

  abbrev pub begun : Begin Path → Cpu → Cpu
  begun s c = record c { pc = c.pc + gate_length M s }

  module _ (holds_on : (d : Data) (hs : List (Hanging Path)) (c : Cpu) (q : ℕ) → M.Holds d hs c → M.Holds d hs (record c { pc = q })) where
    lies_runs : (P : FormProgram Form) (es : ℕ → Option Block) (marks : ℕ → Bool) (s : Now Path Data) (c : Cpu) → HasImage M P es marks c.mem → (b : Before M P es s c) → M.IsGood b.form s.start s.data_now → (e : Cpu) × Runs (M.most b.form s.start) (begun s.start c) e × RepresentsStretch M P es (moved M P s.name s.older (M.does b.form s.start s.data_now)) e
    lies_runs P es marks s c image b good =
        let l = image.each s.name b.form b.has in
        let same : b.block ≡ l.block = cc (b.entry, l.entry) in
        let start = subst (λ k. start_at M k s.start ≡ Some b.offset) same b.start in
        let at : c.pc + gate_length M s.start ≡ l.block.place + (b.offset + gate_length M s.start) = omega (arith, b.place, ap (λ k. k.place) same) in
        exit_stands (M.most b.form s.start) P es marks c.mem s.name b.form s.older (begun s.start c) (M.does b.form s.start s.data_now) image b.has l b.long b.waits
        (l.implements s.start b.offset l.block.place (gate_word (marks s.name)) (λ to. spot_place es (P.link_end s.name to)) s.data_now (hanging M es s.older) (begun s.start c) b.fits good start l.here l.below b.long (holds_on s.data_now _ c _ b.holds) at)

    pub stretch_runs : (P : FormProgram Form) (es : ℕ → Option Block) (marks : ℕ → Bool) (s : Now Path Data) (c : Cpu) → HasImage M P es marks c.mem → Before M P es s c → IsGoodNow M P s (P.form s.name) → (e : Cpu) × Runs (cost_of M P s.start (P.form s.name)) (begun s.start c) e × RepresentsStretch M P es (stretch M P s) e
    stretch_runs P es marks s c image b good =
        subst (λ o. (e : Cpu) × Runs (cost_of M P s.start o) (begun s.start c) e × RepresentsStretch M P es (stretch_of M P s o) e) (sym b.has) (lies_runs P es marks s c image b (subst (IsGoodNow M P s) b.has good))

    -- the memory that runs leave still holds the program
    pub image_still : (P : FormProgram Form) (es : ℕ → Option Block) (marks : ℕ → Bool) (n : ℕ) (c d : Cpu) → Runs n c d → HasImage M P es marks c.mem → HasImage M P es marks d.mem
    image_still P es marks n c d r image = record {
      each = λ m f has. let l = image.each m f has in record { block = l.block; entry = l.entry; is = l.is; implements = l.implements; below = l.below; here = has_kept c d l.block.place _ r.kept (omega (arith, l.below, length_laid l.block (gate_word (marks m)) (λ to. spot_place es (P.link_end m to)))) l.here; ends = l.ends };
      only = image.only;
      apart = image.apart;
    }
