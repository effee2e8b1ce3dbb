-- The program's block makes the program's frame, and its end part ends the program.
use Rattle.std.proofs.Common.{◌≡◌, ◌≢◌, ℕ, ◌+◌, ◌-◌, ◌*◌, ◌<◌, ◌≤◌, true, false, List, [], ◌∷◌, ◌++◌, length, map, replicate, Some, None, refl, sym, ap, ◌∙◌, subst, arith, inl, inr, ◌⊎◌}
use Rattle.std.specs.Prelude.{slice_index, slice_set}
use Rattle.std.proofs.lemmas.Bool.{cases_eq}
use Rattle.std.proofs.Math.ListN.{length-set}
use Rattle.std.proofs.Math.Seq.{get_or-append_right}
use Rattle.std.proofs.lemmas.List.{get_or-set_same, get_or-set_other}
use Rattle.pdp11_machine.specs.Words.{flags_of}
use Rattle.dice_base.specs.declared.link.LinkTo.{LinkTo}
use Rattle.dice_base.specs.declared.link.LinkTo.TheVariants.{Child}
use Rattle.dice_base.specs.declared.link.LinkWord.{LinkWord}
use Rattle.console_service.specs.Cpu.{Cpu, HasAt, Keeps, Comes}
use Rattle.console_service.specs.declared.memory_map.TheConstants.{GLOBALS_WORD, STACK_WORD, MEMORY_END_WORD}
use Rattle.console_service.proofs.Ops.{Op, PushNumber, PushZero, after}
use Rattle.console_service.proofs.Compose.{one_step, comes_on, comes_within, no_step, has_front, has_back, has_still, line_runs, line_words, after_line, LineFits}
use Rattle.console_service.proofs.Jumps.{end_stops, end_no_gate, frame_step}
use Rattle.console_service.specs.declared.block.BlockCode.{BlockCode}
use Rattle.console_service.specs.Block.{First, Gate, Step, End, Leave, Block}
use Rattle.console_service.specs.BlockOf.{block_of, link_of, first_of}
use Rattle.console_service.specs.Semantics.{At, Back, Out, Over, Hanging}
use Rattle.console_service.specs.Image.{AreLinks, Gives as Exits, Implements, HasLink}
use Rattle.statement_code.specs.Code.{frame_words, program_words, program_block, filler}
use Rattle.statement_code.specs.ExpressionCode.{HasGlobals}
use Rattle.statement_code.specs.Forms.{ProgramBlock, NoCall, Store, HasFrame, FrameHolds, Holds, most, simple}
use Rattle.statement_code.specs.Emitted.{IsMade, IsProgramCode, IsCodeOf}
use Rattle.statement_code.proofs.Effects.{jump_end}
use Rattle.statement_code.proofs.Blocks.{lay, made_lay, no_some, same_some, zeros_index}
use Rattle.console_service.proofs.Stretch.{has_kept}

-- the three lines of the frame: before R5 is set, and behind that
abbrev first_line : List Op
first_line = PushZero ∷ (PushZero ∷ [])

abbrev second_line : List Op
second_line = PushZero ∷ (PushNumber 45 ∷ [])

abbrev zeros_line : List Op
zeros_line = PushZero ∷ (PushZero ∷ (PushZero ∷ (PushZero ∷ (PushZero ∷ (PushZero ∷ (PushZero ∷ (PushZero ∷ (PushZero ∷ []))))))))

abbrev Differ : ℕ → ℕ → Type 0
Differ a b = a ≡ b → ⊥

apart : (n : ℕ) → Differ (n + 1) n
apart n = omega arith

-- one more zero below others
zero_more : (m : List ℕ) (j top : ℕ) → j < length m → ((k : ℕ) → j + 1 ≤ k → k < top → slice_index m k ≡ 0) → (k : ℕ) → j ≤ k → k < top → slice_index (slice_set m j 0) k ≡ 0
zero_more m j top lt above k lo hi = by (cases_eq k j)
  where
    by : (k ≡ j) ⊎ (k ≢ j) → slice_index (slice_set m j 0) k ≡ 0
    by (inl same) = rw same (get_or-set_same m j 0 0 lt)
    by (inr other) = get_or-set_other m j k 0 0 other ∙ above k (omega (arith, other, lo)) hi

-- words below the stack stay
has_low : (c d : Cpu) (p : ℕ) (ws : List ℕ) → ((k : ℕ) → k < STACK_WORD → slice_index d.mem k ≡ slice_index c.mem k) → p + length ws ≤ GLOBALS_WORD → HasAt c.mem p ws → HasAt d.mem p ws
has_low c d p ws same le h = has_kept c d p ws (λ k lt. same k (omega arith)) le h

-- what a line comes to
record Lined (n lo hi : ℕ) (os : List Op) (c : Cpu) : Type 0 where
  comes : Comes n c (after_line os c)
  keeps : Keeps lo hi c (after_line os c)
  place : (after_line os c).pc ≡ c.pc + length (line_words os)

lined : (lo hi : ℕ) (os : List Op) (c : Cpu) → GLOBALS_WORD ≤ lo → hi ≤ MEMORY_END_WORD → c.pc + length (line_words os) ≤ GLOBALS_WORD → HasAt c.mem c.pc (line_words os) → LineFits lo hi os c → Lined (length os) lo hi os c
lined lo hi os c g t p has fit = let l = line_runs lo hi os c g t p has fit in record { comes = l.0; keeps = l.1; place = l.2 }

-- the nine zeros below the sum of charges
abbrev zeros_words : List ℕ
zeros_words = line_words zeros_line

record Zeroed (c d : Cpu) : Type 0 where
  lines : Comes 9 c d
  keeps : Keeps STACK_WORD 28668 c d
  console : d.console ≡ c.console
  place : d.pc ≡ c.pc + 9
  stack : d.sp ≡ 28659
  zeros : (k : ℕ) → 28659 ≤ k → k < 28668 → slice_index d.mem k ≡ 0

-- one zero is pushed onto others
record ZeroFrom (j : ℕ) (c d : Cpu) : Type 0 where
  place : d.pc + j ≡ c.pc + 28668
  stack : d.sp ≡ j
  long : length d.mem ≡ MEMORY_END_WORD
  zeros : (k : ℕ) → j ≤ k → k < 28668 → slice_index d.mem k ≡ 0

zero_on : (j : ℕ) (c d : Cpu) → j < 28668 → ZeroFrom (j + 1) c d → ZeroFrom j c (after PushZero d)
zero_on j c d lt z =
    let at : d.sp - 1 ≡ j = omega (arith, z.stack) in
    record {
      place = omega (arith, z.place);
      stack = at;
      long = simp length-set z.long;
      zeros = λ k lo hi. ap (λ i. slice_index (slice_set d.mem i 0) k) at ∙ zero_more d.mem j 28668 (omega (arith, z.long, lt)) z.zeros k lo hi;
    }

zeros_made : (c : Cpu) → c.sp ≡ 28668 → length c.mem ≡ MEMORY_END_WORD → c.pc + 9 ≤ GLOBALS_WORD → HasAt c.mem c.pc zeros_words → (d : Cpu) × Zeroed c d
zeros_made c sp long fits has =
    let l = lined STACK_WORD 28668 zeros_line c (omega arith) (omega arith) (omega (arith, fits)) has ((omega (arith, sp), omega (arith, sp)), ((omega (arith, sp), omega (arith, sp)), ((omega (arith, sp), omega (arith, sp)), ((omega (arith, sp), omega (arith, sp)), ((omega (arith, sp), omega (arith, sp)), ((omega (arith, sp), omega (arith, sp)), ((omega (arith, sp), omega (arith, sp)), ((omega (arith, sp), omega (arith, sp)), ((omega (arith, sp), omega (arith, sp)), tt))))))))) in
    let z0 : ZeroFrom 28668 c c = record { place = omega arith; stack = sp; long = long; zeros = λ k lo hi. absurd (omega (arith, lo, hi)) } in
    let z = zero_on 28659 c _ (omega arith) (zero_on 28660 c _ (omega arith) (zero_on 28661 c _ (omega arith) (zero_on 28662 c _ (omega arith) (zero_on 28663 c _ (omega arith) (zero_on 28664 c _ (omega arith) (zero_on 28665 c _ (omega arith) (zero_on 28666 c _ (omega arith) (zero_on 28667 c c (omega arith) z0)))))))) in
    (after_line zeros_line c, record { lines = l.comes; keeps = l.keeps; console = refl; place = l.place; stack = z.stack; zeros = z.zeros })

-- the static link and the sum of charges, from where R5 is set
abbrev middle_words : List ℕ
middle_words = 4485 ∷ (2598 ∷ (5606 ∷ (45 ∷ [])))

record Linked (c d : Cpu) : Type 0 where
  lines : Comes 3 c d
  frame : d.r5 ≡ 57340
  low : (k : ℕ) → k < STACK_WORD → slice_index d.mem k ≡ slice_index c.mem k
  high : (k : ℕ) → 28670 ≤ k → slice_index d.mem k ≡ slice_index c.mem k
  long : length d.mem ≡ length c.mem
  console : d.console ≡ c.console
  place : d.pc ≡ c.pc + 4
  stack : d.sp ≡ 28668
  static_link : slice_index d.mem 28669 ≡ 0
  charges : slice_index d.mem 28668 ≡ 45

middle_made : (c : Cpu) → c.sp ≡ 28670 → length c.mem ≡ MEMORY_END_WORD → c.pc + 4 ≤ GLOBALS_WORD → HasAt c.mem c.pc middle_words → (d : Cpu) × Linked c d
middle_made c sp long fits has =
    let b : Cpu = record c { r5 = 2 * c.sp; pc = c.pc + 1; flags = flags_of (2 * c.sp) false c.flags.carry } in
    let s = one_step c b (frame_step c (omega (arith, fits)) has.0) in
    let l = lined STACK_WORD 28670 second_line b (omega arith) (omega arith) (omega (arith, fits)) has.1 ((omega (arith, sp), omega (arith, sp)), ((omega (arith, sp), omega (arith, sp)), tt)) in
    let one : c.sp - 1 ≡ 28669 = omega (arith, sp) in
    let two : c.sp - 1 - 1 ≡ 28668 = omega (arith, sp) in
    let m1 = slice_set c.mem 28669 0 in
    let long1 : length m1 ≡ MEMORY_END_WORD = simp length-set long in
    let written : slice_set (slice_set c.mem (c.sp - 1) 0) (c.sp - 1 - 1) 45 ≡ slice_set m1 28668 45 = ap (λ i. slice_set (slice_set c.mem i 0) (c.sp - 1 - 1) 45) one ∙ ap (λ i. slice_set m1 i 45) two in
    let ne : Differ 28669 28668 = apart 28668 in (
      after_line second_line b,
      record {
        lines = comes_on 1 2 c b (after_line second_line b) s l.comes;
        frame = omega (arith, sp);
        low = λ k lt. l.keeps.low k lt;
        high = λ k le. l.keeps.high k le;
        long = l.keeps.long;
        console = refl;
        place = omega arith;
        stack = two;
        static_link = ap (λ m. slice_index m 28669) written ∙ get_or-set_other m1 28668 28669 45 0 ne ∙ get_or-set_same c.mem 28669 0 0 (omega (arith, long));
        charges = ap (λ m. slice_index m 28668) written ∙ get_or-set_same m1 28668 45 0 (omega (arith, long1));
      },
    )

-- the frame is made, and the machine stands behind it
record Framed (c d : Cpu) : Type 0 where
  lines : Comes 14 c d
  kept : (k : ℕ) → k < STACK_WORD → slice_index d.mem k ≡ slice_index c.mem k
  long : length d.mem ≡ length c.mem
  console : d.console ≡ c.console
  place : d.pc ≡ c.pc + 15
  frame : HasFrame d

frame_made : (c : Cpu) → c.sp ≡ 28672 → length c.mem ≡ MEMORY_END_WORD → c.pc + 15 ≤ GLOBALS_WORD → HasAt c.mem c.pc frame_words → (d : Cpu) × Framed c d
frame_made c sp long fits has =
    let ca = after_line first_line c in
    let la = lined STACK_WORD 28672 first_line c (omega arith) (omega arith) (omega (arith, fits)) (has.0, (has.1.0, tt)) ((omega (arith, sp), omega (arith, sp)), ((omega (arith, sp), omega (arith, sp)), tt)) in
    let hb = has_still STACK_WORD 28672 c ca (c.pc + 1 + 1) (middle_words ++ zeros_words) la.keeps (omega (arith, fits)) has.1.1 in
    let long_a : length ca.mem ≡ MEMORY_END_WORD = la.keeps.long ∙ long in
    let (cb, lb) = middle_made ca (omega (arith, sp)) long_a (omega (arith, fits)) (has_front ca.mem ca.pc middle_words zeros_words hb) in
    let hz = has_low ca cb (ca.pc + 4) zeros_words lb.low (omega (arith, fits)) (has_back ca.mem ca.pc middle_words zeros_words hb) in
    let (cd, ld) = zeros_made cb lb.stack (lb.long ∙ long_a) (omega (arith, fits, lb.place)) (subst (λ k. HasAt cb.mem k zeros_words) (sym lb.place) hz) in
    let one : c.sp - 1 ≡ 28671 = omega (arith, sp) in
    let two : c.sp - 1 - 1 ≡ 28670 = omega (arith, sp) in
    let m1 = slice_set c.mem 28671 0 in
    let long1 : length m1 ≡ MEMORY_END_WORD = simp length-set long in
    let written : slice_set (slice_set c.mem (c.sp - 1) 0) (c.sp - 1 - 1) 0 ≡ slice_set m1 28670 0 = ap (λ i. slice_set (slice_set c.mem i 0) (c.sp - 1 - 1) 0) one ∙ ap (λ i. slice_set m1 i 0) two in
    let ne : Differ 28671 28670 = apart 28670 in (
      cd,
      record {
        lines = comes_within (2 + 3 + 9) 14 c cd (omega arith) (comes_on (2 + 3) 9 c cb cd (comes_on 2 3 c ca cb la.comes lb.lines) ld.lines);
        kept = λ k lt. ld.keeps.low k lt ∙ lb.low k lt ∙ la.keeps.low k lt;
        long = ld.keeps.long ∙ lb.long ∙ la.keeps.long;
        console = ld.console ∙ lb.console;
        place = omega (arith, ld.place, lb.place);
        frame = record {
          frame = ld.keeps.frame ∙ lb.frame;
          stack = ld.stack;
          back = ld.keeps.high 28671 (omega arith) ∙ lb.high 28671 (omega arith) ∙ ap (λ m. slice_index m 28671) written ∙ get_or-set_other m1 28670 28671 0 0 ne ∙ get_or-set_same c.mem 28671 0 0 (omega (arith, long));
          caller = ld.keeps.high 28670 (omega arith) ∙ lb.high 28670 (omega arith) ∙ ap (λ m. slice_index m 28670) written ∙ get_or-set_same m1 28670 0 0 (omega (arith, long1));
          static_link = ld.keeps.high 28669 (omega arith) ∙ lb.static_link;
          charges = ld.keeps.high 28668 (omega arith) ∙ lb.charges;
          zeros = ld.zeros;
        };
      },
    )

-- ---- the block

abbrev program_links : List LinkWord
program_links = record { offset = 16; to = Child 0 } ∷ []

globals_kept : (globals : List ℕ) (c d : Cpu) → ((k : ℕ) → k < STACK_WORD → slice_index d.mem k ≡ slice_index c.mem k) → HasGlobals globals c → HasGlobals globals d
globals_kept globals c d same h = record { count = h.count; small = h.small; each = λ k lt. same (GLOBALS_WORD + k) (omega arith) ∙ h.each k lt }

laid_program : (g : ℕ) (q : LinkTo → ℕ) → lay g q None program_block program_links ≡ program_words (2 * q (Child 0)) ++ filler 32 (program_words 0)
laid_program g q = refl

begin_runs : (b : Block) (d : Store) (hs : List (Hanging NoCall)) (p : ℕ) (q : LinkTo → ℕ) (c : Cpu) → b.links ≡ record { at = 16; to = Child 0 } ∷ [] → d.started ≡ false → HasAt c.mem p (program_words (2 * q (Child 0))) → p + 32 ≤ GLOBALS_WORD → length c.mem ≡ MEMORY_END_WORD → Holds d hs c → c.pc ≡ p
    → Exits simple (most ProgramBlock (At First)) ProgramBlock b p q hs c (Out (Child 0) (record d { started = true }))
begin_runs b d hs p q c link fresh has below long holds at =
    let here : HasAt c.mem c.pc (program_words (2 * q (Child 0))) = subst (λ k. HasAt c.mem k (program_words (2 * q (Child 0)))) (sym at) has in
    let tail = 95 ∷ ((2 * q (Child 0)) ∷ (34816 ∷ [])) in
    let sp : c.sp ≡ 28672 = subst (λ s. FrameHolds s c) fresh holds.frame in
    let (e, f) = frame_made c sp long (omega (arith, below, at)) (has_front c.mem c.pc frame_words tail here) in
    let ht = has_low c e (c.pc + 15) tail f.kept (omega (arith, below, at)) (has_back c.mem c.pc frame_words tail here) in
    let hj : HasAt e.mem e.pc (95 ∷ ((2 * q (Child 0)) ∷ [])) = subst (λ k. HasAt e.mem k (95 ∷ ((2 * q (Child 0)) ∷ []))) (sym f.place) (ht.0, (ht.1.0, tt)) in
    let z = record e { pc = q (Child 0) } in (
      z,
      record { comes = comes_within 15 (16384 * 32) c z (omega arith) (comes_on 14 1 c e z f.lines (jump_end e (q (Child 0)) (omega (arith, below, at, f.place)) hj)); kept = λ k lt. f.kept k (omega arith); long = f.long },
      subst (λ ls. HasLink ls (Child 0)) (sym link) (inl refl),
      refl,
      record { globals_are = record { count = holds.globals_are.count; small = holds.globals_are.small; each = λ k lt. f.kept (GLOBALS_WORD + k) (omega arith) ∙ holds.globals_are.each k lt }; frame = record { frame = f.frame.frame; stack = f.frame.stack; back = f.frame.back; caller = f.frame.caller; static_link = f.frame.static_link; charges = f.frame.charges; zeros = f.frame.zeros }; console = ap (λ k. k.output) f.console ∙ holds.console },
    )

end_runs : (b : Block) (d : Store) (hs : List (Hanging NoCall)) (p : ℕ) (q : LinkTo → ℕ) (c : Cpu) → length b.words ≡ 32 → HasAt c.mem p (program_words (2 * q (Child 0))) → p + 32 ≤ GLOBALS_WORD → Holds d hs c → c.pc ≡ p + 17
    → Exits simple (most ProgramBlock (At End)) ProgramBlock b p q hs c (Over d)
end_runs b d hs p q c words has below holds at =
    let low : c.pc < 28672 = omega (arith, at, below) in
    let there = has_back c.mem p (frame_words ++ (95 ∷ ((2 * q (Child 0)) ∷ []))) (34816 ∷ []) has in
    let here : slice_index c.mem c.pc ≡ 34816 = ap (slice_index c.mem) at ∙ there.0 in (
      c,
      record { comes = comes_within 0 (16384 * 32) c c (omega arith) (no_step c); kept = λ k lt. refl; long = refl },
      record { below = omega (arith, at, below); here = here; stops = end_stops c low here; no_gate = end_no_gate c low here },
      (omega (arith, at), omega (arith, at, words)),
      record { globals_are = holds.globals_are; console = holds.console },
    )

pub program_implements : (code : BlockCode) → IsMade code program_block program_links None (Some 17) → (place : ℕ) → Implements simple ProgramBlock (block_of place code)
program_implements code m place (At First) k p g q d hs c fits good start here below long holds at =
    let zero_at : 0 ≡ k = same_some 0 k (first_of code.gate) (ap first_of m.gate_is) start in
    let words : length code.words.items ≡ 32 = ap length m.words_are in
    let there = has_front c.mem p (program_words (2 * q (Child 0))) (filler 32 (program_words 0)) (subst (HasAt c.mem p) (made_lay code program_block program_links None (Some 17) place g q m ∙ laid_program g q) here) in
    begin_runs (block_of place code) d hs p q c (ap (map link_of) m.links_are) good there (omega (arith, below, words)) long holds (omega (arith, at, zero_at))
program_implements code m place (At End) k p g q d hs c fits good start here below long holds at =
    let end_at : 17 ≡ k = same_some 17 k code.end m.end_is start in
    let words : length code.words.items ≡ 32 = ap length m.words_are in
    let there = has_front c.mem p (program_words (2 * q (Child 0))) (filler 32 (program_words 0)) (subst (HasAt c.mem p) (made_lay code program_block program_links None (Some 17) place g q m ∙ laid_program g q) here) in
    end_runs (block_of place code) d hs p q c words there (omega (arith, below, words)) holds (omega (arith, at, end_at))
program_implements code m place (At Gate) k p g q d hs c fits good start here below long holds at = absurd (no_some k code.gate m.gate_is start)
program_implements code m place (At Step) k p g q d hs c fits good start here below long holds at = absurd (no_some k code.step m.step_is start)
program_implements code m place (At Leave) k p g q d hs c fits good start here below long holds at = absurd (no_some k code.leave m.leave_is start)
program_implements code m place (Back path) k p g q d hs c fits good start here below long holds at = absurd path

pub program_code_is : (code : BlockCode) → IsMade code program_block program_links None (Some 17) → IsCodeOf ProgramBlock code
program_code_is code m = record {
  long = ap length m.words_are;
  block = λ place. record {
    links = subst (λ ls. AreLinks (length code.words.items) (map link_of ls)) (sym m.links_are) (omega (arith, ap length m.words_are), tt, tt);
    gate_in = λ k e. absurd (no_some k code.gate m.gate_is e);
    gate_free = λ k e. absurd (no_some k code.gate m.gate_is e);
  };
  implements = λ place. program_implements code m place;
}

program_fills : (k : ℕ) → 17 < k → slice_index program_block k ≡ 0
program_fills k lt = get_or-append_right (program_words 0) (replicate 14 0) k 0 (omega (arith, lt)) ∙ zeros_index 14 (k - 18)

pub program_parts : (code : BlockCode) → IsMade code program_block program_links None (Some 17) → IsProgramCode code
program_parts code m = record {
  first = let e : slice_index code.words.items 0 ≡ 2598 = ap (λ w. slice_index w 0) m.words_are in record { no_nop = λ h. omega (arith, e, h); no_bpt = λ h. omega (arith, e, h) };
  gate = m.gate_is;
  step = m.step_is;
  leave = m.leave_is;
  calls = m.calls_are;
  link = record { link = record { offset = 16; to = Child 0 }; only = m.links_are; leads = refl; inside = omega (arith, ap length m.words_are); zero = ap (λ w. slice_index w 16) m.words_are };
  behind = omega arith;
  end_offset = 17;
  end = m.end_is;
  inside = omega (arith, ap length m.words_are);
  filled = λ k lt. ap (λ w. slice_index w k) m.words_are ∙ program_fills k lt;
}
