-- The blocks that are emitted do what their forms do.
use Rattle.std.proofs.Common.{◌≡◌, ℕ, zero, suc, ◌+◌, ◌-◌, ◌*◌, ◌%◌, ◌<◌, ◌≤◌, Bool, true, false, List, [], ◌∷◌, ◌++◌, length, map, replicate, Option, Some, None, refl, sym, ap, ◌∙◌, subst, arith, length-append, append_assoc, inl}
use Rattle.std.specs.Prelude.{slice_index, slice_set, if◌then◌else◌}
use Rattle.std.proofs.Math.Seq.{set-append_seam, get_or-append_right}
use Rattle.std.proofs.lemmas.List.{length-replicate}
use Rattle.std.proofs.lemmas.Nat.{mod_below}
use Rattle.std.proofs.Math.Dec.{lit<}
use Rattle.dice_base.specs.declared.link.LinkTo.{LinkTo}
use Rattle.dice_base.specs.declared.link.LinkTo.TheVariants.{Next}
use Rattle.dice_base.specs.declared.link.LinkWord.{LinkWord}
use Rattle.console_service.specs.Cpu.{Cpu, HasAt}
use Rattle.console_service.specs.declared.memory_map.TheConstants.{GLOBALS_WORD, STACK_WORD, MEMORY_END_WORD}
use Rattle.console_service.proofs.Compose.{comes_on, comes_within, has_front}
use Rattle.console_service.proofs.Jumps.{trap_stops, trap_no_gate}
use Rattle.console_service.specs.declared.block.BlockCode.{BlockCode}
use Rattle.console_service.specs.Block.{First, Gate, Step, End, Leave, Block, laid, linked, set_at}
use Rattle.console_service.specs.BlockOf.{block_of, link_of, first_of}
use Rattle.console_service.specs.Semantics.{At, Back, Out, Hanging}
use Rattle.console_service.specs.Image.{AreLinks, NoLink, Gives as Exits, Implements, HasLink}
use Rattle.pascal_semantics.specs.declared.form.Operand.{Operand}
use Rattle.pascal_semantics.specs.declared.form.Operand.TheVariants.{Global, Number}
use Rattle.pascal_semantics.specs.declared.form.Sum.{Sum}
use Rattle.pascal_semantics.specs.declared.form.SimpleForm.{SimpleForm}
use Rattle.pascal_semantics.specs.declared.form.SimpleForm.TheVariants.{Assign, WriteLine, Empty}
use Rattle.pascal_semantics.specs.Charge.{charge_of, operand_charge, second_charge}
use Rattle.pascal_semantics.specs.Step.{Evaluation, Value, Error, operand_value}
use Rattle.pascal_semantics.specs.Evaluations.{sum_evaluation}
use Rattle.pascal_semantics.specs.Valid.{IsOperand, IsSecond, IsSum, IsForm}
use Rattle.statement_code.specs.Code.{operand_words, second_words, sum_words, value_words, effect_words, behind_gate, statement_words, statement_block, filler, link_offset}
use Rattle.statement_code.specs.ExpressionCode.{Evaluates, HasGlobals, Ready}
use Rattle.statement_code.specs.Forms.{StatementBlock, NoCall, Store, after_effect, exit_by, evaluation_of, FrameHolds, Holds, most, simple}
use Rattle.statement_code.specs.Emitted.{IsMade, IsStatementCode, IsCodeOf}
use Rattle.statement_code.proofs.Sums.{sum-is, is_lost}
use Rattle.statement_code.proofs.Runs.{ready_front, ready_back, globals_still, operand_small, sum_does}
use Rattle.statement_code.proofs.Effects.{HasValue, effect_done, jump_end}

-- ---- how long the words are

operand_long : (o : Operand) → length (operand_words o) ≤ 2
operand_long (Global g) = omega arith
operand_long (Number n) = omega arith

operand_some : (o : Operand) → length (operand_words o) + 2 ≤ operand_charge o
operand_some (Global g) = omega arith
operand_some (Number n) = omega arith

second_long : (o : Option Operand) → length (second_words o) ≤ second_charge o
second_long None = omega arith
second_long (Some b) = omega (arith, length-append (operand_words b) (25998 ∷ (34051 ∷ (9111 ∷ (32768 ∷ (513 ∷ (35075 ∷ [])))))), operand_some b)

sum_long : (e : Sum) → length (sum_words e) ≤ operand_charge e.first + second_charge e.second
sum_long e = omega (arith, length-append (operand_words e.first) (second_words e.second), operand_some e.first, second_long e.second)

pub behind_long : (f : SimpleForm) (link : ℕ) → length (behind_gate f link) ≡ length (value_words f) + length (effect_words f) + 2
behind_long f link = omega (arith, length-append (value_words f) (effect_words f ++ (95 ∷ (link ∷ []))), length-append (effect_words f) (95 ∷ (link ∷ [])))

-- a block's words have room in its charge
pub words_fit : (f : SimpleForm) → length (value_words f) + length (effect_words f) + 3 ≤ charge_of f
words_fit (Assign g e) = omega (arith, sum_long e)
words_fit (WriteLine e w) = omega (arith, sum_long e)
words_fit Empty = omega arith

pub block_long : (f : SimpleForm) → length (statement_block f) ≡ charge_of f
block_long f = omega (arith, length-append (statement_words f 160 0) (filler (charge_of f) (statement_words f 160 0)), length-replicate {A = ℕ} (charge_of f - length (statement_words f 160 0)) 0, behind_long f 0, words_fit f)

-- ---- the words as they are laid

-- the words before the link word
abbrev before_link : SimpleForm → ℕ → List ℕ
before_link f g = (g ∷ value_words f) ++ (effect_words f ++ (95 ∷ []))

split_words : (f : SimpleForm) (g link : ℕ) (fill : List ℕ) → statement_words f g link ++ fill ≡ before_link f g ++ (link ∷ fill)
split_words f g link fill = simp append_assoc

before_link_long : (f : SimpleForm) (g : ℕ) → link_offset f ≡ length (before_link f g)
before_link_long f g = omega (arith, length-append (g ∷ value_words f) (effect_words f ++ (95 ∷ [])), length-append (effect_words f) (95 ∷ []))

laid_words : (f : SimpleForm) (g link : ℕ) (fill : List ℕ) → slice_set (slice_set (statement_words f 160 0 ++ fill) 0 g) (link_offset f) link ≡ statement_words f g link ++ fill
laid_words f g link fill =
    let pre = before_link f g in
    ap (λ k. slice_set (statement_words f g 0 ++ fill) k link) (before_link_long f g) ∙ ap (λ w. slice_set w (length pre) link) (split_words f g 0 fill) ∙ set-append_seam pre 0 fill link ∙ sym (split_words f g link fill)

-- ---- what comes out of a sum

-- a value is a word, and an error has a trap
abbrev pub IsPlain : Evaluation → Type 0
IsPlain (Value v) = v < 65536
IsPlain (Error number) = (1 ≤ number) × (number ≤ 14)

outcome_plain : (a : Operand) (o : Option Operand) (globals : List ℕ) (c : Cpu) → IsOperand a → IsSecond o → HasGlobals globals c → IsPlain (sum_evaluation a o globals)
outcome_plain a None globals c isa iso h = operand_small a globals c isa h
outcome_plain a (Some b) globals c isa isb h = subst IsPlain (sym (sum-is (operand_value a globals) (operand_value b globals) (operand_small a globals c isa h) (operand_small b globals c isb h))) (by (is_lost (operand_value a globals) (operand_value b globals)))
  where
    by : (lost : Bool) → IsPlain (if lost then Error 3 else Value ((operand_value a globals + operand_value b globals) % 65536))
    by true = (omega arith, omega arith)
    by false = mod_below (operand_value a globals + operand_value b globals) 65536 (lit< tt)

-- ---- the frame

frame_stack : (started : Bool) (c : Cpu) → FrameHolds started c → (28659 ≤ c.sp) × (c.sp ≤ MEMORY_END_WORD)
frame_stack true c h = (omega (arith, h.stack), omega (arith, h.stack))
frame_stack false c h = (omega (arith, h), omega (arith, h))

-- what changes no word from the stack's top on keeps the frame
pub frame_still : (started : Bool) (c e : Cpu) → e.r5 ≡ c.r5 → e.sp ≡ c.sp → ((k : ℕ) → c.sp ≤ k → slice_index e.mem k ≡ slice_index c.mem k) → FrameHolds started c → FrameHolds started e
frame_still true c e r s high h = record {
  frame = r ∙ h.frame;
  stack = s ∙ h.stack;
  back = high 28671 (omega (arith, h.stack)) ∙ h.back;
  caller = high 28670 (omega (arith, h.stack)) ∙ h.caller;
  static_link = high 28669 (omega (arith, h.stack)) ∙ h.static_link;
  charges = high 28668 (omega (arith, h.stack)) ∙ h.charges;
  zeros = λ k lo hi. high k (omega (arith, h.stack, lo)) ∙ h.zeros k lo hi;
}
frame_still false c e r s high h = s ∙ h

stored_started : (f : SimpleForm) (v : ℕ) (d : Store) → (after_effect f v d).started ≡ d.started
stored_started (Assign g e) v d = refl
stored_started (WriteLine e w) v d = refl
stored_started Empty v d = refl

-- ---- the statement's block, from behind its gate

abbrev pub IsLaid : SimpleForm → Block → Type 0
IsLaid f b = (b.links ≡ record { at = link_offset f; to = Next } ∷ []) × (length b.words ≡ charge_of f)

exits : (f : SimpleForm) (d : Store) (hs : List (Hanging NoCall)) (b : Block) (p : ℕ) (q : LinkTo → ℕ) (c : Cpu) (r : Evaluation) → HasValue f → IsForm f → IsLaid f b → length d.output + 257 ≤ 65536 → IsPlain r → c.pc ≡ p + 1 → Ready (behind_gate f (2 * q Next)) d.globals 2 c → Holds d hs c → Evaluates (length (value_words f)) c r
    → Exits simple (most (StatementBlock f) (At Gate)) (StatementBlock f) b p q hs c (exit_by f d r)
exits f d hs b p q c (Error number) has is laid room plain at r holds (e, t) =
    let fits = words_fit f in
    let lens = behind_long f (2 * q Next) in
    let low : e.pc < 28672 = omega (arith, t.to, r.fits, lens) in (
      e,
      record { comes = comes_within (length (value_words f)) (16384 * charge_of f) c e (omega arith) t.comes; kept = λ k lt. t.keeps.low k (omega arith); long = t.keeps.long },
      record { below = omega (arith, t.to, r.fits, lens); here = t.trap; stops = trap_stops e number low plain.0 plain.1 t.trap; no_gate = trap_no_gate e number low t.trap },
      (omega (arith, t.from, at), omega (arith, t.to, at, laid.1, fits)),
      record { globals_are = globals_still STACK_WORD c.sp d.globals c e (omega arith) t.keeps holds.globals_are; console = ap (λ k. k.output) t.console ∙ holds.console },
    )
exits f d hs b p q c (Value v) has is laid room plain at r holds (e, u) =
    let fits = words_fit f in
    let code = value_words f in
    let tail = effect_words f ++ (95 ∷ ((2 * q Next) ∷ [])) in
    let lens = length-append code tail in
    let both = behind_long f (2 * q Next) in
    let r2 = ready_back code tail d.globals 0 2 v c e (omega arith) r u in
    let t = effect_done f v (q Next) d e has is plain room r2 (omega (arith, u.stack, r.within)) (ap (λ k. k.output) u.console ∙ holds.console) u.top in
    let up : t.0.sp ≡ c.sp = omega (arith, t.1.stack, u.stack) in (
      t.0,
      record { comes = comes_within (length code + length tail) (16384 * charge_of f) c t.0 (omega arith) (comes_on (length code) (length tail) c e t.0 u.comes t.1.comes); kept = λ k lt. t.1.keeps.low k lt ∙ u.keeps.low k (omega arith); long = t.1.keeps.long ∙ u.keeps.long },
      subst (λ ls. HasLink ls Next) (sym laid.0) (inl refl),
      t.1.place,
      record {
        globals_are = t.1.globals_are;
        frame = subst (λ s. FrameHolds s t.0) (sym (stored_started f v d)) (frame_still d.started c t.0 (t.1.keeps.frame ∙ u.keeps.frame) up (λ k le. t.1.keeps.high k (omega (arith, u.stack, le)) ∙ u.keeps.high k le) holds.frame);
        console = t.1.output;
      },
    )

behind_ready : (f : SimpleForm) (d : Store) (hs : List (Hanging NoCall)) (p g : ℕ) (q : LinkTo → ℕ) (c : Cpu) → HasAt c.mem p (statement_words f g (2 * q Next)) → p + charge_of f ≤ GLOBALS_WORD → length c.mem ≡ MEMORY_END_WORD → Holds d hs c → c.pc ≡ p + 1 → Ready (behind_gate f (2 * q Next)) d.globals 2 c
behind_ready f d hs p g q c here below long holds at =
    let stack = frame_stack d.started c holds.frame in
    record {
      here = subst (λ k. HasAt c.mem k (behind_gate f (2 * q Next))) (sym at) here.1;
      fits = omega (arith, at, below, behind_long f (2 * q Next), words_fit f);
      room_left = omega (arith, stack.0);
      within = stack.1;
      long = long;
      globals_are = holds.globals_are;
    }

-- a statement that does nothing
nothing_done : (d : Store) (hs : List (Hanging NoCall)) (b : Block) (p : ℕ) (q : LinkTo → ℕ) (c : Cpu) → IsLaid Empty b → Ready (behind_gate Empty (2 * q Next)) d.globals 2 c → Holds d hs c → Exits simple (most (StatementBlock Empty) (At Gate)) (StatementBlock Empty) b p q hs c (Out Next d)
nothing_done d hs b p q c laid r holds =
    let e : Cpu = record c { pc = q Next } in (
      e,
      record { comes = comes_within 1 (16384 * 8) c e (omega arith) (jump_end c (q Next) (omega (arith, r.fits)) r.here); kept = λ k lt. refl; long = refl },
      subst (λ ls. HasLink ls Next) (sym laid.0) (inl refl),
      refl,
      record {
        globals_are = record { count = holds.globals_are.count; small = holds.globals_are.small; each = holds.globals_are.each };
        frame = frame_still d.started c e refl refl (λ k le. refl) holds.frame;
        console = holds.console;
      },
    )

behind_runs : (f : SimpleForm) (d : Store) (hs : List (Hanging NoCall)) (b : Block) (p g : ℕ) (q : LinkTo → ℕ) (c : Cpu) → IsForm f → IsLaid f b → length d.output + 257 ≤ 65536 → HasAt c.mem p (statement_words f g (2 * q Next)) → p + charge_of f ≤ GLOBALS_WORD → length c.mem ≡ MEMORY_END_WORD → Holds d hs c → c.pc ≡ p + 1
    → Exits simple (most (StatementBlock f) (At Gate)) (StatementBlock f) b p q hs c (exit_by f d (evaluation_of f d))
behind_runs f d hs b p g q c is laid room here below long holds at = by f is laid (behind_ready f d hs p g q c here below long holds at)
  where
    with_sum : (f : SimpleForm) (e : Sum) → HasValue f → IsForm f → IsSum e → IsLaid f b → Ready (behind_gate f (2 * q Next)) d.globals 2 c → value_words f ≡ sum_words e → Exits simple (most (StatementBlock f) (At Gate)) (StatementBlock f) b p q hs c (exit_by f d (sum_evaluation e.first e.second d.globals))
    with_sum f e has is iss laid r same =
        exits f d hs b p q c (sum_evaluation e.first e.second d.globals) has is laid room (outcome_plain e.first e.second d.globals c iss.0 iss.1 holds.globals_are) at r holds
        (subst (λ ws. Evaluates (length ws) c (sum_evaluation e.first e.second d.globals)) (sym same) (sum_does e.first e.second d.globals c iss.0 iss.1 (subst (λ ws. Ready ws d.globals 2 c) same (ready_front (value_words f) _ d.globals 2 2 c (omega arith) r))))

    by : (f : SimpleForm) → IsForm f → IsLaid f b → Ready (behind_gate f (2 * q Next)) d.globals 2 c → Exits simple (most (StatementBlock f) (At Gate)) (StatementBlock f) b p q hs c (exit_by f d (evaluation_of f d))
    by (Assign g e) is laid r = with_sum (Assign g e) e tt is is.1 laid r refl
    by (WriteLine e w) is laid r = with_sum (WriteLine e w) e tt is is.0 laid r refl
    by Empty is laid r = nothing_done d hs b p q c laid r holds

-- ---- the block as it was made

abbrev pub lay : ℕ → (LinkTo → ℕ) → Option ℕ → List ℕ → List LinkWord → List ℕ
lay g q gate words links = linked (set_at gate g words) (map link_of links) q

pub made_lay : (code : BlockCode) (words : List ℕ) (links : List LinkWord) (gate end : Option ℕ) (place g : ℕ) (q : LinkTo → ℕ) → IsMade code words links gate end → laid (block_of place code) g q ≡ lay g q gate words links
made_lay code words links gate end place g q m = ap (λ w. lay g q code.gate w code.links.items) m.words_are ∙ ap (lay g q code.gate words) m.links_are ∙ ap (λ o. lay g q o words links) m.gate_is

pub same_some : (a b : ℕ) (o : Option ℕ) → o ≡ Some a → o ≡ Some b → a ≡ b
same_some a b o e f = let h : Some a ≡ Some b = sym e ∙ f in cc

pub no_some : (a : ℕ) (o : Option ℕ) → o ≡ None → o ≡ Some a → ⊥
no_some a o e f = let h : Some a ≡ None = sym f ∙ e in cc

pub statement_implements : (f : SimpleForm) (code : BlockCode) → IsForm f → IsMade code (statement_block f) (record { offset = link_offset f; to = Next } ∷ []) (Some 0) None → (place : ℕ) → Implements simple (StatementBlock f) (block_of place code)
statement_implements f code is m place (At Gate) k p g q d hs c fits good start here below long holds at =
    let zero_at : 0 ≡ k = same_some 0 k code.gate m.gate_is start in
    let words : length code.words.items ≡ charge_of f = ap length m.words_are ∙ block_long f in
    let laid_so = made_lay code (statement_block f) (record { offset = link_offset f; to = Next } ∷ []) (Some 0) None place g q m ∙ laid_words f g (2 * q Next) (filler (charge_of f) (statement_words f 160 0)) in
    let there = has_front c.mem p (statement_words f g (2 * q Next)) (filler (charge_of f) (statement_words f 160 0)) (subst (HasAt c.mem p) laid_so here) in
    behind_runs f d hs (block_of place code) p g q c is (ap (map link_of) m.links_are, words) good there (omega (arith, below, words)) long holds (omega (arith, at, zero_at))
statement_implements f code is m place (At First) k p g q d hs c fits good start here below long holds at = absurd (no_some k (first_of code.gate) (ap first_of m.gate_is) start)
statement_implements f code is m place (At Step) k p g q d hs c fits good start here below long holds at = absurd (no_some k code.step m.step_is start)
statement_implements f code is m place (At End) k p g q d hs c fits good start here below long holds at = absurd (no_some k code.end m.end_is start)
statement_implements f code is m place (At Leave) k p g q d hs c fits good start here below long holds at = absurd (no_some k code.leave m.leave_is start)
statement_implements f code is m place (Back path) k p g q d hs c fits good start here below long holds at = absurd path

pub statement_code_is : (f : SimpleForm) (code : BlockCode) → IsForm f → IsMade code (statement_block f) (record { offset = link_offset f; to = Next } ∷ []) (Some 0) None → IsCodeOf (StatementBlock f) code
statement_code_is f code is m = record {
  long = ap length m.words_are ∙ block_long f;
  block = λ place. record {
    links = subst (λ ls. AreLinks (length code.words.items) (map link_of ls)) (sym m.links_are) (omega (arith, ap length m.words_are, block_long f, words_fit f), tt, tt);
    gate_in = λ k e. omega (arith, same_some 0 k code.gate m.gate_is e, ap length m.words_are, block_long f, words_fit f);
    gate_free = λ k e. subst (λ ls. NoLink (map link_of ls) k) (sym m.links_are) ((λ h. omega (arith, h, same_some 0 k code.gate m.gate_is e)), tt);
  };
  implements = λ place. statement_implements f code is m place;
}

pub zeros_index : (n k : ℕ) → slice_index (replicate n 0) k ≡ 0
zeros_index zero k = refl
zeros_index (suc n) zero = refl
zeros_index (suc n) (suc k) = zeros_index n k

pub zero_then_index : (n k : ℕ) → slice_index (0 ∷ replicate n 0) k ≡ 0
zero_then_index n zero = refl
zero_then_index n (suc k) = zeros_index n k

-- from its link word on, a statement's block is zero
statement_fills : (f : SimpleForm) (k : ℕ) → link_offset f ≤ k → slice_index (statement_block f) k ≡ 0
statement_fills f k le =
    let count = charge_of f - length (statement_words f 160 0) in
    let at = before_link_long f 160 in
    ap (λ w. slice_index w k) (split_words f 160 0 (replicate count 0)) ∙ get_or-append_right (before_link f 160) (0 ∷ replicate count 0) k 0 (omega (arith, at, le)) ∙ zero_then_index count (k - length (before_link f 160))

pub statement_parts : (f : SimpleForm) (code : BlockCode) → IsForm f → IsMade code (statement_block f) (record { offset = link_offset f; to = Next } ∷ []) (Some 0) None → IsStatementCode code
statement_parts f code is m = record {
  gate = m.gate_is;
  nop = ap (λ w. slice_index w 0) m.words_are;
  step = m.step_is;
  end = m.end_is;
  leave = m.leave_is;
  calls = m.calls_are;
  link = record {
    link = record { offset = link_offset f; to = Next };
    only = m.links_are;
    leads = refl;
    inside = omega (arith, ap length m.words_are, block_long f, words_fit f);
    zero = ap (λ w. slice_index w (link_offset f)) m.words_are ∙ statement_fills f (link_offset f) (omega arith);
  };
  filled = λ k lt. ap (λ w. slice_index w k) m.words_are ∙ statement_fills f k (omega (arith, lt));
}
