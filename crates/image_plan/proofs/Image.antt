-- A memory with the words of a whole load holds the program.
use Rattle.std.proofs.Common.{◌*◌, ◌≡◌, ◌≢◌, ℕ, ◌+◌, ◌*◌, ◌<◌, ◌≤◌, Bool, true, false, List, [], ◌∷◌, length, map, Option, Some, None, refl, sym, ap, ◌∙◌, subst, arith, length-append, inl, inr, ◌⊎◌}
use Rattle.std.specs.Prelude.{slice_index, ◌==◌, if◌then◌else◌, find}
use Rattle.std.proofs.Math.ListN.{get_or-append}
use Rattle.std.proofs.lemmas.List.{get_or-set_other}
use Rattle.dice_base.specs.declared.link.LinkTo.{LinkTo}
use Rattle.console_service.specs.Cpu.{HasAt}
use Rattle.console_service.specs.declared.memory_map.TheConstants.{CODE_WORD, GLOBALS_WORD}
use Rattle.console_service.proofs.Compose.{has_front, has_back}
use Rattle.console_service.specs.declared.block.BlockCode.{BlockCode}
use Rattle.console_service.specs.Block.{Gate, Block, laid, linked, or_zero, place_in, spot_place}
use Rattle.console_service.specs.BlockOf.{block_of, link_of, first_of}
use Rattle.console_service.specs.Image.{Lies, IsEnd, HasLink}
use Rattle.pascal_semantics.specs.declared.form.Statement.{Statement}
use Rattle.pascal_semantics.specs.Charge.{charge_of, program_charge}
use Rattle.pascal_semantics.specs.Program.{Program, Target, Gate as GateOf, Finish, Row, row_of, rows_of, entry_of, program_of}
use Rattle.pascal_semantics.specs.Valid.{IsProgram, program_name}
use Rattle.statement_code.specs.Forms.{BlockForm, ProgramBlock, StatementBlock, simple}
use Rattle.statement_code.specs.Emitted.{IsNoGate, IsCodeOf, IsProgramCode, HasLinkWord}
use Rattle.image_plan.specs.Links.{blocks_of, spot_of, form_of, end_of}
use Rattle.image_plan.specs.Codes.{AreCodes, laid_to, next_place, statements_laid, first_place, finish_place, image_words, words_in}
use Rattle.image_plan.specs.Load.{place_from, extent_of, IsLoad}
use Rattle.image_plan.specs.Load as load
use Rattle.image_plan.proofs.Lists.{codes_long}
use Rattle.image_plan.proofs.Laid.{blocks_from, all_blocks, other_test, is_same, laid_long, statements_long, one_link, gate_set, no_gate_set, LeadsTo, entry_leads, entry_free, found_apart, statement_found}

-- ---- where blocks lie

record Ranged (p high : ℕ) (b : Block) : Type 0 where
  above : p ≤ b.place
  below : b.place + length b.words ≤ high

block_ranged : (p : ℕ) (ss : List Statement) (cs : List BlockCode) (m : ℕ) (b : Block) → blocks_from p ss cs m ≡ Some b → Ranged p (p + words_in cs) b
block_ranged p [] cs m b e = absurd (grind (arith, e))
block_ranged p (s ∷ ss) [] m b e = absurd (grind (arith, e))
block_ranged p (s ∷ ss) (c ∷ cs) m b e = by (s.name == m) e (λ f. block_ranged (p + length c.words.items) ss cs m b f)
  where
    by : (t : Bool) → (if t then Some (block_of p c) else blocks_from (p + length c.words.items) ss cs m) ≡ Some b → (blocks_from (p + length c.words.items) ss cs m ≡ Some b → Ranged (p + length c.words.items) (p + length c.words.items + words_in cs) b) → Ranged p (p + words_in (c ∷ cs)) b
    by true f rest = let same : block_of p c ≡ b = cc f in record { above = omega (arith, ap (λ k. k.place) same); below = omega (arith, ap (λ k. k.place) same, ap (λ k. length k.words) same) }
    by false f rest = let r = rest f in record { above = omega (arith, r.above); below = omega (arith, r.below) }

blocks_apart : (p : ℕ) (ss : List Statement) (cs : List BlockCode) (l m : ℕ) (b d : Block) (j k : ℕ) → blocks_from p ss cs l ≡ Some b → blocks_from p ss cs m ≡ Some d → j < length b.words → k < length d.words → b.place + j ≡ d.place + k → l ≡ m
blocks_apart p [] cs l m b d j k e f lj lk at = absurd (grind (arith, e))
blocks_apart p (s ∷ ss) [] l m b d j k e f lj lk at = absurd (grind (arith, e))
blocks_apart p (s ∷ ss) (c ∷ cs) l m b d j k e f lj lk at = by (s.name == l) refl e (s.name == m) refl f (λ g h. blocks_apart (p + length c.words.items) ss cs l m b d j k g h lj lk at) (block_ranged (p + length c.words.items) ss cs l b) (block_ranged (p + length c.words.items) ss cs m d)
  where
    by : (x : Bool) → (s.name == l) ≡ x → (if x then Some (block_of p c) else blocks_from (p + length c.words.items) ss cs l) ≡ Some b → (t : Bool) → (s.name == m) ≡ t → (if t then Some (block_of p c) else blocks_from (p + length c.words.items) ss cs m) ≡ Some d
        → (blocks_from (p + length c.words.items) ss cs l ≡ Some b → blocks_from (p + length c.words.items) ss cs m ≡ Some d → l ≡ m)
        → (blocks_from (p + length c.words.items) ss cs l ≡ Some b → Ranged (p + length c.words.items) (p + length c.words.items + words_in cs) b)
        → (blocks_from (p + length c.words.items) ss cs m ≡ Some d → Ranged (p + length c.words.items) (p + length c.words.items + words_in cs) d) → l ≡ m
    by true x e true t f rest rb rd = sym (is_same s.name l x) ∙ is_same s.name m t
    by true x e false t f rest rb rd = let same : block_of p c ≡ b = cc e in let r = rd f in absurd (omega (arith, r.above, lj, at, ap (λ k. k.place) same, ap (λ k. length k.words) same))
    by false x e true t f rest rb rd = let same : block_of p c ≡ d = cc f in let r = rb e in absurd (omega (arith, r.above, lk, at, ap (λ k. k.place) same, ap (λ k. length k.words) same))
    by false x e false t f rest rb rd = rest e f

block_row : (p : ℕ) (ss : List Statement) (cs : List BlockCode) (m : ℕ) (b : Block) → blocks_from p ss cs m ≡ Some b → (row : Row) × (find (λ r. r.name == m) (rows_of ss) ≡ Some row)
block_row p [] cs m b e = absurd (grind (arith, e))
block_row p (s ∷ ss) [] m b e = absurd (grind (arith, e))
block_row p (s ∷ ss) (c ∷ cs) m b e = by (s.name == m) refl e (λ g. block_row (p + length c.words.items) ss cs m b g)
  where
    first_row : Row
    first_row = record { name = s.name; form = s.form; continuation = entry_of ss }

    by : (t : Bool) → (s.name == m) ≡ t → (if t then Some (block_of p c) else blocks_from (p + length c.words.items) ss cs m) ≡ Some b → (blocks_from (p + length c.words.items) ss cs m ≡ Some b → (row : Row) × (find (λ r. r.name == m) (rows_of ss) ≡ Some row)) → (row : Row) × (find (λ r. r.name == m) (rows_of (s ∷ ss)) ≡ Some row)
    by true t g rest = (first_row, ap (λ x. if x then Some first_row else find (λ r. r.name == m) (rows_of ss)) t)
    by false t g rest = let (row, found) = rest g in (row, ap (λ x. if x then Some first_row else find (λ r. r.name == m) (rows_of ss)) t ∙ found)

block_placed : (p : ℕ) (ss : List Statement) (cs : List BlockCode) (m : ℕ) → AreCodes ss cs → extent_of (blocks_from p ss cs m) ≡ place_from p ss m
block_placed p [] [] m h = refl
block_placed p [] (c ∷ cs) m h = absurd h
block_placed p (s ∷ ss) [] m h = absurd h
block_placed p (s ∷ ss) (c ∷ cs) m h = by (s.name == m) (block_placed (p + length c.words.items) ss cs m h.1)
  where
    long : length c.words.items ≡ charge_of s.form
    long = h.0.0.long

    by : (t : Bool) → extent_of (blocks_from (p + length c.words.items) ss cs m) ≡ place_from (p + length c.words.items) ss m → extent_of (if t then Some (block_of p c) else blocks_from (p + length c.words.items) ss cs m) ≡ (if t then Some (p, charge_of s.form) else place_from (p + charge_of s.form) ss m)
    by true rest = ap (λ k. Some (p, k)) long
    by false rest = rest ∙ ap (λ k. place_from (p + k) ss m) long

-- ---- the whole

-- what leads among the statements' blocks leads among all blocks
leads_all : (program : BlockCode) (ss : List Statement) (codes : List BlockCode) (fin : ℕ) (t : Target) (target : ℕ) → ((k : ℕ) → t ≡ GateOf k → program_name ≢ k) → LeadsTo (blocks_from (first_place program) ss codes) fin t target → LeadsTo (all_blocks program ss codes) fin t target
leads_all program ss codes fin (GateOf k) target other (code, e, g) =
    let ne : k ≢ program_name = λ x. other k refl (sym x) in
    (code, ap (λ b. if b then Some (block_of CODE_WORD program) else blocks_from (first_place program) ss codes k) (other_test k program_name ne) ∙ e, g)
leads_all program ss codes fin Finish target other e = e

module _ (ss : List Statement) (program : BlockCode) (codes : List BlockCode) (valid : IsProgram ss) (is : IsCodeOf ProgramBlock program) (parts : IsProgramCode program) (are : AreCodes ss codes) where
  abbrev P : Program
  P = program_of ss

  abbrev es : ℕ → Option Block
  es = all_blocks program ss codes

  abbrev fin : ℕ
  fin = finish_place program

  program_entry : es program_name ≡ Some (block_of CODE_WORD program)
  program_entry = refl

  -- the place of an end is where the link leads
  lead_place : (t : Target) (target : ℕ) → LeadsTo es fin t target → spot_place es (spot_of t) ≡ target
  lead_place (GateOf k) target (code, e, g) = ap (λ o. place_in o Gate) e ∙ ap (λ o. target + or_zero o) g ∙ omega arith
  lead_place Finish target e = sym e

  lead_end : (t : Target) (target : ℕ) → LeadsTo es fin t target → IsEnd simple es (spot_of t)
  lead_end (GateOf k) target (code, e, g) = record { block = block_of target code; entry = e; offset = 0; part = g }
  lead_end Finish target e = record { block = block_of CODE_WORD program; entry = program_entry; offset = parts.end_offset; part = parts.end }

  only_link : (code : BlockCode) (to : LinkTo) (h : HasLinkWord code to) (other : LinkTo) → HasLink (map link_of code.links.items) other → to ≡ other
  only_link code to h other x = by (subst (λ ls. HasLink (map link_of ls) other) h.only x)
    where
      by : (h.link.to ≡ other) ⊎ ⊥ → to ≡ other
      by (inl e) = sym h.leads ∙ e
      by (inr e) = absurd e

  words_room : first_place program + words_in codes ≤ GLOBALS_WORD
  words_room = omega (arith, is.long, codes_long ss codes are, valid.fits)

  program_leads : LeadsTo es fin P.entry (next_place (first_place program) fin codes)
  program_leads = leads_all program ss codes fin (entry_of ss) (next_place (first_place program) fin codes) (λ k. entry_free program_name ss k valid.free) (entry_leads (first_place program) fin ss codes are)

  program_lies : (mem : List ℕ) → HasAt mem CODE_WORD (laid_to program (next_place (first_place program) fin codes)) → Lies simple (blocks_of P) es (λ n. false) mem program_name ProgramBlock
  program_lies mem here =
      let target = next_place (first_place program) fin codes in
      let link = parts.link in
      let q : LinkTo → ℕ = λ to. spot_place es ((blocks_of P).link_end program_name to) in
      let at : q link.link.to ≡ target = lead_place P.entry target program_leads in
      let words : laid (block_of CODE_WORD program) 160 q ≡ laid_to program target = ap (λ ws. linked ws (map link_of program.links.items) q) (no_gate_set program parts.gate) ∙ one_link program.words.items program.links.items link.link q target link.only at in
      record {
        block = block_of CODE_WORD program;
        entry = program_entry;
        is = is.block CODE_WORD;
        implements = is.implements CODE_WORD;
        below = omega (arith, is.long);
        here = subst (HasAt mem CODE_WORD) (sym words) here;
        ends = λ to h. lead_end P.entry target program_leads;
      }

  statement_lies : (mem : List ℕ) (m : ℕ) (row : Row) → (m == program_name) ≡ false → row_of P m ≡ Some row → HasAt mem (first_place program) (statements_laid (first_place program) fin codes) → Lies simple (blocks_of P) es (λ n. false) mem m (StatementBlock row.form)
  statement_lies mem m row other e here =
      let f = statement_found (first_place program) fin ss codes mem m row valid.differ are here e in
      let l = found_apart program_name ss m row valid.free e in
      let leads = leads_all program ss codes fin row.continuation f.target l.after f.leads in
      let q : LinkTo → ℕ = λ to. spot_place es ((blocks_of P).link_end m to) in
      let spot : (to : LinkTo) → (blocks_of P).link_end m to ≡ spot_of row.continuation = λ to. ap (λ b. if b then spot_of P.entry else end_of (row_of P m)) other ∙ ap end_of e in
      let link = f.parts.link in
      let at : q link.link.to ≡ f.target = ap (spot_place es) (spot link.link.to) ∙ lead_place row.continuation f.target leads in
      let some : 0 < length f.code.words.items = omega (arith, link.inside) in
      let words : laid (block_of f.place f.code) 160 q ≡ laid_to f.code f.target = ap (λ ws. linked ws (map link_of f.code.links.items) q) (gate_set f.code f.parts some) ∙ one_link f.code.words.items f.code.links.items link.link q f.target link.only at in
      record {
        block = block_of f.place f.code;
        entry = ap (λ b. if b then Some (block_of CODE_WORD program) else blocks_from (first_place program) ss codes m) other ∙ f.entry;
        is = f.is.block f.place;
        implements = f.is.implements f.place;
        below = omega (arith, f.below, words_room);
        here = subst (HasAt mem f.place) (sym words) f.here;
        ends = λ to h. subst (IsEnd simple es) (sym (spot to)) (lead_end row.continuation f.target leads);
      }

  lies : (mem : List ℕ) → HasAt mem CODE_WORD (image_words program codes) → (n : ℕ) (f : BlockForm) → (blocks_of P).form n ≡ Some f → Lies simple (blocks_of P) es (λ n. false) mem n f
  lies mem here n f has = by (n == program_name) refl has
    where
      target : ℕ
      target = next_place (first_place program) fin codes

      front : HasAt mem CODE_WORD (laid_to program target)
      front = has_front mem CODE_WORD (laid_to program target) (statements_laid (first_place program) fin codes) here

      back : HasAt mem (first_place program) (statements_laid (first_place program) fin codes)
      back = subst (λ k. HasAt mem (CODE_WORD + k) (statements_laid (first_place program) fin codes)) (laid_long program target) (has_back mem CODE_WORD (laid_to program target) (statements_laid (first_place program) fin codes) here)

      by_row : (o : Option Row) → (n == program_name) ≡ false → row_of P n ≡ o → form_of o ≡ Some f → Lies simple (blocks_of P) es (λ n. false) mem n f
      by_row None other e h = absurd (grind (arith, h))
      by_row (Some row) other e h = let same : StatementBlock row.form ≡ f = cc h in subst (Lies simple (blocks_of P) es (λ n. false) mem n) same (statement_lies mem n row other e back)

      by : (t : Bool) → (n == program_name) ≡ t → (if t then Some ProgramBlock else form_of (row_of P n)) ≡ Some f → Lies simple (blocks_of P) es (λ n. false) mem n f
      by true t h = let same : ProgramBlock ≡ f = cc h in subst (λ k. Lies simple (blocks_of P) es (λ n. false) mem k f) (sym (is_same n program_name t)) (subst (Lies simple (blocks_of P) es (λ n. false) mem program_name) same (program_lies mem front))
      by false t h = by_row (row_of P n) t refl h

  only : (n : ℕ) (b : Block) → es n ≡ Some b → (f : BlockForm) × ((blocks_of P).form n ≡ Some f)
  only n b e = by (n == program_name) refl e
    where
      by : (t : Bool) → (n == program_name) ≡ t → (if t then Some (block_of CODE_WORD program) else blocks_from (first_place program) ss codes n) ≡ Some b → (f : BlockForm) × ((blocks_of P).form n ≡ Some f)
      by true t h = (ProgramBlock, ap (λ x. if x then Some ProgramBlock else form_of (row_of P n)) t)
      by false t h = let (row, found) = block_row (first_place program) ss codes n b h in (StatementBlock row.form, ap (λ x. if x then Some ProgramBlock else form_of (row_of P n)) t ∙ ap form_of found)

  apart : (m n : ℕ) (b d : Block) (j k : ℕ) → es m ≡ Some b → es n ≡ Some d → j < length b.words → k < length d.words → b.place + j ≡ d.place + k → m ≡ n
  apart m n b d j k e f lj lk at = by (m == program_name) refl e (n == program_name) refl f
    where
      by : (s : Bool) → (m == program_name) ≡ s → (if s then Some (block_of CODE_WORD program) else blocks_from (first_place program) ss codes m) ≡ Some b → (t : Bool) → (n == program_name) ≡ t → (if t then Some (block_of CODE_WORD program) else blocks_from (first_place program) ss codes n) ≡ Some d → m ≡ n
      by true s g true t h = is_same m program_name s ∙ sym (is_same n program_name t)
      by true s g false t h = let same : block_of CODE_WORD program ≡ b = cc g in let r = block_ranged (first_place program) ss codes n d h in absurd (omega (arith, r.above, lj, at, ap (λ k. k.place) same, ap (λ k. length k.words) same))
      by false s g true t h = let same : block_of CODE_WORD program ≡ d = cc h in let r = block_ranged (first_place program) ss codes m b g in absurd (omega (arith, r.above, lk, at, ap (λ k. k.place) same, ap (λ k. length k.words) same))
      by false s g false t h = blocks_apart (first_place program) ss codes m n b d j k g h lj lk at

  all_placed : (n : ℕ) → extent_of (es n) ≡ load.place_of ss n
  all_placed n = by (n == program_name)
    where
      at : first_place program ≡ CODE_WORD + program_charge
      at = omega (arith, is.long)

      by : (t : Bool) → extent_of (if t then Some (block_of CODE_WORD program) else blocks_from (first_place program) ss codes n) ≡ (if t then Some (CODE_WORD, program_charge) else place_from (CODE_WORD + program_charge) ss n)
      by true = ap (λ k. Some (CODE_WORD, k)) is.long
      by false = block_placed (first_place program) ss codes n are ∙ ap (λ k. place_from k ss n) at

  -- a gate is the first word of its block
  gates_first : (p : ℕ) (ss : List Statement) (cs : List BlockCode) (m : ℕ) (b : Block) (k : ℕ) → AreCodes ss cs → blocks_from p ss cs m ≡ Some b → b.part_at Gate ≡ Some k → k ≡ 0
  gates_first p [] cs m b k h e g = absurd (grind (arith, e))
  gates_first p (s ∷ ss) [] m b k h e g = absurd h
  gates_first p (s ∷ ss) (c ∷ cs) m b k h e g = by (s.name == m) e (λ x. gates_first (p + length c.words.items) ss cs m b k h.1 x g)
    where
      by : (t : Bool) → (if t then Some (block_of p c) else blocks_from (p + length c.words.items) ss cs m) ≡ Some b → (blocks_from (p + length c.words.items) ss cs m ≡ Some b → k ≡ 0) → k ≡ 0
      by true x rest = let same : block_of p c ≡ b = cc x in let y : Some 0 ≡ Some k = sym h.0.1.gate ∙ ap (λ z. z.part_at Gate) same ∙ g in cc y
      by false x rest = rest x

  all_gates : (n : ℕ) (b : Block) (k : ℕ) → es n ≡ Some b → b.part_at Gate ≡ Some k → k ≡ 0
  all_gates n b k e g = by (n == program_name) e
    where
      by : (t : Bool) → (if t then Some (block_of CODE_WORD program) else blocks_from (first_place program) ss codes n) ≡ Some b → k ≡ 0
      by true x = let same : block_of CODE_WORD program ≡ b = cc x in let y : None ≡ Some k = sym parts.gate ∙ ap (λ z. z.part_at Gate) same ∙ g in absurd (grind (arith, y))
      by false x = gates_first (first_place program) ss codes n b k are x g

  -- the first word is that of the program's block
  first_word : slice_index (image_words program codes) 0 ≡ slice_index program.words.items 0
  first_word =
      let target = next_place (first_place program) fin codes in
      let link = parts.link in
      let ne : 0 ≢ link.link.offset = λ h. absurd (omega (arith, h, parts.behind)) in
      get_or-append (laid_to program target) (statements_laid (first_place program) fin codes) 0 0 (omega (arith, laid_long program target, link.inside))
      ∙ ap (λ ls. slice_index (linked program.words.items (map link_of ls) (λ to. target)) 0) link.only
      ∙ get_or-set_other program.words.items link.link.offset 0 (2 * target) 0 ne

  pub is_load : (words : List ℕ) → words ≡ image_words program codes → IsLoad ss words
  is_load words e =
      let target = next_place (first_place program) fin codes in
      record {
        long = ap length e ∙ omega (arith, length-append (laid_to program target) (statements_laid (first_place program) fin codes), laid_long program target, statements_long (first_place program) fin codes, is.long, codes_long ss codes are);
        blocks = es;
        places = all_placed;
        parts = record { program = block_of CODE_WORD program; entry = program_entry; begin = ap first_of parts.gate; gates = all_gates };
        first = subst IsNoGate (sym (ap (λ w. slice_index w 0) e ∙ first_word)) parts.first;
        image = λ mem long here. record { each = lies mem (subst (HasAt mem CODE_WORD) e here); only = only; apart = apart };
      }
