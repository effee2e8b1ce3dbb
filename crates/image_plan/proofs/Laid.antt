-- The blocks of a whole load hold the program.
use Rattle.std.proofs.Common.{◌≡◌, ◌≢◌, ℕ, ◌+◌, ◌*◌, ◌<◌, ◌≤◌, Bool, true, false, List, [], ◌∷◌, length, map, Option, Some, None, refl, sym, ap, ◌∙◌, subst, arith, length-append}
use Rattle.std.specs.Prelude.{slice_index, slice_set, ◌==◌, if◌then◌else◌, find}
use Rattle.std.proofs.lemmas.Bool.Decides.{nat_tests}
use Rattle.dice_base.specs.declared.link.LinkTo.{LinkTo}
use Rattle.dice_base.specs.declared.link.LinkWord.{LinkWord}
use Rattle.console_service.specs.Cpu.{HasAt}
use Rattle.console_service.specs.declared.memory_map.TheConstants.{CODE_WORD}
use Rattle.console_service.proofs.Compose.{has_front, has_back}
use Rattle.console_service.specs.declared.block.BlockCode.{BlockCode}
use Rattle.console_service.specs.Block.{Block, linked, set_at}
use Rattle.console_service.specs.BlockOf.{block_of, link_of}
use Rattle.console_service.proofs.Stretch.{length_linked}
use Rattle.pascal_semantics.specs.declared.form.Statement.{Statement}
use Rattle.pascal_semantics.specs.Program.{Target, Gate as GateOf, Finish, Row, rows_of, entry_of}
use Rattle.pascal_semantics.specs.Valid.{program_name, IsFree, AllDiffer}
use Rattle.statement_code.specs.Forms.{StatementBlock}
use Rattle.statement_code.specs.Emitted.{IsCodeOf, IsStatementCode}
use Rattle.image_plan.specs.Codes.{AreCodes, laid_to, next_place, statements_laid, first_place, words_in}

-- ---- the blocks by name

abbrev pub blocks_from : ℕ → List Statement → List BlockCode → ℕ → Option Block
blocks_from p [] cs m = None
blocks_from p (s ∷ ss) [] m = None
blocks_from p (s ∷ ss) (c ∷ cs) m = if s.name == m then Some (block_of p c) else blocks_from (p + length c.words.items) ss cs m

abbrev pub all_blocks : BlockCode → List Statement → List BlockCode → ℕ → Option Block
all_blocks program ss codes m = if m == program_name then Some (block_of CODE_WORD program) else blocks_from (first_place program) ss codes m

pub same_test : (m n : ℕ) → m ≡ n → (m == n) ≡ true
same_test m n e = grind (arith, nat_tests)

pub other_test : (m n : ℕ) → m ≢ n → (m == n) ≡ false
other_test m n e = grind (arith, nat_tests)

pub is_same : (m n : ℕ) → (m == n) ≡ true → m ≡ n
is_same m n e = grind (arith, nat_tests)

-- ---- a block whose link leads to a place

pub laid_long : (code : BlockCode) (target : ℕ) → length (laid_to code target) ≡ length code.words.items
laid_long code target = length_linked code.words.items (map link_of code.links.items) (λ to. target)

pub statements_long : (p fin : ℕ) (cs : List BlockCode) → length (statements_laid p fin cs) ≡ words_in cs
statements_long p fin [] = refl
statements_long p fin (c ∷ cs) =
    let target = next_place (p + length c.words.items) fin cs in
    omega (arith, length-append (laid_to c target) (statements_laid (p + length c.words.items) fin cs), laid_long c target, statements_long (p + length c.words.items) fin cs)

-- the one link of a block leads to the same place, whatever the others are said to be
pub one_link : (ws : List ℕ) (links : List LinkWord) (link : LinkWord) (q : LinkTo → ℕ) (target : ℕ) → links ≡ link ∷ [] → q link.to ≡ target → linked ws (map link_of links) q ≡ linked ws (map link_of links) (λ to. target)
one_link ws links link q target only e =
    ap (λ ls. linked ws (map link_of ls) q) only ∙ ap (λ t. slice_set ws link.offset (2 * t)) e ∙ sym (ap (λ ls. linked ws (map link_of ls) (λ to. target)) only)

-- NOP stands at the gate of a statement's block already
set_same : (ws : List ℕ) → 0 < length ws → slice_set ws 0 (slice_index ws 0) ≡ ws
set_same [] lt = absurd (omega (arith, lt))
set_same (w ∷ ws) lt = refl

pub gate_set : (code : BlockCode) → IsStatementCode code → 0 < length code.words.items → set_at code.gate 160 code.words.items ≡ code.words.items
gate_set code is some = ap (λ o. set_at o 160 code.words.items) is.gate ∙ ap (slice_set code.words.items 0) (sym is.nop) ∙ set_same code.words.items some

pub no_gate_set : (code : BlockCode) → code.gate ≡ None → set_at code.gate 160 code.words.items ≡ code.words.items
no_gate_set code e = ap (λ o. set_at o 160 code.words.items) e

-- ---- what is found of a name

-- a place in the program is the begin of a gate's block, or the end
abbrev pub LeadsTo : (ℕ → Option Block) → ℕ → Target → ℕ → Type 0
LeadsTo es fin (GateOf n) target = (code : BlockCode) × (es n ≡ Some (block_of target code)) × (code.gate ≡ Some 0)
LeadsTo es fin Finish target = target ≡ fin

pub record Found (es : ℕ → Option Block) (mem : List ℕ) (low high fin m : ℕ) (row : Row) : Type 0 where
  pub code : BlockCode
  pub place : ℕ
  pub entry : es m ≡ Some (block_of place code)
  pub is : IsCodeOf (StatementBlock row.form) code
  pub parts : IsStatementCode code
  pub target : ℕ
  pub here : HasAt mem place (laid_to code target)
  pub leads : LeadsTo es fin row.continuation target
  pub above : low ≤ place
  pub below : place + length code.words.items ≤ high

-- the first block of a list is where its entry leads
pub entry_leads : (p fin : ℕ) (ss : List Statement) (cs : List BlockCode) → AreCodes ss cs → LeadsTo (blocks_from p ss cs) fin (entry_of ss) (next_place p fin cs)
entry_leads p fin [] [] h = refl
entry_leads p fin [] (c ∷ cs) h = absurd h
entry_leads p fin (s ∷ ss) [] h = absurd h
entry_leads p fin (s ∷ ss) (c ∷ cs) h = (c, ap (λ b. if b then Some (block_of p c) else blocks_from (p + length c.words.items) ss cs s.name) (same_test s.name s.name refl), h.0.1.gate)

-- what leads on among the later blocks does so among all
leads_later : (p fin : ℕ) (s : Statement) (ss : List Statement) (c : BlockCode) (cs : List BlockCode) (t : Target) (target : ℕ) → ((k : ℕ) → t ≡ GateOf k → s.name ≢ k) → LeadsTo (blocks_from (p + length c.words.items) ss cs) fin t target → LeadsTo (blocks_from p (s ∷ ss) (c ∷ cs)) fin t target
leads_later p fin s ss c cs (GateOf k) target other (code, e, g) = (code, ap (λ b. if b then Some (block_of p c) else blocks_from (p + length c.words.items) ss cs k) (other_test s.name k (other k refl)) ∙ e, g)
leads_later p fin s ss c cs Finish target other e = e

-- a list's entry is none of the names that are free in it
pub entry_free : (n : ℕ) (ss : List Statement) (k : ℕ) → IsFree n ss → entry_of ss ≡ GateOf k → n ≢ k
entry_free n [] k free e = absurd (grind (arith, e))
entry_free n (s ∷ ss) k free e = let same : s.name ≡ k = cc e in λ x. free.0 (same ∙ sym x)

-- a row's name and its continuation are others than this one
pub record Apart (n m : ℕ) (row : Row) : Type 0 where
  pub name : n ≢ m
  pub after : (k : ℕ) → row.continuation ≡ GateOf k → n ≢ k

pub found_apart : (n : ℕ) (ss : List Statement) (m : ℕ) (row : Row) → IsFree n ss → find (λ r. r.name == m) (rows_of ss) ≡ Some row → Apart n m row
found_apart n [] m row free e = absurd (grind (arith, e))
found_apart n (s ∷ ss) m row free e = by (s.name == m) refl e (λ f. found_apart n ss m row free.1 f)
  where
    by : (b : Bool) → (s.name == m) ≡ b → (if b then Some (record { name = s.name; form = s.form; continuation = entry_of ss }) else find (λ r. r.name == m) (rows_of ss)) ≡ Some row → (find (λ r. r.name == m) (rows_of ss) ≡ Some row → Apart n m row) → Apart n m row
    by true t h rest =
        let same : record { name = s.name; form = s.form; continuation = entry_of ss } ≡ row = cc h in
        record { name = λ x. free.0 (is_same s.name m t ∙ sym x); after = λ k g. entry_free n ss k free.1 (ap (λ r. r.continuation) same ∙ g) }
    by false t h rest = rest h

pub statement_found : (p fin : ℕ) (ss : List Statement) (cs : List BlockCode) (mem : List ℕ) (m : ℕ) (row : Row) → AllDiffer ss → AreCodes ss cs → HasAt mem p (statements_laid p fin cs) → find (λ r. r.name == m) (rows_of ss) ≡ Some row → Found (blocks_from p ss cs) mem p (p + words_in cs) fin m row
statement_found p fin [] cs mem m row d h has e = absurd (grind (arith, e))
statement_found p fin (s ∷ ss) [] mem m row d h has e = absurd h
statement_found p fin (s ∷ ss) (c ∷ cs) mem m row d h has e = by (s.name == m) refl e (λ g. (statement_found (p + length c.words.items) fin ss cs mem m row d.1 h.1 later g, found_apart s.name ss m row d.0 g))
  where
    target : ℕ
    target = next_place (p + length c.words.items) fin cs

    here : HasAt mem p (laid_to c target)
    here = has_front mem p (laid_to c target) (statements_laid (p + length c.words.items) fin cs) has

    later : HasAt mem (p + length c.words.items) (statements_laid (p + length c.words.items) fin cs)
    later = subst (λ k. HasAt mem (p + k) (statements_laid (p + length c.words.items) fin cs)) (laid_long c target) (has_back mem p (laid_to c target) (statements_laid (p + length c.words.items) fin cs) has)

    by : (b : Bool) → (s.name == m) ≡ b → (if b then Some (record { name = s.name; form = s.form; continuation = entry_of ss }) else find (λ r. r.name == m) (rows_of ss)) ≡ Some row
        → (find (λ r. r.name == m) (rows_of ss) ≡ Some row → Found (blocks_from (p + length c.words.items) ss cs) mem (p + length c.words.items) (p + length c.words.items + words_in cs) fin m row × Apart s.name m row)
        → Found (blocks_from p (s ∷ ss) (c ∷ cs)) mem p (p + words_in (c ∷ cs)) fin m row
    by true t g rest =
        let same : record { name = s.name; form = s.form; continuation = entry_of ss } ≡ row = cc g in
        record {
          code = c;
          place = p;
          entry = ap (λ b. if b then Some (block_of p c) else blocks_from (p + length c.words.items) ss cs m) t;
          is = subst (λ r. IsCodeOf (StatementBlock r.form) c) same h.0.0;
          parts = h.0.1;
          target = target;
          here = here;
          leads = subst (λ r. LeadsTo (blocks_from p (s ∷ ss) (c ∷ cs)) fin r.continuation target) same (leads_later p fin s ss c cs (entry_of ss) target (λ k. entry_free s.name ss k d.0) (entry_leads (p + length c.words.items) fin ss cs h.1));
          above = omega arith;
          below = omega arith;
        }
    by false t g rest =
        let (found, l) = rest g in
        record {
          code = found.code;
          place = found.place;
          entry = ap (λ b. if b then Some (block_of p c) else blocks_from (p + length c.words.items) ss cs m) t ∙ found.entry;
          is = found.is;
          parts = found.parts;
          target = found.target;
          here = found.here;
          leads = leads_later p fin s ss c cs row.continuation found.target l.after found.leads;
          above = omega (arith, found.above);
          below = omega (arith, found.below);
        }
