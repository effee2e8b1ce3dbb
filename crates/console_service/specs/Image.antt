-- What blocks do, and a memory that holds them for a program.
use Rattle.std.specs.Prelude.{◌≡◌, ◌≢◌, ℕ, zero, suc, ◌+◌, ◌<◌, ◌≤◌, Bool, false, List, [], ◌∷◌, Option, Some, None, length, slice_index, ◌⊎◌}
use Rattle.dice_base.specs.declared.link.LinkTo.{LinkTo}
use Rattle.console_service.specs.declared.opcodes.TheConstants.{EMT, TRAP}
use Rattle.console_service.specs.declared.services.TheConstants.{PROGRAM_END}
use Rattle.console_service.specs.declared.instruction.Stop.{Stop}
use Rattle.console_service.specs.declared.instruction.Stop.TheVariants as stop
use Rattle.console_service.specs.Run.{gate_here, instruction, Stops}
use Rattle.console_service.specs.Cpu.{Cpu, state_of, HasAt, Comes}
use Rattle.console_service.specs.declared.memory_map.TheConstants.{GLOBALS_WORD, MEMORY_END_WORD}
use Rattle.console_service.specs.Block.{Gate, Spot, Link, Block, laid, gate_word, or_zero, spot_place}
use Rattle.console_service.specs.Semantics.{Begin, At, Back, Exit, Out, Calls, Returns, Over, Fails, Hanging, Semantics}
use Rattle.console_service.specs.Plain.{FormProgram, Pending, Now, StretchState, Goes, Ended, Failed, Stuck}

-- the word with this number
abbrev pub nth : List ℕ → ℕ → Option ℕ
nth [] k = None
nth (x ∷ xs) zero = Some x
nth (x ∷ xs) (suc k) = nth xs k

-- a call is two words long
abbrev pub behind_call : Option ℕ → Option ℕ
behind_call None = None
behind_call (Some k) = Some (k + 2)

-- one of the links leads there
abbrev pub HasLink : List Link → LinkTo → Type 0
HasLink [] to = ⊥
HasLink (l ∷ ls) to = (l.to ≡ to) ⊎ HasLink ls to

-- no link stands at this offset
abbrev pub NoLink : List Link → ℕ → Type 0
NoLink [] k = Unit {0}
NoLink (l ∷ ls) k = (l.at ≢ k) × NoLink ls k

-- the offsets differ, and lie inside
abbrev pub AreLinks : ℕ → List Link → Type 0
AreLinks n [] = Unit {0}
AreLinks n (l ∷ ls) = (l.at < n) × NoLink ls l.at × AreLinks n ls

-- the gate and the links lie inside the words, each at a word of its own
pub record IsBlock (b : Block) : Type 0 where
  pub links : AreLinks (length b.words) b.links
  pub gate_in : (k : ℕ) → b.part_at Gate ≡ Some k → k < length b.words
  pub gate_free : (k : ℕ) → b.part_at Gate ≡ Some k → NoLink b.links k

-- the machine comes from one to the other, and no word below the globals changes
pub record Runs (most : ℕ) (c d : Cpu) : Type 0 where
  pub comes : Comes most c d
  pub kept : (k : ℕ) → k < GLOBALS_WORD → slice_index d.mem k ≡ slice_index c.mem k
  pub long : length d.mem ≡ length c.mem

-- EMT 0, which asks for the end of the program
abbrev pub end_word : ℕ
end_word = EMT + PROGRAM_END

-- TRAP with the number of a run-time error
abbrev pub trap_word : ℕ → ℕ
trap_word error = TRAP + error

-- the machine once it has fetched the word at PC
abbrev pub passed : Cpu → Cpu
passed c = record c { pc = c.pc + 1 }

-- the machine stands at a word that ends the run, and that instruction does nothing else
pub record Halts (c : Cpu) (word : ℕ) (end : Stop) : Type 0 where
  pub below : c.pc < GLOBALS_WORD
  pub here : slice_index c.mem c.pc ≡ word
  pub stops : instruction (state_of c) ≡ Stops end (state_of (passed c))
  pub no_gate : gate_here (state_of c) ≡ false

-- a word number lies in a block that begins there
abbrev pub InWords : ℕ → Block → ℕ → Type 0
InWords p b k = (p ≤ k) × (k < p + length b.words)

module _ {Form Path Data : Type 0} (M : Semantics Form Path Data) where
  -- the offset of a begin
  abbrev pub start_at : Block → Begin Path → Option ℕ
  start_at b (At part) = b.part_at part
  start_at b (Back path) = behind_call (nth b.calls (M.number path))

  -- a gate's word is passed before
  abbrev pub gate_length : Begin Path → ℕ
  gate_length (At Gate) = 1
  gate_length other = 0

  -- a begin is one of the form
  abbrev pub IsStart : Form → Begin Path → Type 0
  IsStart f (At part) = Unit {0}
  IsStart f (Back path) = M.IsPath f path

  -- a return: the machine comes to where the newest pending statement called
  abbrev pub ToBack : ℕ → List (Hanging Path) → Cpu → Data → Type 0
  ToBack n [] c d = ⊥
  ToBack n (h ∷ rest) c d = (e : Cpu) × Runs n c e × (e.pc ≡ h.back) × M.Holds d rest e

  -- what the machine comes to, at this exit of a block that lies at p and whose links lead to q
  abbrev pub Gives : ℕ → Form → Block → ℕ → (LinkTo → ℕ) → List (Hanging Path) → Cpu → Exit Path Data → Type 0
  Gives n f b p q hs c (Out to d) =
      (e : Cpu) × Runs n c e × HasLink b.links to × (e.pc ≡ q to) × M.Holds d hs e
  Gives n f b p q hs c (Calls to path d) =
      (e : Cpu) × Runs n c e × HasLink b.links to × (e.pc ≡ q to)
      × (k : ℕ) × (nth b.calls (M.number path) ≡ Some k) × M.IsPath f path
      × M.Holds d (record { path = path; back = p + (k + 2) } ∷ hs) e
  Gives n f b p q hs c (Returns d) = ToBack n hs c d
  Gives n f b p q hs c (Over d) =
      (e : Cpu) × Runs n c e × Halts e end_word stop.Ended × InWords p b e.pc × M.Shows d e
  Gives n f b p q hs c (Fails error d) =
      (e : Cpu) × Runs n c e × Halts e (trap_word error) (stop.Error error) × InWords p b e.pc × M.Shows d e

  -- wherever the block lies, whatever its links and its gate are, it does what the form does
  abbrev pub Implements : Form → Block → Type 0
  Implements f b =
      (s : Begin Path) (k p g : ℕ) (q : LinkTo → ℕ) (d : Data) (hs : List (Hanging Path)) (c : Cpu)
      → IsStart f s → M.IsGood f s d → start_at b s ≡ Some k
      → HasAt c.mem p (laid b g q) → p + length b.words ≤ GLOBALS_WORD → length c.mem ≡ MEMORY_END_WORD
      → M.Holds d hs c → c.pc ≡ p + (k + gate_length s)
      → Gives (M.most f s) f b p q hs c (M.does f s d)

  -- an end has its part
  pub record IsEnd (es : ℕ → Option Block) (s : Spot) : Type 0 where
    pub block : Block
    pub entry : es s.name ≡ Some block
    pub offset : ℕ
    pub part : block.part_at s.part ≡ Some offset

  -- the block of a name lies in the memory, with its gate's word, and its links lead to their ends
  pub record Lies (P : FormProgram Form) (es : ℕ → Option Block) (marks : ℕ → Bool) (mem : List ℕ) (n : ℕ) (f : Form) : Type 0 where
    pub block : Block
    pub entry : es n ≡ Some block
    pub is : IsBlock block
    pub implements : Implements f block
    pub below : block.place + length block.words ≤ GLOBALS_WORD
    pub here : HasAt mem block.place (laid block (gate_word (marks n)) (λ to. spot_place es (P.link_end n to)))
    pub ends : (to : LinkTo) → HasLink block.links to → IsEnd es (P.link_end n to)

  -- the memory holds the program
  pub record HasImage (P : FormProgram Form) (es : ℕ → Option Block) (marks : ℕ → Bool) (mem : List ℕ) : Type 0 where
    pub each : (n : ℕ) (f : Form) → P.form n ≡ Some f → Lies P es marks mem n f
    pub only : (n : ℕ) (b : Block) → es n ≡ Some b → (f : Form) × (P.form n ≡ Some f)
    pub apart : (m n : ℕ) (b d : Block) (j k : ℕ) → es m ≡ Some b → es n ≡ Some d
        → j < length b.words → k < length d.words → b.place + j ≡ d.place + k → m ≡ n

  -- where the call of a pending statement returns to
  abbrev pub back_in : Option Block → Path → ℕ
  back_in None path = 0
  back_in (Some b) path = b.place + or_zero (behind_call (nth b.calls (M.number path)))

  -- the pending statements, each with the place that its call returns to
  abbrev pub hanging : (ℕ → Option Block) → List (Pending Path) → List (Hanging Path)
  hanging es [] = []
  hanging es (a ∷ rest) = record { path = a.path; back = back_in (es a.name) a.path } ∷ hanging es rest

  -- each pending statement has its call, in its form and in its block
  pub record Waits (P : FormProgram Form) (es : ℕ → Option Block) (a : Pending Path) : Type 0 where
    pub form : Form
    pub has : P.form a.name ≡ Some form
    pub fits : M.IsPath form a.path
    pub block : Block
    pub entry : es a.name ≡ Some block
    pub offset : ℕ
    pub call : nth block.calls (M.number a.path) ≡ Some offset

  -- so does each of several
  abbrev pub AllWait : FormProgram Form → (ℕ → Option Block) → List (Pending Path) → Type 0
  AllWait P es [] = Unit {0}
  AllWait P es (a ∷ rest) = Waits P es a × AllWait P es rest

  -- the machine stands before a stretch of the state
  pub record Before (P : FormProgram Form) (es : ℕ → Option Block) (s : Now Path Data) (c : Cpu) : Type 0 where
    pub form : Form
    pub has : P.form s.name ≡ Some form
    pub fits : IsStart form s.start
    pub block : Block
    pub entry : es s.name ≡ Some block
    pub offset : ℕ
    pub start : start_at block s.start ≡ Some offset
    pub place : c.pc ≡ block.place + offset
    pub long : length c.mem ≡ MEMORY_END_WORD
    pub holds : M.Holds s.data_now (hanging es s.older) c
    pub waits : AllWait P es s.older

  -- the machine stands at the last word of a run, in the block of this name
  pub record Stopped (es : ℕ → Option Block) (n word : ℕ) (end : Stop) (d : Data) (c : Cpu) : Type 0 where
    pub halts : Halts c word end
    pub block : Block
    pub entry : es n ≡ Some block
    pub inside : InWords block.place block c.pc
    pub shows : M.Shows d c

  -- the machine stands for a state
  abbrev pub RepresentsStretch : FormProgram Form → (ℕ → Option Block) → StretchState Path Data → Cpu → Type 0
  RepresentsStretch P es (Goes s) c = Before P es s c
  RepresentsStretch P es (Ended n d) c = Stopped es n end_word stop.Ended d c
  RepresentsStretch P es (Failed error n d) c = Stopped es n (trap_word error) (stop.Error error) d c
  RepresentsStretch P es Stuck c = ⊥
