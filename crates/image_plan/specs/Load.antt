-- The blocks of a whole load: the program's block at the begin of the code area, and all others behind it in text order.
use Rattle.std.specs.Prelude.{◌≡◌, ℕ, ◌+◌, ◌==◌, if◌then◌else◌, false, List, [], ◌∷◌, length, Option, Some, None, slice_index}
use Rattle.console_service.specs.Cpu.{HasAt}
use Rattle.console_service.specs.declared.memory_map.TheConstants.{CODE_WORD, MEMORY_END_WORD}
use Rattle.console_service.specs.Block.{First, Gate, Block}
use Rattle.console_service.specs.Image.{HasImage}
use Rattle.pascal_semantics.specs.declared.form.Statement.{Statement}
use Rattle.pascal_semantics.specs.Charge.{charge_of, program_charge, charges_of}
use Rattle.pascal_semantics.specs.Program.{program_of}
use Rattle.pascal_semantics.specs.Valid.{program_name}
use Rattle.statement_code.specs.Forms.{simple}
use Rattle.statement_code.specs.Emitted.{IsNoGate}
use Rattle.image_plan.specs.Links.{blocks_of}

-- the place of a statement's block, as a word number: behind those of the statements before it
abbrev pub place_from : ℕ → List Statement → ℕ → Option (ℕ × ℕ)
place_from p [] m = None
place_from p (s ∷ ss) m =
    if s.name == m then Some (p, charge_of s.form) else place_from (p + charge_of s.form) ss m

-- where the block of a name lies, and how many words it has
abbrev pub place_of : List Statement → ℕ → Option (ℕ × ℕ)
place_of ss m =
    if m == program_name then Some (CODE_WORD, program_charge) else place_from (CODE_WORD + program_charge) ss m

-- where a block lies, and how many words it has
abbrev pub extent_of : Option Block → Option (ℕ × ℕ)
extent_of None = None
extent_of (Some b) = Some (b.place, length b.words)

-- the program's block is begun at its first word, and a statement's gate is the first word of its block
pub record HasParts (blocks : ℕ → Option Block) : Type 0 where
  pub program : Block
  pub entry : blocks program_name ≡ Some program
  pub begin : program.part_at First ≡ Some 0
  pub gates : (n : ℕ) (b : Block) (k : ℕ) → blocks n ≡ Some b → b.part_at Gate ≡ Some k → k ≡ 0

-- these words, laid from the begin of the code area on, are the program's blocks, each at its place, with no break set
pub record IsLoad (ss : List Statement) (words : List ℕ) : Type 0 where
  pub long : length words ≡ program_charge + charges_of ss
  pub blocks : ℕ → Option Block
  pub places : (n : ℕ) → extent_of (blocks n) ≡ place_of ss n
  pub parts : HasParts blocks
  pub first : IsNoGate (slice_index words 0)
  pub image : (mem : List ℕ) → length mem ≡ MEMORY_END_WORD → HasAt mem CODE_WORD words
      → HasImage simple (blocks_of (program_of ss)) blocks (λ n. false) mem
