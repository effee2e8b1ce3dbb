-- Blocks of code, their parts and their link words.
use Rattle.std.specs.Prelude.{ℕ, ◌+◌, ◌*◌, Bool, if◌then◌else◌, List, [], ◌∷◌, Option, Some, None, slice_set}
use Rattle.dice_base.specs.declared.link.LinkTo.{LinkTo}
use Rattle.console_service.specs.declared.opcodes.TheConstants.{NOP, BPT}

-- where a block may be begun, but for the returns of calls
pub data Part : Type 0 where
  First : Part
  Gate : Part
  Step : Part
  End : Part
  Leave : Part

-- an end of a link: a part of the block of a name
pub record Spot : Type 0 where
  pub name : ℕ
  pub part : Part

-- a link word: its offset in words, and where it leads
pub record Link : Type 0 where
  pub at : ℕ
  pub to : LinkTo

-- where a block lies (a word number), its words with 0 for the links, and by offset its parts, links and call places
pub record Block : Type 0 where
  pub place : ℕ
  pub words : List ℕ
  pub part_at : Part → Option ℕ
  pub links : List Link
  pub calls : List ℕ

-- the words with these links
abbrev pub linked : List ℕ → List Link → (LinkTo → ℕ) → List ℕ
linked ws [] q = ws
linked ws (l ∷ ls) q = linked (slice_set ws l.at (2 * q l.to)) ls q

-- the words with this one at an offset, if there is one
abbrev pub set_at : Option ℕ → ℕ → List ℕ → List ℕ
set_at None g ws = ws
set_at (Some k) g ws = slice_set ws k g

-- the words as they are laid: with this word at the gate, and links to these places
abbrev pub laid : Block → ℕ → (LinkTo → ℕ) → List ℕ
laid b g q = linked (set_at (b.part_at Gate) g b.words) b.links q

-- the word at a gate, with a break or without
abbrev pub gate_word : Bool → ℕ
gate_word marked = if marked then BPT else NOP

-- an offset, or 0 where there is none
abbrev pub or_zero : Option ℕ → ℕ
or_zero None = 0
or_zero (Some k) = k

-- the word number of a part of a block; 0 where there is none
abbrev pub place_in : Option Block → Part → ℕ
place_in None t = 0
place_in (Some b) t = b.place + or_zero (b.part_at t)

-- the word number of an end, by the blocks
abbrev pub spot_place : (ℕ → Option Block) → Spot → ℕ
spot_place es s = place_in (es s.name) s.part
