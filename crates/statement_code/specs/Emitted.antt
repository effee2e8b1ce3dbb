-- What is said of the code that is emitted for a block.
use Rattle.std.specs.Prelude.{◌≡◌, ◌≢◌, ℕ, ◌<◌, List, [], ◌∷◌, length, slice_index, Option, Some, None}
use Rattle.dice_base.specs.declared.link.LinkTo.{LinkTo}
use Rattle.dice_base.specs.declared.link.LinkTo.TheVariants.{Next, Child}
use Rattle.dice_base.specs.declared.link.LinkWord.{LinkWord}
use Rattle.console_service.specs.declared.block.BlockCode.{BlockCode}
use Rattle.console_service.specs.declared.opcodes.TheConstants.{NOP, BPT}
use Rattle.console_service.specs.BlockOf.{block_of}
use Rattle.console_service.specs.Image.{IsBlock, Implements}
use Rattle.statement_code.specs.Forms.{BlockForm, block_charge, simple}

-- the parts of a block of code without calls
pub record IsMade (code : BlockCode) (words : List ℕ) (links : List LinkWord) (gate end : Option ℕ) : Type 0 where
  pub words_are : code.words.items ≡ words
  pub links_are : code.links.items ≡ links
  pub calls_are : code.calls.items ≡ []
  pub gate_is : code.gate ≡ gate
  pub step_is : code.step ≡ None
  pub end_is : code.end ≡ end
  pub leave_is : code.leave ≡ None

-- the link words of a block are this one alone: 0 so far, and HALT stands behind it but for the end part
pub record HasLinkWord (code : BlockCode) (to : LinkTo) : Type 0 where
  pub link : LinkWord
  pub only : code.links.items ≡ link ∷ []
  pub leads : link.to ≡ to
  pub inside : link.offset < length code.words.items
  pub zero : slice_index code.words.items link.offset ≡ 0

-- the block of a statement: it is begun at its gate, its first word, and leads to what comes after the statement
pub record IsStatementCode (code : BlockCode) : Type 0 where
  pub gate : code.gate ≡ Some 0
  pub nop : slice_index code.words.items 0 ≡ NOP
  pub step : code.step ≡ None
  pub end : code.end ≡ None
  pub leave : code.leave ≡ None
  pub calls : code.calls.items ≡ []
  pub link : HasLinkWord code Next
  pub filled : (k : ℕ) → link.link.offset < k → slice_index code.words.items k ≡ 0

-- no gate is this word
pub record IsNoGate (word : ℕ) : Type 0 where
  pub no_nop : word ≢ NOP
  pub no_bpt : word ≢ BPT

-- the program's block is begun at its first word, which is no gate, leads to its body, and has an end part
pub record IsProgramCode (code : BlockCode) : Type 0 where
  pub first : IsNoGate (slice_index code.words.items 0)
  pub gate : code.gate ≡ None
  pub step : code.step ≡ None
  pub leave : code.leave ≡ None
  pub calls : code.calls.items ≡ []
  pub link : HasLinkWord code (Child 0)
  pub behind : 0 < link.link.offset
  pub end_offset : ℕ
  pub end : code.end ≡ Some end_offset
  pub inside : end_offset < length code.words.items
  pub filled : (k : ℕ) → end_offset < k → slice_index code.words.items k ≡ 0

-- exactly so many words as the form's charge, which wherever they lie do what the form does
pub record IsCodeOf (f : BlockForm) (code : BlockCode) : Type 0 where
  pub long : length code.words.items ≡ block_charge f
  pub block : (place : ℕ) → IsBlock (block_of place code)
  pub implements : (place : ℕ) → Implements simple f (block_of place code)
