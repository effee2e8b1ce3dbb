-- A block of code, laid at a word of the memory.
use Rattle.std.specs.Prelude.{ℕ, zero, suc, Option, Some, None, map}
use Rattle.dice_base.specs.declared.link.LinkWord.{LinkWord}
use Rattle.console_service.specs.declared.block.BlockCode.{BlockCode}
use Rattle.console_service.specs.Block.{Part, First, Gate, Step, End, Leave, Link, Block}

-- a link word with where it leads
abbrev pub link_of : LinkWord → Link
link_of l = record { at = l.offset; to = l.to }

-- the first word is where the block of a routine or of the program is begun; a statement's is its gate
abbrev pub first_of : Option ℕ → Option ℕ
first_of None = Some 0
first_of (Some zero) = None
first_of (Some (suc k)) = Some 0

-- the offset of a part in a block's code
abbrev pub part_of : BlockCode → Part → Option ℕ
part_of code First = first_of code.gate
part_of code Gate = code.gate
part_of code Step = code.step
part_of code End = code.end
part_of code Leave = code.leave

-- the block of this code at this word number
abbrev pub block_of : ℕ → BlockCode → Block
block_of place code = record {
  place = place;
  words = code.words.items;
  part_at = part_of code;
  links = map link_of code.links.items;
  calls = code.calls.items;
}
