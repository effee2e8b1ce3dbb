-- The words of blocks of code that are laid one behind the other, each with its one link word.
use Rattle.std.specs.Prelude.{◌≡◌, ℕ, ◌+◌, ◌<◌, List, [], ◌∷◌, ◌++◌, length, map}
use Rattle.dice_base.specs.declared.link.LinkWord.{LinkWord}
use Rattle.console_service.specs.declared.memory_map.TheConstants.{CODE_WORD}
use Rattle.console_service.specs.declared.block.BlockCode.{BlockCode}
use Rattle.console_service.specs.Block.{linked, or_zero}
use Rattle.console_service.specs.BlockOf.{link_of}
use Rattle.pascal_semantics.specs.declared.form.Statement.{Statement}
use Rattle.statement_code.specs.Forms.{StatementBlock}
use Rattle.statement_code.specs.Emitted.{IsCodeOf, IsStatementCode}

-- a block with one link word, inside its words
abbrev pub HasOneLink : BlockCode → Type 0
HasOneLink code = (link : LinkWord) × (code.links.items ≡ link ∷ []) × (link.offset < length code.words.items)

-- so has each of several
abbrev pub AllHaveOneLink : List BlockCode → Type 0
AllHaveOneLink [] = Unit {0}
AllHaveOneLink (c ∷ cs) = HasOneLink c × AllHaveOneLink cs

-- the block of each statement
abbrev pub AreCodes : List Statement → List BlockCode → Type 0
AreCodes [] [] = Unit {0}
AreCodes [] (c ∷ cs) = ⊥
AreCodes (s ∷ ss) [] = ⊥
AreCodes (s ∷ ss) (c ∷ cs) = (IsCodeOf (StatementBlock s.form) c × IsStatementCode c) × AreCodes ss cs

-- the words of a block whose link leads to this word number
abbrev pub laid_to : BlockCode → ℕ → List ℕ
laid_to code target = linked code.words.items (map link_of code.links.items) (λ to. target)

-- the words of several blocks together
abbrev pub words_in : List BlockCode → ℕ
words_in [] = 0
words_in (c ∷ cs) = length c.words.items + words_in cs

-- where control goes: to the next block at this place, or to the end
abbrev pub next_place : ℕ → ℕ → List BlockCode → ℕ
next_place place finish [] = finish
next_place place finish (c ∷ cs) = place

-- the blocks of statements from this place on
abbrev pub statements_laid : ℕ → ℕ → List BlockCode → List ℕ
statements_laid place finish [] = []
statements_laid place finish (c ∷ cs) =
    laid_to c (next_place (place + length c.words.items) finish cs)
    ++ statements_laid (place + length c.words.items) finish cs

-- the program's block at the begin of the code area, and those of its statements behind it
abbrev pub first_place : BlockCode → ℕ
first_place program = CODE_WORD + length program.words.items

-- the word number of the program's end part
abbrev pub finish_place : BlockCode → ℕ
finish_place program = CODE_WORD + or_zero program.end

-- the words of a whole load
abbrev pub image_words : BlockCode → List BlockCode → List ℕ
image_words program codes =
    laid_to program (next_place (first_place program) (finish_place program) codes)
    ++ statements_laid (first_place program) (finish_place program) codes
