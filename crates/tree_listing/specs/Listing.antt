-- The listing of a program: its tokens (ISO 7185:1990, 6.1) in their spelling, in lines. A line begins at each named item,
-- at each word that begins a part of a block, and at the first token other than `;` and `.` that an item has after an item
-- within it. The layout is this program's own: to Pascal a line end is a separator as a blank is (6.1.8).
use Rattle.std.specs.Prelude.{ℕ, ◌-◌, ◌*◌, Bool, false, ◌||◌, ◌==◌, if◌then◌else◌, List, [], ◌∷◌, ◌++◌, length, Option, Some, None, replicate}
use Rattle.std.specs.Fmt.{decimal}
use Rattle.dice_base.specs.declared.name.Name.{Name}
use Rattle.dice_base.specs.declared.token.TokenKind.{TokenKind}
use Rattle.dice_base.specs.declared.token.TokenKind.TheVariants.{Sign}
use Rattle.dice_base.specs.declared.symbols.signs.TheConstants as signs
use Rattle.pascal_tree.specs.declared.stmt.Stmt.{Stmt}
use Rattle.pascal_tree.specs.declared.program.Tree.{Tree}
use Rattle.dice_base.specs.Tokens.{Toks}
use Rattle.tree_text.specs.Spelling.{spelling_of}
use Rattle.tree_listing.specs.declared.event.Event.{Event}
use Rattle.tree_listing.specs.declared.event.Event.TheVariants.{Item, Part, Back, Token}
use Rattle.tree_listing.specs.declared.event.Line.{Line}
use Rattle.tree_listing.specs.Events.{stmt_events, program_events}

-- ---- events as lines

-- `.` and `;` stay on the line of the item before them
abbrev pub closes : TokenKind → Bool
closes (Sign k) = k == signs.PERIOD || k == signs.SEMICOLON
closes _ = false

-- the tokens that the unfinished line gets yet, and the lines after it
abbrev pub Rest : Type 0
Rest = Toks × List Line

-- a line begins
abbrev pub begins : Option Name → ℕ → Rest → Rest
begins name level rest = ([], record { name = name; level = level; tokens = rest.0 } ∷ rest.1)

-- a token on the unfinished line
abbrev pub on_line : TokenKind → Rest → Rest
on_line t rest = (t ∷ rest.0, rest.1)

-- the rest of a listing; the level is that of the item within which an item has ended, where no line has begun since
abbrev pub rest_of : List Event → Option ℕ → Rest
rest_of [] back = ([], [])
rest_of (Item name level ∷ es) back = begins (Some name) level (rest_of es None)
rest_of (Part level ∷ es) back = begins None level (rest_of es None)
rest_of (Back level ∷ es) back = rest_of es (Some level)
rest_of (Token t ∷ es) None = on_line t (rest_of es None)
rest_of (Token t ∷ es) (Some level) =
    if closes t then on_line t (rest_of es (Some level))
    else begins None level (on_line t (rest_of es None))

-- the lines of a listing
abbrev pub listing_lines : List Event → List Line
listing_lines es = (rest_of es None).1

-- ---- lines as text

-- this many blanks
abbrev pub blanks : ℕ → List ℕ
blanks n = replicate n 32

-- a number, right in six places or in as many as it has digits, or six blanks
abbrev pub places : Option Name → List ℕ
places None = blanks 6
places (Some name) = blanks (6 - length (decimal name.0)) ++ decimal name.0

-- the spellings of tokens, each after a blank
abbrev pub spellings_after_blanks : Toks → List ℕ
spellings_after_blanks [] = []
spellings_after_blanks (t ∷ ts) = 32 ∷ spelling_of t ++ spellings_after_blanks ts

-- the spellings of tokens with a blank between
abbrev pub spellings_of : Toks → List ℕ
spellings_of [] = []
spellings_of (t ∷ ts) = spelling_of t ++ spellings_after_blanks ts

-- two blanks for each level, and the tokens
abbrev pub indented_line : ℕ → Toks → List ℕ
indented_line level ts = blanks (2 * level) ++ spellings_of ts

-- a line of a listing with names: the name, a blank, and the tokens if there are any
abbrev pub named_line : Option Name → ℕ → Toks → List ℕ
named_line name level [] = places name ++ 10 ∷ []
named_line name level (t ∷ ts) = places name ++ 32 ∷ indented_line level (t ∷ ts) ++ 10 ∷ []

-- and of one without names, in which a line of no tokens is left out
abbrev pub plain_line : ℕ → Toks → List ℕ
plain_line level [] = []
plain_line level (t ∷ ts) = indented_line level (t ∷ ts) ++ 10 ∷ []

-- with names, or without
abbrev pub text_of_line : Bool → Line → List ℕ
text_of_line names line =
    if names then named_line line.name line.level line.tokens
    else plain_line line.level line.tokens

abbrev pub text_of_lines : Bool → List Line → List ℕ
text_of_lines names [] = []
text_of_lines names (line ∷ lines) = text_of_line names line ++ text_of_lines names lines

-- ---- the listing of a program, and of a statement

-- with the names of the items, or without
abbrev pub listing : Bool → Tree → List ℕ
listing names p = text_of_lines names (listing_lines (program_events p))

-- the statement is in no other item, and no names are printed
abbrev pub statement_listing : Stmt → List ℕ
statement_listing s = text_of_lines false (listing_lines (stmt_events s 0))
