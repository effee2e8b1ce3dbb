-- Which words begin a command. A command that is not built yet is refused as such, if what follows its word is of its
-- form.
use Rattle.std.specs.Prelude.{ℕ, Bool, ◌||◌, if◌then◌else◌, List, bytes_eq, codes, None, Some}
use Rattle.std.specs.declared.option.Option.{Option}
use Rattle.dice_command.specs.declared.keyword.Arguments.TheVariants.{Nothing, Number, Text, Side, Identifier}
use Rattle.dice_command.specs.declared.keyword.Keyword.{Keyword}
use Rattle.dice_command.specs.declared.keyword.Keyword.TheVariants as keyword

-- commands, not built yet, that nothing follows
unfoldable pub takes_nothing : List ℕ → Bool
takes_nothing word =
    bytes_eq word (codes "discard")
    || (bytes_eq word (codes "where")
    || (bytes_eq word (codes "room")
    || (bytes_eq word (codes "restart")
    || (bytes_eq word (codes "resume")))))

-- commands, not built yet, that a number follows
unfoldable pub takes_number : List ℕ → Bool
takes_number word =
    bytes_eq word (codes "delete")
    || (bytes_eq word (codes "undeclare")
    || (bytes_eq word (codes "break")
    || (bytes_eq word (codes "unbreak")
    || (bytes_eq word (codes "trace")
    || (bytes_eq word (codes "untrace"))))))

-- commands, not built yet, that a text follows
unfoldable pub takes_text : List ℕ → Bool
takes_text word =
    bytes_eq word (codes "head")
    || (bytes_eq word (codes "declare")
    || (bytes_eq word (codes "redeclare")
    || (bytes_eq word (codes "routine")
    || (bytes_eq word (codes "heading")
    || (bytes_eq word (codes "feed"))))))

-- the other commands that are not built yet have a form of their own
abbrev pub unbuilt_keyword : List ℕ → Option Keyword
unbuilt_keyword word =
    if takes_nothing word then Some (keyword.Unbuilt Nothing)
    else if takes_number word then Some (keyword.Unbuilt Number)
    else if takes_text word then Some (keyword.Unbuilt Text)
    else if bytes_eq word (codes "insert") then Some (keyword.Unbuilt Side)
    else if bytes_eq word (codes "show") then Some (keyword.Unbuilt Identifier)
    else None

-- what a first word asks for
unfoldable pub keyword_of : List ℕ → Option Keyword
keyword_of word =
    if bytes_eq word (codes "load") then Some keyword.Load
    else if bytes_eq word (codes "list") then Some keyword.List
    else if bytes_eq word (codes "replace") then Some keyword.Replace
    else if bytes_eq word (codes "apply") then Some keyword.Apply
    else if bytes_eq word (codes "run") then Some keyword.Run
    else if bytes_eq word (codes "quit") then Some keyword.Quit
    else unbuilt_keyword word
