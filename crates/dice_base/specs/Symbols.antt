-- The word symbols and the signs as tokens (ISO 7185:1990, 6.1.2). The numbers are those of the table in src/symbols.rt.
use Rattle.dice_base.specs.declared.token.TokenKind.{TokenKind}
use Rattle.dice_base.specs.declared.token.TokenKind.TheVariants.{Word, Sign}
use Rattle.dice_base.specs.declared.symbols.words.TheConstants as words
use Rattle.dice_base.specs.declared.symbols.signs.TheConstants as signs

-- ---- the word symbols

abbrev pub and_word : TokenKind
and_word = Word words.AND

abbrev pub array_word : TokenKind
array_word = Word words.ARRAY

abbrev pub begin_word : TokenKind
begin_word = Word words.BEGIN

abbrev pub case_word : TokenKind
case_word = Word words.CASE

abbrev pub const_word : TokenKind
const_word = Word words.CONST

abbrev pub div_word : TokenKind
div_word = Word words.DIV

abbrev pub do_word : TokenKind
do_word = Word words.DO

abbrev pub downto_word : TokenKind
downto_word = Word words.DOWNTO

abbrev pub else_word : TokenKind
else_word = Word words.ELSE

abbrev pub end_word : TokenKind
end_word = Word words.END

abbrev pub file_word : TokenKind
file_word = Word words.FILE

abbrev pub for_word : TokenKind
for_word = Word words.FOR

abbrev pub function_word : TokenKind
function_word = Word words.FUNCTION

abbrev pub goto_word : TokenKind
goto_word = Word words.GOTO

abbrev pub if_word : TokenKind
if_word = Word words.IF

abbrev pub in_word : TokenKind
in_word = Word words.IN

abbrev pub label_word : TokenKind
label_word = Word words.LABEL

abbrev pub mod_word : TokenKind
mod_word = Word words.MOD

abbrev pub nil_word : TokenKind
nil_word = Word words.NIL

abbrev pub not_word : TokenKind
not_word = Word words.NOT

abbrev pub of_word : TokenKind
of_word = Word words.OF

abbrev pub or_word : TokenKind
or_word = Word words.OR

abbrev pub packed_word : TokenKind
packed_word = Word words.PACKED

abbrev pub procedure_word : TokenKind
procedure_word = Word words.PROCEDURE

abbrev pub program_word : TokenKind
program_word = Word words.PROGRAM

abbrev pub record_word : TokenKind
record_word = Word words.RECORD

abbrev pub repeat_word : TokenKind
repeat_word = Word words.REPEAT

abbrev pub set_word : TokenKind
set_word = Word words.SET

abbrev pub then_word : TokenKind
then_word = Word words.THEN

abbrev pub to_word : TokenKind
to_word = Word words.TO

abbrev pub type_word : TokenKind
type_word = Word words.TYPE

abbrev pub until_word : TokenKind
until_word = Word words.UNTIL

abbrev pub var_word : TokenKind
var_word = Word words.VAR

abbrev pub while_word : TokenKind
while_word = Word words.WHILE

abbrev pub with_word : TokenKind
with_word = Word words.WITH

-- ---- the signs

-- `+`
abbrev pub plus_sign : TokenKind
plus_sign = Sign signs.PLUS

-- `-`
abbrev pub minus_sign : TokenKind
minus_sign = Sign signs.MINUS

-- `*`
abbrev pub times_sign : TokenKind
times_sign = Sign signs.TIMES

-- `=`
abbrev pub equal_sign : TokenKind
equal_sign = Sign signs.EQUAL

-- `<>`
abbrev pub not_equal_sign : TokenKind
not_equal_sign = Sign signs.NOT_EQUAL

-- `<`
abbrev pub less_sign : TokenKind
less_sign = Sign signs.LESS

-- `>`
abbrev pub greater_sign : TokenKind
greater_sign = Sign signs.GREATER

-- `<=`
abbrev pub at_most_sign : TokenKind
at_most_sign = Sign signs.AT_MOST

-- `>=`
abbrev pub at_least_sign : TokenKind
at_least_sign = Sign signs.AT_LEAST

-- `(`
abbrev pub open_sign : TokenKind
open_sign = Sign signs.OPEN

-- `)`
abbrev pub close_sign : TokenKind
close_sign = Sign signs.CLOSE

-- `[`
abbrev pub left_sign : TokenKind
left_sign = Sign signs.LEFT

-- `]`
abbrev pub right_sign : TokenKind
right_sign = Sign signs.RIGHT

-- `:=`
abbrev pub becomes_sign : TokenKind
becomes_sign = Sign signs.BECOMES

-- `.`
abbrev pub period_sign : TokenKind
period_sign = Sign signs.PERIOD

-- `,`
abbrev pub comma_sign : TokenKind
comma_sign = Sign signs.COMMA

-- `;`
abbrev pub semicolon_sign : TokenKind
semicolon_sign = Sign signs.SEMICOLON

-- `:`
abbrev pub colon_sign : TokenKind
colon_sign = Sign signs.COLON

-- `..`
abbrev pub range_sign : TokenKind
range_sign = Sign signs.RANGE

-- `^`
abbrev pub arrow_sign : TokenKind
arrow_sign = Sign signs.ARROW
