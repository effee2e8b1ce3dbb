-- The classes of the tokens that the grammar names, each derived from its token.
use Rattle.std.specs.Prelude.{ℕ, []}
use Rattle.dice_base.specs.Symbols as symbol
use Rattle.dice_base.specs.Tokens.{class_of}
use Rattle.dice_base.specs.declared.token.TokenKind.TheVariants.{Ident, Number, Str, Hole}

-- an identifier, a number and a string, whichever they are, and a part that is left out
abbrev pub ident_class : ℕ
ident_class = class_of (Ident [])

abbrev pub number_class : ℕ
number_class = class_of (Number 0)

abbrev pub string_class : ℕ
string_class = class_of (Str [])

abbrev pub hole_class : ℕ
hole_class = class_of Hole

abbrev pub and_class : ℕ
and_class = class_of symbol.and_word

abbrev pub array_class : ℕ
array_class = class_of symbol.array_word

abbrev pub begin_class : ℕ
begin_class = class_of symbol.begin_word

abbrev pub case_class : ℕ
case_class = class_of symbol.case_word

abbrev pub const_class : ℕ
const_class = class_of symbol.const_word

abbrev pub div_class : ℕ
div_class = class_of symbol.div_word

abbrev pub do_class : ℕ
do_class = class_of symbol.do_word

abbrev pub downto_class : ℕ
downto_class = class_of symbol.downto_word

abbrev pub else_class : ℕ
else_class = class_of symbol.else_word

abbrev pub end_class : ℕ
end_class = class_of symbol.end_word

abbrev pub for_class : ℕ
for_class = class_of symbol.for_word

abbrev pub function_class : ℕ
function_class = class_of symbol.function_word

abbrev pub goto_class : ℕ
goto_class = class_of symbol.goto_word

abbrev pub if_class : ℕ
if_class = class_of symbol.if_word

abbrev pub in_class : ℕ
in_class = class_of symbol.in_word

abbrev pub label_class : ℕ
label_class = class_of symbol.label_word

abbrev pub mod_class : ℕ
mod_class = class_of symbol.mod_word

abbrev pub nil_class : ℕ
nil_class = class_of symbol.nil_word

abbrev pub not_class : ℕ
not_class = class_of symbol.not_word

abbrev pub of_class : ℕ
of_class = class_of symbol.of_word

abbrev pub or_class : ℕ
or_class = class_of symbol.or_word

abbrev pub packed_class : ℕ
packed_class = class_of symbol.packed_word

abbrev pub procedure_class : ℕ
procedure_class = class_of symbol.procedure_word

abbrev pub program_class : ℕ
program_class = class_of symbol.program_word

abbrev pub record_class : ℕ
record_class = class_of symbol.record_word

abbrev pub repeat_class : ℕ
repeat_class = class_of symbol.repeat_word

abbrev pub set_class : ℕ
set_class = class_of symbol.set_word

abbrev pub then_class : ℕ
then_class = class_of symbol.then_word

abbrev pub to_class : ℕ
to_class = class_of symbol.to_word

abbrev pub type_class : ℕ
type_class = class_of symbol.type_word

abbrev pub until_class : ℕ
until_class = class_of symbol.until_word

abbrev pub var_class : ℕ
var_class = class_of symbol.var_word

abbrev pub while_class : ℕ
while_class = class_of symbol.while_word

abbrev pub with_class : ℕ
with_class = class_of symbol.with_word

abbrev pub plus_class : ℕ
plus_class = class_of symbol.plus_sign

abbrev pub minus_class : ℕ
minus_class = class_of symbol.minus_sign

abbrev pub times_class : ℕ
times_class = class_of symbol.times_sign

abbrev pub equal_class : ℕ
equal_class = class_of symbol.equal_sign

abbrev pub not_equal_class : ℕ
not_equal_class = class_of symbol.not_equal_sign

abbrev pub less_class : ℕ
less_class = class_of symbol.less_sign

abbrev pub greater_class : ℕ
greater_class = class_of symbol.greater_sign

abbrev pub at_most_class : ℕ
at_most_class = class_of symbol.at_most_sign

abbrev pub at_least_class : ℕ
at_least_class = class_of symbol.at_least_sign

abbrev pub open_class : ℕ
open_class = class_of symbol.open_sign

abbrev pub close_class : ℕ
close_class = class_of symbol.close_sign

abbrev pub left_class : ℕ
left_class = class_of symbol.left_sign

abbrev pub right_class : ℕ
right_class = class_of symbol.right_sign

abbrev pub becomes_class : ℕ
becomes_class = class_of symbol.becomes_sign

abbrev pub period_class : ℕ
period_class = class_of symbol.period_sign

abbrev pub comma_class : ℕ
comma_class = class_of symbol.comma_sign

abbrev pub semicolon_class : ℕ
semicolon_class = class_of symbol.semicolon_sign

abbrev pub colon_class : ℕ
colon_class = class_of symbol.colon_sign

abbrev pub range_class : ℕ
range_class = class_of symbol.range_sign

abbrev pub arrow_class : ℕ
arrow_class = class_of symbol.arrow_sign
