-- Worked examples of what is read at the bound of levels, computed from the reading functions.
use Rattle.std.specs.Prelude.{◌≡◌, ℕ, zero, suc, [], ◌∷◌, ◌++◌, Err}
use Rattle.std.proofs.Common.{refl}
use Rattle.dice_base.specs.declared.token.TokenKind.{TokenKind}
use Rattle.dice_base.specs.declared.token.TokenKind.TheVariants.{Ident, Number}
use Rattle.dice_base.specs.Symbols.{begin_word, else_word, end_word, if_word, then_word, until_word, open_sign, close_sign, semicolon_sign, becomes_sign}
use Rattle.dice_base.specs.Tokens.{Toks}
use Rattle.token_reader.specs.Readers.{expect, ident, number, many_from, separated, operator_or_else}
use Rattle.token_reader.specs.Faults.{read_whole, UnexpectedAt, PassesLevels, EndsInside}
use Rattle.expression_parser.specs.Readers.{inside, sign, access_part, access_rest, by_ident as factor_by_ident, factor, mul_part, term, add_part, sum, rel_part, expr}
use Rattle.statement_parser.specs.Readers.{stmt_in, assign, call, by_ident, compound, else_part, if_statement, kind, labelled, statement}

-- these tokens so many times, and then those
abbrev times : ℕ → Toks → Toks → Toks
times zero a b = b
times (suc n) a b = a ++ times n a b

abbrev begins : ℕ → Toks → Toks
begins n rest = times n (begin_word ∷ []) rest

abbrev ifs : ℕ → Toks → Toks
ifs n rest = times n (if_word ∷ Ident (97 ∷ []) ∷ then_word ∷ []) rest

-- `a :=` and so many opening brackets
abbrev brackets : ℕ → Toks → Toks
brackets n rest = Ident (97 ∷ []) ∷ becomes_sign ∷ times n (open_sign ∷ []) rest

-- 64 times `begin`: behind it no `)` can stand; `end` and `;` end an empty statement at level 65
begin_close : read_whole stmt_in 64 (begins 64 (close_sign ∷ [])) ≡ Err (UnexpectedAt 64)
unfolding stmt_in inside statement labelled kind compound separated expect number many_from
begin_close = refl

begin_only : read_whole stmt_in 64 (begins 64 []) ≡ Err EndsInside
unfolding stmt_in inside statement labelled kind compound separated expect number many_from
begin_only = refl

begin_end : read_whole stmt_in 64 (begins 64 (end_word ∷ [])) ≡ Err PassesLevels
unfolding stmt_in inside statement labelled kind compound separated expect number many_from
begin_end = refl

begin_semicolon : read_whole stmt_in 64 (begins 64 (semicolon_sign ∷ close_sign ∷ [])) ≡ Err PassesLevels
unfolding stmt_in inside statement labelled kind compound separated expect number many_from
begin_semicolon = refl

-- `until` belongs to no `begin`
begin_until : read_whole stmt_in 64 (begins 64 (until_word ∷ [])) ≡ Err (UnexpectedAt 64)
unfolding stmt_in inside statement labelled kind compound separated expect number many_from
begin_until = refl

-- 64 times `if a then`: the end and `else` end an empty statement at level 65, and `)` cannot stand there
if_only : read_whole stmt_in 64 (ifs 64 []) ≡ Err PassesLevels
unfolding stmt_in inside statement labelled kind if_statement else_part expect number many_from expr sum sign operator_or_else term factor factor_by_ident access_rest access_part ident mul_part add_part rel_part
if_only = refl

if_else : read_whole stmt_in 64 (ifs 64 (else_word ∷ [])) ≡ Err PassesLevels
unfolding stmt_in inside statement labelled kind if_statement else_part expect number many_from expr sum sign operator_or_else term factor factor_by_ident access_rest access_part ident mul_part add_part rel_part
if_else = refl

if_close : read_whole stmt_in 64 (ifs 64 (close_sign ∷ [])) ≡ Err (UnexpectedAt 192)
unfolding stmt_in inside statement labelled kind if_statement else_part expect number many_from expr sum sign operator_or_else term factor factor_by_ident access_rest access_part ident mul_part add_part rel_part
if_close = refl

-- 64 opening brackets end early; the number in them, or 70 of them, pass the levels
brackets_64 : read_whole stmt_in 64 (brackets 64 []) ≡ Err EndsInside
unfolding stmt_in inside statement labelled kind by_ident assign call expect number many_from expr sum sign operator_or_else term factor factor_by_ident access_rest access_part ident mul_part add_part rel_part
brackets_64 = refl

brackets_64_number : read_whole stmt_in 64 (brackets 64 (Number 1 ∷ [])) ≡ Err PassesLevels
unfolding stmt_in inside statement labelled kind by_ident assign call expect number many_from expr sum sign operator_or_else term factor factor_by_ident access_rest access_part ident mul_part add_part rel_part
brackets_64_number = refl

brackets_70 : read_whole stmt_in 64 (brackets 70 []) ≡ Err PassesLevels
unfolding stmt_in inside statement labelled kind by_ident assign call expect number many_from expr sum sign operator_or_else term factor factor_by_ident access_rest access_part ident mul_part add_part rel_part
brackets_70 = refl
