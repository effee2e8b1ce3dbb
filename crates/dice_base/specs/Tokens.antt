-- Classes of tokens: a number for each word symbol, for each sign, and for each other kind; and tables of classes.
use Rattle.std.specs.Prelude.{ℕ, ◌+◌, ◌*◌, Bool, true, false, if◌then◌else◌, ◌==◌, List, [], ◌∷◌, Option, Some, None}
use Rattle.dice_base.specs.declared.token.TokenKind.{TokenKind}
use Rattle.dice_base.specs.declared.token.TokenKind.TheVariants.{Word, Ident, Number, Str, Sign, Hole}

-- the tokens of a text
abbrev pub Toks : Type 0
Toks = List TokenKind

-- each word symbol and each sign is a class; identifiers are one, numbers one, and strings one
abbrev pub class_of : TokenKind → ℕ
class_of (Word k) = 6 * k
class_of (Ident x) = 1
class_of (Number n) = 2
class_of (Str x) = 3
class_of (Sign k) = 6 * k + 4
class_of Hole = 5

-- the class of the end, where no token is left
abbrev pub end_of_tokens : ℕ
end_of_tokens = 11

-- the class of the next token
abbrev pub class_at : Toks → ℕ
class_at [] = end_of_tokens
class_at (t ∷ ts) = class_of t

-- ---- tables of classes, and of classes with what they stand for

abbrev pub Classes : Type 0
Classes = List ℕ

abbrev pub is_in : Classes → ℕ → Bool
is_in [] c = false
is_in (k ∷ ks) c = if c == k then true else is_in ks c

-- the operator of a class
abbrev pub operator : {O : Type 0} → List (ℕ × O) → ℕ → Option O
operator [] c = None
operator (e ∷ table) c = if c == e.0 then Some e.1 else operator table c

-- the classes that have one
abbrev pub keys : {O : Type 0} → List (ℕ × O) → Classes
keys [] = []
keys (e ∷ table) = e.0 ∷ keys table

-- ---- what one token gives: that it has the class, its operator, its identifier, its number, its characters

abbrev pub has_class : ℕ → TokenKind → Option (Unit {0})
has_class c t = if class_of t == c then Some tt else None

abbrev pub operator_of : {O : Type 0} → List (ℕ × O) → TokenKind → Option O
operator_of table t = operator table (class_of t)

abbrev pub ident_of : TokenKind → Option (List ℕ)
ident_of (Ident x) = Some x
ident_of _ = None

abbrev pub number_of : TokenKind → Option ℕ
number_of (Number n) = Some n
number_of _ = None

abbrev pub string_of : TokenKind → Option (List ℕ)
string_of (Str x) = Some x
string_of _ = None
