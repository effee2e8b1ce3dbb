-- Readers. A reader takes the tokens that are left and answers a value, or why it stops, and the tokens that are then
-- left.
use Rattle.std.specs.Prelude.{◌≡◌, ℕ, zero, suc, Bool, true, false, if◌then◌else◌, List, [], ◌∷◌, ◌++◌, length, Option, Some, None, Result, Ok, Err, bytes_eq}
use Rattle.dice_base.specs.declared.token.TokenKind.{TokenKind}
use Rattle.dice_base.specs.Tokens.{Toks, Classes, class_at, is_in, has_class, operator_of, keys, ident_of, number_of, string_of}
use Rattle.token_reader.specs.declared.stop.Stop.{Stop}
use Rattle.token_reader.specs.declared.stop.Stop.TheVariants.{Memory, At, Deep}

abbrev pub Outcome : Type 0 → Type 0
Outcome A = Result A Stop × Toks

abbrev pub Parser : Type 0 → Type 0
Parser A = Toks → Outcome A

abbrev pub then_of : {A B : Type 0} → Result A Stop → Toks → (A → Parser B) → Outcome B
then_of (Ok a) r f = f a r
then_of (Err e) r f = (Err e, r)

infixl 10 ◌>>=◌
abbrev pub ◌>>=◌ : {A B : Type 0} → Parser A → (A → Parser B) → Parser B
p >>= f = λ ts. then_of (p ts).0 (p ts).1 f

-- the second line of a `do`, where it binds nothing
infixl 10 ◌>>◌
abbrev pub ◌>>◌ : {A B : Type 0} → Parser A → Parser B → Parser B
p >> q = p >>= (λ _. q)

abbrev pub pure : {A : Type 0} → A → Parser A
pure a = λ ts. (Ok a, ts)

abbrev pub refuse : {A : Type 0} → Parser A
refuse = λ ts. (Err At, ts)

-- where no level is left
abbrev pub deep : {A : Type 0} → Parser A
deep = λ ts. (Err Deep, ts)

-- ---- one token

abbrev pub one_of : {A : Type 0} → Option A → TokenKind → Toks → Outcome A
one_of (Some a) t ts = (Ok a, ts)
one_of None t ts = (Err At, t ∷ ts)

abbrev pub one : {A : Type 0} → (TokenKind → Option A) → Parser A
one f [] = (Err At, [])
one f (t ∷ ts) = one_of (f t) t ts

unfoldable pub expect : ℕ → Parser (Unit {0})
expect c = one (has_class c)

unfoldable pub ident : Parser (List ℕ)
ident = one ident_of

unfoldable pub number : Parser ℕ
number = one number_of

unfoldable pub string : Parser (List ℕ)
string = one string_of

-- ---- by the class of the next token, which is left to the first or to the second

abbrev pub by : {A : Type 0} → Classes → Parser A → Parser A → Parser A
by table p q = λ ts. if is_in table (class_at ts) then p ts else q ts

-- the same, where the first has the token taken: by one class
abbrev pub on : {A : Type 0} → ℕ → Parser A → Parser A → Parser A
on c p q = by (c ∷ []) (expect c >> p) q

-- an operator of the table, or nothing, which stands for this one
unfoldable pub operator_or_else : {O : Type 0} → List (ℕ × O) → O → Parser O
operator_or_else table o = by (keys table) (one (operator_of table)) (pure o)

-- ---- items, each of which begins with a token of the table

unfoldable pub many_from : {A : Type 0} → Classes → Parser A → ℕ → List A → Parser (List A)
many_from table item zero found = pure found
many_from table item (suc n) found = by table (item >>= (λ x. many_from table item n (found ++ x ∷ []))) (pure found)

abbrev pub many : {A : Type 0} → Classes → Parser A → List A → Parser (List A)
many table item found = λ ts. many_from table item (length ts) found ts

-- one or more
unfoldable pub some : {A : Type 0} → Classes → Parser A → Parser (List A)
some table item = item >>= (λ x. many table item (x ∷ []))

-- one or more, with a separator between
unfoldable pub separated : {A : Type 0} → ℕ → Parser A → Parser (List A)
separated c item = item >>= (λ x. many (c ∷ []) (expect c >> item) (x ∷ []))

-- one or more, with a separator between, which may stand behind the last too; an item begins with a token of the table
unfoldable pub ended_from : {A : Type 0} → ℕ → Classes → Parser A → ℕ → List A → Parser (List A)
ended_from c table item zero found = pure found
ended_from c table item (suc n) found =
    by (c ∷ []) (expect c >> by table (item >>= (λ x. ended_from c table item n (found ++ x ∷ []))) (pure found)) (pure found)

abbrev pub ended : {A : Type 0} → ℕ → Classes → Parser A → Parser (List A)
ended c table item = item >>= (λ x ts. ended_from c table item (length ts) (x ∷ []) ts)

abbrev pub on_ident : Option (List ℕ) → List ℕ → Bool
on_ident (Some x) text = bytes_eq x text
on_ident None text = false

-- the next token is this identifier
abbrev pub is_ident : List ℕ → Toks → Bool
is_ident text [] = false
is_ident text (t ∷ ts) = on_ident (ident_of t) text

-- ---- what a function that reads ensures: the reader's outcome, unless memory fails

abbrev pub Reads : {A : Type 0} → Outcome A → Result A Stop → Toks → Type 0
Reads outcome (Ok a) new = outcome ≡ (Ok a, new)
Reads outcome (Err Memory) new = Unit {0}
Reads outcome (Err At) new = outcome ≡ (Err At, new)
Reads outcome (Err Deep) new = outcome ≡ (Err Deep, new)

abbrev pub is_deep : {A : Type 0} → Result A Stop → Bool
is_deep (Ok a) = false
is_deep (Err Memory) = false
is_deep (Err At) = false
is_deep (Err Deep) = true
