-- Forms, of which a grammar is made: the metalanguage of ISO 7185:1990, clause 3 (table 1), with the trees that it leaves
-- out. A form says in `full` which tokens spell a value, with a flag, and in `front`, by the same cases, which tokens
-- begin a spelling. The flag says of a statement that it is open: an `else` behind it would be its own.
use Rattle.std.specs.Prelude.{◌≡◌, ◌⊎◌, ℕ, Bool, false, List, [], ◌∷◌, ◌++◌, Option, Some}
use Rattle.dice_base.specs.declared.token.TokenKind.{TokenKind}
use Rattle.dice_base.specs.Tokens.{Toks, has_class, operator_of, ident_of, number_of, string_of}

pub record Form (A : Type 0) : Type 1 where
  pub full : A → Bool → Toks → Type 0
  pub front : Toks → Type 0

-- what no tokens spell: of a level too many none may stand
abbrev pub never : {A : Type 0} → Form A
never = record { full = λ a w u. ⊥; front = λ u. u ≡ [] }

-- no token, and this value
abbrev pub just : {A : Type 0} → A → Bool → Form A
just a w = record { full = λ b v u. (b ≡ a) × (v ≡ w) × (u ≡ []); front = λ u. u ≡ [] }

-- one token, by what it gives
abbrev pub one : {A : Type 0} → (TokenKind → Option A) → Form A
one f = record {
  full = λ a w u. (t : TokenKind) × (u ≡ t ∷ []) × (f t ≡ Some a) × (w ≡ false);
  front = λ u. (u ≡ []) ⊎ ((t : TokenKind) × (a : _) × (u ≡ t ∷ []) × (f t ≡ Some a));
}

-- one form after another, which may use its value and its flag
abbrev pub chain : {A B : Type 0} → Form A → (A → Bool → Form B) → Form B
chain {A} {B} g h = record {
  full = λ b v u. (a : A) × (w : Bool) × (x : Toks) × (y : Toks)
      × (u ≡ x ++ y) × g.full a w x × (h a w).full b v y;
  front = λ u. g.front u ⊎ ((a : A) × (w : Bool) × (x : Toks) × (y : Toks)
      × (u ≡ x ++ y) × g.full a w x × (h a w).front y);
}

-- a token of the class, and then the rest of the form
abbrev pub token : {A : Type 0} → ℕ → Form A → Form A
token c g = chain (one (has_class c)) (λ _ _. g)

-- an identifier, a number, a character string
abbrev pub named : Form (List ℕ)
named = one ident_of

abbrev pub numeral : Form ℕ
numeral = one number_of

abbrev pub quoted : Form (List ℕ)
quoted = one string_of

-- either form
abbrev pub either : {A : Type 0} → Form A → Form A → Form A
either g h = record {
  full = λ a w u. g.full a w u ⊎ h.full a w u;
  front = λ u. g.front u ⊎ h.front u;
}

-- an operator of the table, or nothing, which stands for this one
abbrev pub operator_or : {O : Type 0} → List (ℕ × O) → O → Form O
operator_or table o = either (one (operator_of table)) (just o false)

-- one item after another
abbrev pub row : {A : Type 0} → Form A → List A → Toks → Type 0
row g [] u = u ≡ []
row g (a ∷ as') u = (w : Bool) × (x : Toks) × (y : Toks) × (u ≡ x ++ y) × g.full a w x × row g as' y

-- as many items as there are, behind those that were found
abbrev pub rows_behind : {A : Type 0} → Form A → List A → Form (List A)
rows_behind {A} g found = record {
  full = λ xs w u. (more : List A) × (xs ≡ found ++ more) × row g more u × (w ≡ false);
  front = λ u. (more : List A) × (x : Toks) × (y : Toks)
      × (u ≡ x ++ y) × row g more x × (g.front y ⊎ (y ≡ []));
}

abbrev pub rows : {A : Type 0} → Form A → Form (List A)
rows g = rows_behind g []

-- one item or more
abbrev pub some_rows : {A : Type 0} → Form A → Form (List A)
some_rows g = chain g (λ x _. rows_behind g (x ∷ []))

-- one item or more, with a separator between
abbrev pub list_of : {A : Type 0} → ℕ → Form A → Form (List A)
list_of c g = chain g (λ x _. rows_behind (token c g) (x ∷ []))

-- the same, and the separator may stand behind the last too
abbrev pub ended_behind : {A : Type 0} → ℕ → Form A → List A → Form (List A)
ended_behind c g found =
    chain (rows_behind (token c g) found) (λ xs _. either (token c (just xs false)) (just xs false))

abbrev pub ended_list : {A : Type 0} → ℕ → Form A → Form (List A)
ended_list c g = chain g (λ x _. ended_behind c g (x ∷ []))
