-- Notes of arguments that are read and written, one longer.
use Rattle.std.proofs.Common.{◌≡◌, ℕ, ◌+◌, ◌<◌, List, [], ◌∷◌, ◌++◌, length, map, take, get_or, refl, ap, sym, ◌∙◌}
use Rattle.std.proofs.lemmas.List.{map_more}
use Rattle.expression_rules.specs.declared.notes.Notes.{Notes}
use Rattle.expression_rules.specs.Values.{Argument, notes_of_both}
use Rattle.check_rules.specs.Typing.{Table}
use Rattle.check_expr.proofs.Chains.{both_assoc, both_none}
use Rattle.check_body.specs.StatementRules.{read_all, write_all, write_one}
use Rattle.check_body.specs.Steps.{read_argument}

read_snoc : (tys : Table) (args : List Argument) (a : Argument) → read_all tys (args ++ a ∷ []) ≡ notes_of_both (read_all tys args) (read_argument tys a)
read_snoc tys [] a = both_none (read_argument tys a)
read_snoc tys (b ∷ args) a = ap (notes_of_both (read_argument tys b)) (read_snoc tys args a) ∙ sym (both_assoc (read_argument tys b) (read_all tys args) (read_argument tys a))

write_snoc : (tys : Table) (args : List Argument) (a : Argument) → write_all tys (args ++ a ∷ []) ≡ notes_of_both (write_all tys args) (write_one tys a)
write_snoc tys [] a = both_none (write_one tys a)
write_snoc tys (b ∷ args) a = ap (notes_of_both (write_one tys b)) (write_snoc tys args a) ∙ sym (both_assoc (write_one tys b) (write_all tys args) (write_one tys a))

pub next_of : {A B : Type 0} (f : A → B) (xs : List A) (i : ℕ) (x : A) → i < length xs → x ≡ get_or xs i x → map f (take (i + 1) xs) ≡ map f (take i xs) ++ f x ∷ []
next_of f xs i x inside is = map_more f xs i x inside ∙ ap (λ y. map f (take i xs) ++ f y ∷ []) (sym is)

same_both : (m n a b : Notes) → m ≡ a → n ≡ b → notes_of_both m n ≡ notes_of_both a b
same_both m n a b first second = ap (λ z. notes_of_both z n) first ∙ ap (notes_of_both a) second

pub read_turn : {A : Type 0} (tys : Table) (f : A → Argument) (xs : List A) (i : ℕ) (x : A) (n more m : Notes) → i < length xs → x ≡ get_or xs i x
    → n ≡ read_all tys (map f (take i xs)) → more ≡ read_argument tys (f x) → m ≡ notes_of_both n more → m ≡ read_all tys (map f (take (i + 1) xs))
read_turn tys f xs i x n more m inside is before one both =
    both ∙ (same_both n more (read_all tys (map f (take i xs))) (read_argument tys (f x)) before one
    ∙ sym (ap (read_all tys) (next_of f xs i x inside is) ∙ read_snoc tys (map f (take i xs)) (f x)))

pub write_turn : {A : Type 0} (tys : Table) (f : A → Argument) (xs : List A) (i : ℕ) (x : A) (n more m : Notes) → i < length xs → x ≡ get_or xs i x
    → n ≡ write_all tys (map f (take i xs)) → more ≡ write_one tys (f x) → m ≡ notes_of_both n more → m ≡ write_all tys (map f (take (i + 1) xs))
write_turn tys f xs i x n more m inside is before one both =
    both ∙ (same_both n more (write_all tys (map f (take i xs))) (write_one tys (f x)) before one
    ∙ sym (ap (write_all tys) (next_of f xs i x inside is) ∙ write_snoc tys (map f (take i xs)) (f x)))
