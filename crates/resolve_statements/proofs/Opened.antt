-- Records that are opened and closed again leave what stands around a statement.
use Rattle.std.proofs.Common.{◌≡◌, ◌≤◌, ◌<◌, ℕ, zero, suc, ◌+◌, List, [], ◌∷◌, ◌++◌, length, map, take, get_or, refl, ap, sym, ◌∙◌, arith}
use Rattle.std.proofs.lemmas.List.{map_more}
use Rattle.expression_rules.specs.declared.notes.OpenedRecord.{OpenedRecord}
use Rattle.resolve_expr.specs.declared.context.Context.{Context}
use Rattle.resolve_statements.specs.Forms.{AccessNode, context_with, context_opening, context_closed, hold_effect, hold_effects}

take_all : {A : Type 0} (xs : List A) → take (length xs) xs ≡ xs
take_all [] = refl
take_all (x ∷ xs) = ap (λ ys. x ∷ ys) (take_all xs)

take_within : {A : Type 0} (xs ys : List A) (n : ℕ) → n ≤ length xs → take n (xs ++ ys) ≡ take n xs
take_within [] [] zero within = refl
take_within [] (y ∷ ys) zero within = refl
take_within [] ys (suc n) within = absurd (omega (arith, within))
take_within (x ∷ xs) ys zero within = refl
take_within (x ∷ xs) ys (suc n) within = ap (λ zs. x ∷ zs) (take_within xs ys n (omega (arith, within)))

longer : {A : Type 0} (xs : List A) (x : A) (n : ℕ) → n ≤ length xs → n ≤ length (xs ++ x ∷ [])
longer [] x n within = omega (arith, within)
longer (y ∷ ys) x zero within = omega arith
longer (y ∷ ys) x (suc n) within = let less = longer ys x n (omega (arith, within)) in omega (arith, less)

closed_from : (c : Context) (records : List AccessNode) (n h : ℕ) → n ≤ length c.env.opened → context_closed (context_with c records) n h ≡ context_closed c n h
closed_from c [] n h within = refl
closed_from c (a ∷ others) n h within =
    closed_from (context_opening c (a c).typing) others n h (longer c.env.opened (record { typing = (a c).typing; hold = c.env.holds + 1 }) n within)
    ∙ ap (λ (o : List OpenedRecord). record c { env = record (c.env) { opened = o; holds = h } })
    (take_within c.env.opened (record { typing = (a c).typing; hold = c.env.holds + 1 } ∷ []) n within)

pub closed_with : (c : Context) (records : List AccessNode) → context_closed (context_with c records) (length c.env.opened) c.env.holds ≡ c
closed_with c records =
    closed_from c records (length c.env.opened) c.env.holds (omega arith)
    ∙ ap (λ (o : List OpenedRecord). record c { env = record (c.env) { opened = o; holds = c.env.holds } }) (take_all c.env.opened)

pub closed_again : (c d e : Context) (records : List AccessNode) (n : ℕ) → e ≡ context_closed d n c.env.holds → d ≡ context_with c records → n ≡ length c.env.opened → e ≡ c
closed_again c d e records n closed within count =
    closed ∙ (ap (λ (x : Context). context_closed x n c.env.holds) within
    ∙ (ap (λ k. context_closed (context_with c records) k c.env.holds) count ∙ closed_with c records))

-- one record more
pub with_snoc : (c : Context) (records : List AccessNode) (a : AccessNode) → context_with c (records ++ a ∷ []) ≡ context_opening (context_with c records) (a (context_with c records)).typing
with_snoc c [] a = refl
with_snoc c (x ∷ xs) a = with_snoc (context_opening c (x c).typing) xs a

pub holds_snoc : (c : Context) (records : List AccessNode) (a : AccessNode)
    → hold_effects c (records ++ a ∷ []) ≡ hold_effects c records ++ hold_effect (context_with c records) (a (context_with c records)) ∷ []
holds_snoc c [] a = refl
holds_snoc c (x ∷ xs) a = ap (λ es. hold_effect c (x c) ∷ es) (holds_snoc (context_opening c (x c).typing) xs a)

-- one turn of a loop over records
next_record : {A : Type 0} (f : A → AccessNode) (xs : List A) (i : ℕ) (x : A) → i < length xs → x ≡ get_or xs i x → map f (take (i + 1) xs) ≡ map f (take i xs) ++ f x ∷ []
next_record f xs i x inside is = map_more f xs i x inside ∙ ap (λ y. map f (take i xs) ++ f y ∷ []) (sym is)

pub with_turn : {A : Type 0} (c : Context) (f : A → AccessNode) (xs : List A) (i : ℕ) (x : A) → i < length xs → x ≡ get_or xs i x
    → context_with c (map f (take (i + 1) xs)) ≡ context_opening (context_with c (map f (take i xs))) (f x (context_with c (map f (take i xs)))).typing
with_turn c f xs i x inside is = ap (context_with c) (next_record f xs i x inside is) ∙ with_snoc c (map f (take i xs)) (f x)

pub holds_turn : {A : Type 0} (c : Context) (f : A → AccessNode) (xs : List A) (i : ℕ) (x : A) → i < length xs → x ≡ get_or xs i x
    → hold_effects c (map f (take (i + 1) xs)) ≡ hold_effects c (map f (take i xs)) ++ hold_effect (context_with c (map f (take i xs))) (f x (context_with c (map f (take i xs)))) ∷ []
holds_turn c f xs i x inside is = ap (hold_effects c) (next_record f xs i x inside is) ∙ holds_snoc c (map f (take i xs)) (f x)
