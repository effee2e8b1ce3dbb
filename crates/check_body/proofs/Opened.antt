-- Records that are opened and closed again leave what stands around a statement.
use Rattle.std.proofs.Common.{◌≡◌, ◌≤◌, ◌<◌, ℕ, zero, suc, ◌+◌, List, [], ◌∷◌, ◌++◌, length, map, take, get_or, refl, ap, sym, ◌∙◌, arith}
use Rattle.expression_rules.specs.declared.notes.OpenedRecord.{OpenedRecord}
use Rattle.expression_rules.specs.declared.notes.Notes.{Notes}
use Rattle.expression_rules.specs.declared.notes.Env.{Env}
use Rattle.expression_rules.specs.Values.{notes_of_both}
use Rattle.check_expr.proofs.Chains.{both_assoc, both_none}
use Rattle.check_body.specs.StatementRules.{AccessJudge, env_with, env_with_all, with_notes, record_notes}
use Rattle.check_body.specs.Steps.{env_opening, env_closed}
use Rattle.check_body.proofs.Chains.{next_of}

take_all : {A : Type 0} (xs : List A) → take (length xs) xs ≡ xs
take_all [] = refl
take_all (x ∷ xs) = ap (λ ys. x ∷ ys) (take_all xs)

take_within : {A : Type 0} (xs ys : List A) (n : ℕ) → n ≤ length xs → take n (xs ++ ys) ≡ take n xs
take_within [] [] zero within = refl
take_within [] (y ∷ ys) zero within = refl
take_within [] ys (suc n) within = absurd (omega (arith, within))
take_within (x ∷ xs) ys zero within = refl
take_within (x ∷ xs) ys (suc n) within = ap (λ zs. x ∷ zs) (take_within xs ys n (omega (arith, within)))

longer : {A : Type 0} (xs : List A) (x : A) (n : ℕ) → n ≤ length xs → n ≤ length (xs ++ x ∷ [])
longer [] x n within = omega (arith, within)
longer (y ∷ ys) x zero within = omega arith
longer (y ∷ ys) x (suc n) within = let less = longer ys x n (omega (arith, within)) in omega (arith, less)

closed_from : (env : Env) (records : List AccessJudge) (n h : ℕ) → n ≤ length env.opened → env_closed (env_with_all env records) n h ≡ env_closed env n h
closed_from env [] n h within = refl
closed_from env (a ∷ others) n h within =
    closed_from (env_with env (a env)) others n h (longer env.opened (record { typing = (a env).place.typing; hold = env.holds + 1 }) n within)
    ∙ ap (λ (o : List OpenedRecord). record env { opened = o; holds = h })
    (take_within env.opened (record { typing = (a env).place.typing; hold = env.holds + 1 } ∷ []) n within)

pub closed_with : (env : Env) (records : List AccessJudge) → env_closed (env_with_all env records) (length env.opened) env.holds ≡ env
closed_with env records =
    closed_from env records (length env.opened) env.holds (omega arith)
    ∙ ap (λ (o : List OpenedRecord). record env { opened = o }) (take_all env.opened)

-- one record more
with_snoc : (env : Env) (records : List AccessJudge) (a : AccessJudge) → env_with_all env (records ++ a ∷ []) ≡ env_opening (env_with_all env records) (a (env_with_all env records)).place.typing
with_snoc env [] a = refl
with_snoc env (x ∷ xs) a = with_snoc (env_with env (x env)) xs a

notes_snoc : (env : Env) (records : List AccessJudge) (a : AccessJudge)
    → with_notes env (records ++ a ∷ []) ≡ notes_of_both (with_notes env records) (record_notes (env_with_all env records) (a (env_with_all env records)))
notes_snoc env [] a = both_none (record_notes env (a env))
notes_snoc env (x ∷ xs) a =
    let inner = env_with env (x env) in
    ap (notes_of_both (record_notes env (x env))) (notes_snoc inner xs a)
    ∙ sym (both_assoc (record_notes env (x env)) (with_notes inner xs) (record_notes (env_with_all inner xs) (a (env_with_all inner xs))))

-- one turn of a loop over records
pub with_turn : {A : Type 0} (env : Env) (f : A → AccessJudge) (xs : List A) (i : ℕ) (x : A) → i < length xs → x ≡ get_or xs i x
    → env_with_all env (map f (take (i + 1) xs)) ≡ env_opening (env_with_all env (map f (take i xs))) (f x (env_with_all env (map f (take i xs)))).place.typing
with_turn env f xs i x inside is = ap (env_with_all env) (next_of f xs i x inside is) ∙ with_snoc env (map f (take i xs)) (f x)

pub notes_turn : {A : Type 0} (env : Env) (f : A → AccessJudge) (xs : List A) (i : ℕ) (x : A) → i < length xs → x ≡ get_or xs i x
    → with_notes env (map f (take (i + 1) xs)) ≡ notes_of_both (with_notes env (map f (take i xs))) (record_notes (env_with_all env (map f (take i xs))) (f x (env_with_all env (map f (take i xs)))))
notes_turn env f xs i x inside is = ap (with_notes env) (next_of f xs i x inside is) ∙ notes_snoc env (map f (take i xs)) (f x)
