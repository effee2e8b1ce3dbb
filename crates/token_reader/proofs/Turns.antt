-- A recursion on a count of turns, beside a loop that counts up; and a token by a table.
use Rattle.std.proofs.Common.{◌≡◌, ℕ, suc, ◌+◌, ◌-◌, ◌<◌, ◌≤◌, List, [], ◌∷◌, ◌++◌, Ok, Err, ap, arith, drop, refl}
use Rattle.std.specs.Prelude.{Some, None}
use Rattle.dice_base.specs.Tokens.{Toks, Classes, class_at, operator, operator_of}
use Rattle.token_reader.specs.declared.stop.Stop.TheVariants.{At}
use Rattle.token_reader.specs.Readers.{Parser, ◌>>=◌, ◌>>◌, pure, by, one, expect, many_from, ended_from}

pub deeper : {X : Type 0} (f : ℕ → X) (n : ℕ) → 0 < n → f n ≡ f (suc (n - 1))
deeper f n some = let e : n ≡ suc (n - 1) = omega arith in ap f e

pub many_step : {A : Type 0} (table : Classes) (p : Parser A) (n at : ℕ) (found : List A) (ts : Toks) → at < n →
    many_from table p (n - at) found ts ≡ by table (p >>= (λ x. many_from table p (n - (at + 1)) (found ++ x ∷ []))) (pure found) ts
unfolding many_from
many_step table p n at found ts below =
    let turn : n - at ≡ suc (n - (at + 1)) = omega arith in ap (λ k. many_from table p k found ts) turn

pub many_stop : {A : Type 0} (table : Classes) (p : Parser A) (n at : ℕ) (found : List A) (ts : Toks) → n ≤ at →
    many_from table p (n - at) found ts ≡ (Ok found, ts)
unfolding many_from
many_stop table p n at found ts done =
    let none : n - at ≡ 0 = omega arith in ap (λ k. many_from table p k found ts) none

pub table_some : {O : Type 0} (table : List (ℕ × O)) (ts : Toks) (o : O) → operator table 11 ≡ None → operator table (class_at ts) ≡ Some o → one (operator_of table) ts ≡ (Ok o, drop 1 ts)
table_some table [] o none e = absurd cc
table_some table (t ∷ ts) o none e = rw e refl

pub table_none : {O : Type 0} (table : List (ℕ × O)) (ts : Toks) → operator table (class_at ts) ≡ None → one (operator_of table) ts ≡ (Err At, ts)
table_none table [] e = refl
table_none table (t ∷ ts) e = rw e refl

pub ended_step : {A : Type 0} (c : ℕ) (table : Classes) (p : Parser A) (n at : ℕ) (found : List A) (ts : Toks) → at < n →
    ended_from c table p (n - at) found ts ≡ by (c ∷ []) (expect c >> by table (p >>= (λ x. ended_from c table p (n - (at + 1)) (found ++ x ∷ []))) (pure found)) (pure found) ts
unfolding ended_from
ended_step c table p n at found ts below =
    let turn : n - at ≡ suc (n - (at + 1)) = omega arith in ap (λ k. ended_from c table p k found ts) turn

pub ended_stop : {A : Type 0} (c : ℕ) (table : Classes) (p : Parser A) (n at : ℕ) (found : List A) (ts : Toks) → n ≤ at →
    ended_from c table p (n - at) found ts ≡ (Ok found, ts)
unfolding ended_from
ended_stop c table p n at found ts done =
    let none : n - at ≡ 0 = omega arith in ap (λ k. ended_from c table p k found ts) none
