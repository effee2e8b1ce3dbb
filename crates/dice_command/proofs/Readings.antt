-- Texts as what a result says of them.
use Rattle.std.proofs.Common.{◌≡◌, ◌≤◌, ◌<◌, ℕ, Result, Ok, Err, inl, inr}
use Rattle.std.proofs.lemmas.Bool.{cases_lt}
use Rattle.pascal_scanner.specs.declared.limits.TheConstants.{MAX_TEXT_BYTES}

pub not-long : (n : ℕ) → (MAX_TEXT_BYTES < n → ⊥) → n ≤ MAX_TEXT_BYTES
not-long n short = elim (cases_lt MAX_TEXT_BYTES n) [ inl long ↦ absurd (short long) | inr le ↦ le ]

abbrev pub ok_of : (T E : Type 0) → T → Result T E
ok_of T E x = Ok x

abbrev pub err_of : (T E : Type 0) → E → Result T E
err_of T E e = Err e

pub ok-err : {T E : Type 0} {x : T} {e : E} → ok_of T E x ≡ err_of T E e → ⊥
ok-err is = absurd cc
