-- A reader with one level more: it answers the same where the first is not too deep, and else it gets at least as far.
use Rattle.std.specs.Prelude.{◌≡◌, ℕ, suc, ◌≤◌, true, false, [], ◌∷◌, length, Option, Some, None, Result, Ok, Err}
use Rattle.std.proofs.Common.{refl, sym, ◌∙◌, arith, inl, inr}
use Rattle.std.proofs.lemmas.Bool.{cases_Bool}
use Rattle.dice_base.specs.declared.token.TokenKind.{TokenKind}
use Rattle.token_reader.specs.declared.stop.Stop.{Stop}
use Rattle.token_reader.specs.declared.stop.Stop.TheVariants.{Memory, At, Deep}
use Rattle.dice_base.specs.Tokens.{Toks, Classes, class_at, is_in}
use Rattle.token_reader.specs.Readers.{Outcome, Parser, then_of, ◌>>=◌, deep, one, one_of, by, is_deep}
use Rattle.token_reader.proofs.Laws.{Local, local_le}

-- it is too deep only behind a token
abbrev pub Slow : {A : Type 0} → Parser A → Type 0
Slow p = (ts : Toks) → is_deep (p ts).0 ≡ true → suc (length (p ts).1) ≤ length ts

-- at most so many tokens are left, and fewer where it is too deep
pub record Past {A : Type 0} (o : Outcome A) (n : ℕ) : Type 0 where
  pub far : length o.1 ≤ n
  pub farther : is_deep o.0 ≡ true → suc (length o.1) ≤ n

pub record Steady {A : Type 0} (p q : Parser A) : Type 0 where
  pub stable : (ts : Toks) → is_deep (p ts).0 ≡ false → q ts ≡ p ts
  pub later : (ts : Toks) → is_deep (p ts).0 ≡ true → Past (q ts) (length (p ts).1)

-- a reader that is never too deep
pub even_steady : {A : Type 0} (p : Parser A) → ((ts : Toks) → is_deep (p ts).0 ≡ false) → Steady p p
even_steady p even = record { stable = λ ts e. refl; later = λ ts e. (let no : true ≡ false = sym e ∙ even ts in absurd cc) }

pub even_slow : {A : Type 0} (p : Parser A) → ((ts : Toks) → is_deep (p ts).0 ≡ false) → Slow p
even_slow p even ts e = let no : true ≡ false = sym e ∙ even ts in absurd cc

pub one_even : {A : Type 0} (f : TokenKind → Option A) (ts : Toks) → is_deep (one f ts).0 ≡ false
one_even f [] = refl
one_even {A} f (t ∷ ts) = go (f t) where
  go : (o : Option A) → is_deep (one_of o t ts).0 ≡ false
  go None = refl
  go (Some a) = refl

-- no level, and one level
pub deep_steady : {A : Type 0} (q : Parser A) → Local q → Slow q → Steady (deep {A = A}) q
deep_steady q q_local slow = record {
  stable = λ ts e. (let no : true ≡ false = e in absurd cc);
  later = λ ts e. record { far = local_le q q_local ts; farther = λ d. slow ts d };
}

module _ {A B : Type 0} (p q : Parser A) (k l : A → Parser B) (l_local : (a : A) → Local (l a)) where
  module _ (first : Steady p q) (rest : (a : A) → Steady (k a) (l a)) (slow : (a : A) → Slow (l a)) where
    chain_stable : (ts : Toks) → is_deep ((p >>= k) ts).0 ≡ false → (q >>= l) ts ≡ (p >>= k) ts
    chain_stable ts e = go (p ts).0 refl e where
      go : (x : Result A Stop) → (p ts).0 ≡ x → is_deep (then_of x (p ts).1 k).0 ≡ false → then_of (q ts).0 (q ts).1 l ≡ then_of x (p ts).1 k
      go (Ok a) is e = rw (first.stable ts (rw is refl), is) ((rest a).stable (p ts).1 e)
      go (Err s) is e = rw (first.stable ts (rw is (same s e)), is) refl where
        same : (s : Stop) → is_deep {A = B} (Err s) ≡ false → is_deep {A = A} (Err s) ≡ false
        same Memory e = refl
        same At e = refl
        same Deep e = e

    chain_later : (ts : Toks) → is_deep ((p >>= k) ts).0 ≡ true → Past ((q >>= l) ts) (length ((p >>= k) ts).1)
    chain_later ts e = go (p ts).0 refl e where
      go : (x : Result A Stop) → (p ts).0 ≡ x → is_deep (then_of x (p ts).1 k).0 ≡ true → Past (then_of (q ts).0 (q ts).1 l) (length (then_of x (p ts).1 k).1)
      go (Ok a) is e = rw (first.stable ts (rw is refl), is) ((rest a).later (p ts).1 e)
      go (Err s) is e = on_q (q ts).0 refl (first.later ts (rw is (same s e))) where
        same : (s : Stop) → is_deep {A = B} (Err s) ≡ true → is_deep {A = A} (Err s) ≡ true
        same Memory e = e
        same At e = e
        same Deep e = refl

        on_q : (y : Result A Stop) → (q ts).0 ≡ y → Past (q ts) (length (p ts).1) → Past (then_of y (q ts).1 l) (length (p ts).1)
        on_q (Ok a) is m = record {
          far = omega (arith, m.far, local_le (l a) (l_local a) (q ts).1);
          farther = λ d. omega (arith, m.far, slow a (q ts).1 d);
        }
        on_q (Err s) is m = record { far = m.far; farther = λ d. m.farther (rw is (back s d)) } where
          back : (s : Stop) → is_deep {A = B} (Err s) ≡ true → is_deep {A = A} (Err s) ≡ true
          back Memory e = e
          back At e = e
          back Deep e = refl

    pub chain_steady : Steady (p >>= k) (q >>= l)
    chain_steady = record { stable = chain_stable; later = chain_later }

-- the first is never too deep
pub even_chain : {A B : Type 0} (p : Parser A) → ((ts : Toks) → is_deep (p ts).0 ≡ false) → (k l : A → Parser B) → ((a : A) → Steady (k a) (l a)) → Steady (p >>= k) (p >>= l)
even_chain {A} {B} p even k l rest = record { stable = λ ts e. same (p ts).0 (p ts).1 e; later = λ ts e. more (p ts).0 (p ts).1 (even ts) e } where
  same : (x : Result A Stop) (r : Toks) → is_deep (then_of x r k).0 ≡ false → then_of x r l ≡ then_of x r k
  same (Ok a) r e = (rest a).stable r e
  same (Err s) r e = refl

  more : (x : Result A Stop) (r : Toks) → is_deep x ≡ false → is_deep (then_of x r k).0 ≡ true → Past (then_of x r l) (length (then_of x r k).1)
  more (Ok a) r no' e = (rest a).later r e
  more (Err Deep) r no' e = absurd cc
  more (Err At) r no' e = absurd cc
  more (Err Memory) r no' e = absurd cc

module _ {A B : Type 0} (p : Parser A) (k : A → Parser B) (p_local : Local p) (slow : (a : A) → Slow (k a)) where
  pub chain_slow : Slow p → Slow (p >>= k)
  chain_slow p_slow ts e = go (p ts).0 refl e where
    go : (x : Result A Stop) → (p ts).0 ≡ x → is_deep (then_of x (p ts).1 k).0 ≡ true → suc (length (then_of x (p ts).1 k).1) ≤ length ts
    go (Ok a) is e = omega (arith, slow a (p ts).1 e, local_le p p_local ts)
    go (Err s) is e = p_slow ts (rw is (same s e)) where
      same : (s : Stop) → is_deep {A = B} (Err s) ≡ true → is_deep {A = A} (Err s) ≡ true
      same Memory e = e
      same At e = e
      same Deep e = refl

-- a token and then anything
module _ {A B : Type 0} (f : TokenKind → Option A) (k : A → Parser B) (k_local : (a : A) → Local (k a)) where
  pub token_slow : Slow (one f >>= k)
  token_slow [] e = absurd cc
  token_slow (t ∷ ts) e = go (f t) refl e where
    go : (o : Option A) → f t ≡ o → is_deep (then_of (one_of o t ts).0 (one_of o t ts).1 k).0 ≡ true → suc (length (then_of (one_of o t ts).0 (one_of o t ts).1 k).1) ≤ suc (length ts)
    go None is e = absurd cc
    go (Some a) is e = omega (arith, local_le (k a) (k_local a) ts)

module _ {A : Type 0} (table : Classes) where
  pub by_steady : (p q p' q' : Parser A) → Steady p p' → Steady q q' → Steady (by table p q) (by table p' q')
  by_steady p q p' q' one other = record {
    stable = λ ts e. elim (cases_Bool (is_in table (class_at ts))) [
      | inl is ↦ rw is (one.stable ts (rw is at e))
      | inr isnt ↦ rw isnt (other.stable ts (rw isnt at e))
    ];
    later = λ ts e. elim (cases_Bool (is_in table (class_at ts))) [
      | inl is ↦ rw is (one.later ts (rw is at e))
      | inr isnt ↦ rw isnt (other.later ts (rw isnt at e))
    ];
  }

  pub by_slow : (p q : Parser A) → Slow p → Slow q → Slow (by table p q)
  by_slow p q one other ts e =
      elim (cases_Bool (is_in table (class_at ts))) [
        | inl is ↦ rw is (one ts (rw is at e))
        | inr isnt ↦ rw isnt (other ts (rw isnt at e))
      ]
