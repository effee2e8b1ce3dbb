-- Operations that give a set give eight words of 16 bits.
use Rattle.std.proofs.Common.{◌≡◌, ℕ, zero, suc, ◌+◌, ◌-◌, ◌/◌, ◌%◌, ◌^◌, ◌<◌, ◌≤◌, Bool, true, false, List, [], ◌∷◌, length, refl, sym, ap, ◌∙◌, arith}
use Rattle.std.specs.Prelude.{ℤ, pos, negsuc, if◌then◌else◌, nat_lt, slice_set, slice_index, bit_and, bit_or}
use Rattle.std.specs.List.{AllByRecursion}
use Rattle.std.proofs.Math.Pow.{pow-lt}
use Rattle.std.proofs.lemmas.Nat.{or_of_16, and_le_l}
use Rattle.plain_pascal.specs.Program.{SetKind}
use Rattle.plain_pascal.specs.State.{Members, Activation}
use Rattle.plain_pascal.specs.Integers.{Gives, Fails}
use Rattle.plain_pascal.specs.Sets.{no_members, with_member, with_members, zip_words, union_of, difference_of, intersection_of, included, range_included}
use Rattle.plain_pascal.specs.Valid.{IsWord}
use Rattle.plain_pascal.proofs.Sound.{GivesOf, index_word}

-- eight words of 16 bits
abbrev pub IsSet : List ℕ → Type 0
IsSet ws = (length ws ≡ 8) × AllByRecursion IsWord ws

small_power : (k : ℕ) → k < 16 → 2 ^ k < 65536
small_power k h = pow-lt h

pub set_words : (xs : List ℕ) (i w : ℕ) → AllByRecursion IsWord xs → IsWord w → AllByRecursion IsWord (slice_set xs i w)
set_words [] i w h e = tt
set_words (x ∷ xs) zero w h e = (e, h.1)
set_words (x ∷ xs) (suc i) w h e = (h.0, set_words xs i w h.1 e)

pub set_long : (xs : List ℕ) (i w : ℕ) → length (slice_set xs i w) ≡ length xs
set_long [] i w = refl
set_long (x ∷ xs) zero w = refl
set_long (x ∷ xs) (suc i) w = ap suc (set_long xs i w)

member_set : (ws : List ℕ) (o : ℕ) → IsSet ws → IsSet (with_member ws o)
member_set ws o h =
    let power : 2 ^ (o % 16) < 65536 = small_power (o % 16) (omega arith) in
    let word : slice_index ws (o / 16) < 65536 = index_word ws (o / 16) h.1 in
    (set_long ws (o / 16) (bit_or (slice_index ws (o / 16)) (2 ^ (o % 16))) ∙ h.0, set_words ws (o / 16) (bit_or (slice_index ws (o / 16)) (2 ^ (o % 16))) h.1 (or_of_16 (slice_index ws (o / 16)) (2 ^ (o % 16)) word power))

members_set : (ws : List ℕ) (n o : ℕ) → IsSet ws → IsSet (with_members ws n o)
members_set ws zero o h = h
members_set ws (suc n) o h = members_set (with_member ws o) n (o + 1) (member_set ws o h)

zip_set : (f : ℕ → ℕ → ℕ) → ((a b : ℕ) → IsWord a → IsWord b → IsWord (f a b)) → (us vs : List ℕ) → length us ≡ length vs → AllByRecursion IsWord us → AllByRecursion IsWord vs → (length (zip_words f us vs) ≡ length us) × AllByRecursion IsWord (zip_words f us vs)
zip_set f word [] vs e h k = (refl, tt)
zip_set f word (u ∷ us) [] e h k = absurd (omega (arith, e))
zip_set f word (u ∷ us) (v ∷ vs) e h k =
    let (long, all) = zip_set f word us vs (omega (arith, e)) h.1 k.1 in
    (ap suc long, (word u v h.0 k.0, all))

pub union_set : (us vs : List ℕ) → IsSet us → IsSet vs → IsSet (union_of us vs)
union_set us vs h k = let (long, all) = zip_set bit_or or_of_16 us vs (h.0 ∙ sym k.0) h.1 k.1 in (long ∙ h.0, all)

and_word : (a b : ℕ) → IsWord a → IsWord b → IsWord (bit_and a b)
and_word a b h k = let le : bit_and a b ≤ a = and_le_l a b in omega (arith, le, h)

less_word : (a b : ℕ) → IsWord a → IsWord b → IsWord (a - bit_and a b)
less_word a b h k = omega (arith, h)

pub intersection_set : (us vs : List ℕ) → IsSet us → IsSet vs → IsSet (intersection_of us vs)
intersection_set us vs h k = let (long, all) = zip_set bit_and and_word us vs (h.0 ∙ sym k.0) h.1 k.1 in (long ∙ h.0, all)

pub difference_set : (us vs : List ℕ) → IsSet us → IsSet vs → IsSet (difference_of us vs)
difference_set us vs h k = let (long, all) = zip_set (λ u v. u - bit_and u v) less_word us vs (h.0 ∙ sym k.0) h.1 k.1 in (long ∙ h.0, all)

zero_words : (n : ℕ) → AllByRecursion IsWord (0 ∷ 0 ∷ 0 ∷ 0 ∷ 0 ∷ 0 ∷ 0 ∷ 0 ∷ [])
zero_words n = (omega arith, (omega arith, (omega arith, (omega arith, (omega arith, (omega arith, (omega arith, (omega arith, tt))))))))

pub empty_set : IsSet no_members
empty_set = (refl, zero_words 0)

module _ (acts : List Activation) (newest : ℕ) where
  pub included_set : (ws : List ℕ) (z : ℤ) → IsSet ws → GivesOf acts newest SetKind (included ws z)
  included_set ws (negsuc n) h = tt
  included_set ws (pos o) h = by (nat_lt o 128)
    where
      by : (b : Bool) → GivesOf acts newest SetKind (if b then Gives (Members (with_member ws o)) else Fails 14)
      by true = member_set ws o h
      by false = tt

  pub range_set : (ws : List ℕ) (a b : ℤ) → IsSet ws → GivesOf acts newest SetKind (range_included ws a b)
  range_set ws (pos a) (negsuc m) h = h
  range_set ws (negsuc n) (pos b) h = tt
  range_set ws (negsuc n) (negsuc m) h = by (nat_lt n m)
    where
      by : (x : Bool) → GivesOf acts newest SetKind (if x then Gives (Members ws) else Fails 14)
      by true = h
      by false = tt
  range_set ws (pos a) (pos b) h = by (nat_lt b a) (nat_lt b 128)
    where
      by : (x y : Bool) → GivesOf acts newest SetKind (if x then Gives (Members ws) else (if y then Gives (Members (with_members ws (b + 1 - a) a)) else Fails 14))
      by true y = h
      by false true = members_set ws (b + 1 - a) a h
      by false false = tt
