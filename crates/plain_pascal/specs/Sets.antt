-- Sets of ordinals from 0 to 127, as eight words (ISO 7185:1990, 6.7.2.4): ordinal o is bit o mod 16 of word o div 16.
use Rattle.std.specs.Prelude.{ℕ, zero, suc, ◌+◌, ◌-◌, ◌/◌, ◌%◌, ◌^◌, ℤ, pos, negsuc, Bool, true, false, not, ◌&&◌, nat_lt, ◌==◌, if◌then◌else◌, List, [], ◌∷◌, replicate, slice_index, slice_set, bit_and, bit_or}
use Rattle.core_tree.specs.declared.op.Relation.{Relation}
use Rattle.core_tree.specs.declared.op.Relation.TheVariants.{Equal, NotEqual, LessEqual, GreaterEqual}
use Rattle.plain_pascal.specs.State.{Members}
use Rattle.plain_pascal.specs.Integers.{Result, Gives, Fails}

abbrev pub no_members : List ℕ
no_members = replicate 8 0

abbrev pub has : List ℕ → ℕ → Bool
has ws o = not (bit_and (slice_index ws (o / 16)) (2 ^ (o % 16)) == 0)

abbrev pub with_member : List ℕ → ℕ → List ℕ
with_member ws o = slice_set ws (o / 16) (bit_or (slice_index ws (o / 16)) (2 ^ (o % 16)))

-- so many members from one on
abbrev pub with_members : List ℕ → ℕ → ℕ → List ℕ
with_members ws zero o = ws
with_members ws (suc n) o = with_members (with_member ws o) n (o + 1)

abbrev pub contains : List ℕ → ℤ → Bool
contains ws (pos o) = nat_lt o 128 && has ws o
contains ws (negsuc n) = false

abbrev pub zip_words : (ℕ → ℕ → ℕ) → List ℕ → List ℕ → List ℕ
zip_words f [] vs = []
zip_words f (u ∷ us) [] = []
zip_words f (u ∷ us) (v ∷ vs) = f u v ∷ zip_words f us vs

abbrev pub union_of : List ℕ → List ℕ → List ℕ
union_of us vs = zip_words bit_or us vs

abbrev pub intersection_of : List ℕ → List ℕ → List ℕ
intersection_of us vs = zip_words bit_and us vs

abbrev pub difference_of : List ℕ → List ℕ → List ℕ
difference_of us vs = zip_words (λ u v. u - bit_and u v) us vs

abbrev pub all_zero : List ℕ → Bool
all_zero [] = true
all_zero (w ∷ ws) = (w == 0) && all_zero ws

abbrev pub is_subset : List ℕ → List ℕ → Bool
is_subset us vs = all_zero (difference_of us vs)

abbrev pub compared_sets : Relation → List ℕ → List ℕ → Bool
compared_sets Equal us vs = is_subset us vs && is_subset vs us
compared_sets NotEqual us vs = not (is_subset us vs && is_subset vs us)
compared_sets LessEqual us vs = is_subset us vs
compared_sets GreaterEqual us vs = is_subset vs us
compared_sets _ us vs = false

-- a member outside 0 to 127 is run-time error 14
abbrev pub included : List ℕ → ℤ → Result
included ws (pos o) = if nat_lt o 128 then Gives (Members (with_member ws o)) else Fails 14
included ws (negsuc n) = Fails 14

abbrev pub range_included : List ℕ → ℤ → ℤ → Result
range_included ws (pos a) (pos b) = if nat_lt b a then Gives (Members ws) else (if nat_lt b 128 then Gives (Members (with_members ws (b + 1 - a) a)) else Fails 14)
range_included ws (pos a) (negsuc m) = Gives (Members ws)
range_included ws (negsuc n) (pos b) = Fails 14
range_included ws (negsuc n) (negsuc m) = if nat_lt n m then Gives (Members ws) else Fails 14

-- the members of a set variable lie in its base
abbrev pub members_within : ℕ → ℕ → List ℕ → Bool
members_within first last ws = is_subset ws (with_members no_members (last + 1 - first) first)
