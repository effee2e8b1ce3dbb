-- What is kept of a line while it is read.
use Rattle.std.proofs.Common.{◌≡◌, ◌≢◌, ◌==◌, ◌≤◌, ◌<◌, ℕ, ◌+◌, ◌-◌, true, false, if◌then◌else◌, List, [], ◌∷◌, ◌++◌, length, length-append, take, slice_index, refl, sym, ap, subst, ◌∙◌, arith, inl, inr, take_all}
use Rattle.std.proofs.lemmas.List.{take-take, length-take, take-append-le}
use Rattle.std.proofs.lemmas.Bool.{cases_lt}
use Rattle.std.specs.declared.option.Option.{Option}
use Rattle.std.specs.Io.KnownBytes.{Consumes}
use Rattle.dice_base.specs.Known.{Consumes-trans}
use Rattle.dice_base.specs.Lines.{NoFeed}
use Rattle.dice_base.specs.LinesLaws.{NoFeed-push}
use Rattle.script_lines.specs.Front.{kept_bytes, longest_text, strip, SameFront}
use Rattle.script_lines.specs.Took.{WholeLine, PastRoom, Broken}

-- a line that was read so far
pub record SoFar (kept : List ℕ) (room room_now : ℕ) (left left_now : Option (List ℕ)) : Type 0 where
  pub line : List ℕ
  pub front : kept ≡ take kept_bytes line
  pub plain : NoFeed line
  pub took : Consumes left left_now line
  pub space : room ≡ room_now + length line

-- what is cut before a byte is added is cut all the same
pub cut-before : (n : ℕ) (xs : List ℕ) (b : ℕ) → take n (take n xs ++ b ∷ []) ≡ take n (xs ++ b ∷ [])
cut-before n xs b = elim (cases_lt n (length xs)) [
  | inr short ↦ ap (λ ys. take n (ys ++ b ∷ [])) (take_all n xs short)
  | inl long ↦ take-append-le n (take n xs) (b ∷ []) (omega (arith, length-take n xs, long)) ∙ take-take n n xs (omega arith) ∙ sym (take-append-le n xs (b ∷ []) (omega (arith, long)))
]

pub past-room : (kept : List ℕ) (room room_now : ℕ) (l m k : Option (List ℕ)) (b : ℕ) → SoFar kept room room_now l m → room_now ≡ 0
    → Consumes m k (b ∷ []) → PastRoom (record { kept = kept; room = room; room_then = room_now; left = l; left_then = k })
past-room kept room room_now l m k b s none took = record {
  line = s.line;
  plain = s.plain;
  byte = b;
  took = Consumes-trans l m k _ _ s.took took;
  space = omega (arith, s.space, none);
}

pub whole-line : (kept : List ℕ) (room room_now : ℕ) (l m k : Option (List ℕ)) (b : ℕ) → SoFar kept room room_now l m → room_now ≢ 0 → b ≡ 10
    → Consumes m k (b ∷ []) → WholeLine (record { kept = kept; room = room; room_then = room_now - 1; left = l; left_then = k })
whole-line kept room room_now l m k b s some feed took = record {
  line = s.line;
  front = s.front;
  plain = s.plain;
  took = Consumes-trans l m k _ _ s.took (subst (λ x. Consumes m k (x ∷ [])) feed took);
  space = omega (arith, s.space, some);
}

pub kept-short : (kept : List ℕ) (room room_now : ℕ) (l m : Option (List ℕ)) → SoFar kept room room_now l m → length kept ≤ kept_bytes
kept-short kept room room_now l m s = omega (arith, ap length s.front, length-take kept_bytes s.line)

pub byte-more : (kept kept_now : List ℕ) (room room_now : ℕ) (l m k : Option (List ℕ)) (b : ℕ) → SoFar kept room room_now l m → room_now ≢ 0 → b ≢ 10
    → Consumes m k (b ∷ []) → kept_now ≡ take kept_bytes (kept ++ b ∷ []) → SoFar kept_now room (room_now - 1) l k
byte-more kept kept_now room room_now l m k b s some other took is = record {
  line = s.line ++ b ∷ [];
  front = is ∙ ap (λ xs. take kept_bytes (xs ++ b ∷ [])) s.front ∙ cut-before kept_bytes s.line b;
  plain = NoFeed-push s.line b s.plain other;
  took = Consumes-trans l m k _ _ s.took took;
  space = omega (arith, s.space, some, length-append s.line (b ∷ []));
}

-- a byte that there was no memory for
pub byte-lost : (kept kept_now : List ℕ) (room room_now room_then : ℕ) (l m k : Option (List ℕ)) (b : ℕ) → SoFar kept room room_now l m → b ≢ 10
    → Consumes m k (b ∷ []) → Broken (record { kept = kept_now; room = room; room_then = room_then; left = l; left_then = k })
byte-lost kept kept_now room room_now room_then l m k b s other took = record {
  line = s.line ++ b ∷ [];
  plain = NoFeed-push s.line b s.plain other;
  took = Consumes-trans l m k _ _ s.took took;
}

-- a carriage return behind so many bytes tells nothing of them
stripped-front : (x : List ℕ) → longest_text + 2 ≤ length x → SameFront (strip x) x
stripped-front x long = elim (slice_index x (length x - 1) == 13) as (λ t. SameFront (if t then take (length x - 1) x else x) x) [
  | true ↦ take-take (longest_text + 1) (length x - 1) x (omega (arith, long))
  | false ↦ refl
]

pub same-front : (l kept : List ℕ) → kept ≡ take kept_bytes l → SameFront (strip l) (strip kept)
same-front l kept is = elim (cases_lt kept_bytes (length l)) [
  | inr short ↦ ap (λ x. take (longest_text + 1) (strip x)) (sym (is ∙ take_all kept_bytes l short))
  | inl long ↦
      stripped-front l (omega (arith, long)) ∙ sym (take-take (longest_text + 1) kept_bytes l (omega arith)) ∙ ap (take (longest_text + 1)) (sym is)
      ∙ sym (stripped-front kept (omega (arith, ap length is, length-take kept_bytes l, long)))
]

pub short-kept : (xs : List ℕ) (b : ℕ) → length xs < kept_bytes → xs ++ b ∷ [] ≡ take kept_bytes (xs ++ b ∷ [])
short-kept xs b short = sym (take_all kept_bytes (xs ++ b ∷ []) (omega (arith, length-append xs (b ∷ []), short)))

pub full-kept : (xs : List ℕ) (b : ℕ) → length xs ≡ kept_bytes → xs ≡ take kept_bytes (xs ++ b ∷ [])
full-kept xs b full = sym (take-append-le kept_bytes xs (b ∷ []) (omega (arith, full)) ∙ take_all kept_bytes xs (omega (arith, full)))
