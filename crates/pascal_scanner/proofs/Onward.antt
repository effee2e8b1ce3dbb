-- How a text is read on, and that it is read in one way.
use Rattle.std.proofs.Common.{◌≡◌, ℕ, zero, suc, ◌+◌, ◌≤◌, ◌<◌, false, true, List, [], ◌∷◌, ◌++◌, length, length-drop, drop, refl, sym, ap, subst, ◌∙◌, arith, append-nil}
use Rattle.std.proofs.lemmas.List.{drop-drop, map-append}
use Rattle.dice_base.specs.declared.byte.ByteClass.{ByteClass}
use Rattle.dice_base.specs.declared.byte.ByteClass.TheVariants.{Letter, Digit, Separator, Mark}
use Rattle.dice_base.specs.declared.token.Token.{Token}
use Rattle.dice_base.specs.declared.token.TokenKind.{TokenKind}
use Rattle.dice_base.specs.declared.token.TokenKind.TheVariants.{Sign, Str}
use Rattle.dice_base.specs.Lexemes.{class, Lexeme, Takes, Skips, LexesTo, ends, skips, takes}
use Rattle.pascal_scanner.specs.Progress.{kinds, IsRead}
use Rattle.pascal_scanner.specs.Spans.{IsGap, StandWithin, Stand}
use Rattle.pascal_scanner.specs.Unread.{IsStuck, IsUnread, HasNoTokens}
use Rattle.pascal_scanner.proofs.Signs.{some_same, spelled-begins}
use Rattle.pascal_scanner.proofs.Classes.{IsMarked, is_string, is_hole, is_sign, IsOfClass, lexeme-class, of_class, string_marked, hole_marked, sign_marked, no_lexeme-nil, lexeme_front}
use Rattle.pascal_scanner.proofs.Comments.{IsSkipped, is_blank, is_comment, skipped, skips_one, same_front}
use Rattle.pascal_scanner.proofs.Strings.{doubled_one}

-- ---- one token at most

marked_one : (c : ℕ) (cs : List ℕ) (t u : TokenKind) → IsMarked c cs t → IsMarked c cs u → t ≡ u
marked_one c cs t u (is_string e s) b =
    let r = string_marked c cs u e b in
    s.is ∙ ap Str (doubled_one s.characters r.characters (39 ∷ []) (39 ∷ []) s.each r.each refl refl (sym s.parts ∙ r.parts)).0 ∙ sym r.is
marked_one c cs t u (is_hole e none is) b = is ∙ sym (hole_marked c cs u e b).1
marked_one c cs t u (is_sign k s is) b =
    let r = sign_marked c cs u (spelled-begins c cs k s) b in
    is ∙ ap Sign (some_same k r.0 (sym s ∙ r.1)) ∙ sym r.2

lexeme_one : (w : List ℕ) (t u : TokenKind) → Lexeme w t → Lexeme w u → t ≡ u
lexeme_one [] t u l m = absurd (no_lexeme-nil t l)
lexeme_one (c ∷ cs) t u l m = go (class c) (lexeme-class c cs t l) (lexeme-class c cs u m) where
  go : (k : ByteClass) → IsOfClass k c cs t → IsOfClass k c cs u → t ≡ u
  go Letter a b = a.1 ∙ sym b.1
  go Digit a b = a.2 ∙ sym b.2
  go Separator a b = absurd a
  go Mark a b = marked_one c cs t u a b

takes_one : (text : List ℕ) (t u : TokenKind) (x y : List ℕ) → Takes text t x → Takes text u y → (t ≡ u) × (x ≡ y)
takes_one text t u x y p q =
    let len : length (p.lexeme) ≡ length (q.lexeme) = omega (arith, p.longest q.lexeme y u q.parts q.is, q.longest p.lexeme x t p.parts p.is) in
    let r = same_front p.lexeme q.lexeme x y (sym p.parts ∙ q.parts) len in
    (lexeme_one q.lexeme t u (subst (λ (w : List ℕ). Lexeme w t) r.0 p.is) q.is, r.1)

skips_or_takes : (text x y : List ℕ) (t : TokenKind) → Skips text x → Takes text t y → ⊥
skips_or_takes text x y t s k = go (skipped text x s) where
  go : IsSkipped text x → ⊥
  go (is_blank c e is) =
      let f = lexeme_front c x k.lexeme y t (sym e ∙ k.parts) k.is in of_class Separator c f.0 t is f.3
  go (is_comment w e at) = let bad : true ≡ false = sym at.opens ∙ k.plain in absurd cc

-- ---- one list of tokens at most

-- nothing is read of the text
pub record IsEnd (text : List ℕ) : Type 0 where
  pub no_token : (token : TokenKind) (rest : List ℕ) → Takes text token rest → ⊥
  pub no_gap : (rest : List ℕ) → Skips text rest → ⊥

end-nil : IsEnd []
end-nil = record { no_token = λ t rest k. no_takes k.lexeme t rest k.parts k.is; no_gap = λ rest k. no_skips rest (skipped [] rest k) } where
  no_takes : (w : List ℕ) (t : TokenKind) (rest : List ℕ) → [] ≡ w ++ rest → Lexeme w t → ⊥
  no_takes [] t rest e l = no_lexeme-nil t l
  no_takes (c ∷ w) t rest e l = absurd cc

  no_skips : (rest : List ℕ) → IsSkipped [] rest → ⊥
  no_skips rest (is_blank c e is) = absurd cc
  no_skips rest (is_comment w e at) = let bad : false ≡ true = at.opens in absurd cc

stuck-end : (text : List ℕ) → IsStuck text → IsEnd text
stuck-end text s = record { no_token = s.no_token; no_gap = s.no_gap }

-- a text is read to its end in one way
lexes_one : (left other text : List ℕ) (a b : List TokenKind) → LexesTo left text a → LexesTo other text b → IsEnd left → IsEnd other → (left ≡ other) × (a ≡ b)
lexes_one left other text a b ends ends h g = (refl, refl)
lexes_one left other text a b ends (skips s l) h g = absurd (h.no_gap _ s)
lexes_one left other text a b ends (takes k l) h g = absurd (h.no_token _ _ k)
lexes_one left other text a b (skips s l) ends h g = absurd (g.no_gap _ s)
lexes_one left other text a b (skips {more = x} s l) (skips {more = y} s2 l2) h g =
    lexes_one left other x a b l (subst (λ (v : List ℕ). LexesTo other v b) (skips_one text y x s2 s) l2) h g
lexes_one left other text a b (skips s l) (takes k l2) h g = absurd (skips_or_takes text _ _ _ s k)
lexes_one left other text a b (takes k l) ends h g = absurd (g.no_token _ _ k)
lexes_one left other text a b (takes k l) (skips s l2) h g = absurd (skips_or_takes text _ _ _ s k)
lexes_one left other text a b (takes {more = x} {token = t} {tokens = ts} k l) (takes {more = y} {token = u} {tokens = us} k2 l2) h g =
    let r = takes_one text u t y x k2 k in
    let more = lexes_one left other x ts us l (subst (λ (v : List ℕ). LexesTo other v us) r.1 l2) h g in
    (more.0, cc (r.0, more.1))

-- so it has one list of tokens at most
pub Lexes-one : (text : List ℕ) (a b : List TokenKind) → LexesTo [] text a → LexesTo [] text b → a ≡ b
Lexes-one text a b l m = (lexes_one [] [] text a b l m end-nil end-nil).1

-- is stuck at one place at most
pub stuck-one : (left other text : List ℕ) (a b : List TokenKind) → LexesTo left text a → LexesTo other text b → IsStuck left → IsStuck other → left ≡ other
stuck-one left other text a b l m h g = (lexes_one left other text a b l m (stuck-end left h) (stuck-end other g)).0

-- and has no tokens where it is stuck
pub stuck-none : (left text : List ℕ) (a b : List TokenKind) → LexesTo left text a → IsStuck left → LexesTo [] text b → ⊥
stuck-none left text a b l h m =
    let none : left ≡ [] = (lexes_one left [] text a b l m (stuck-end left h) end-nil).0 in omega (arith, h.some, ap length none)

-- ---- one part of a text behind another

lexes-append : (middle rest text : List ℕ) (a b : List TokenKind) → LexesTo middle text a → LexesTo rest middle b → LexesTo rest text (a ++ b)
lexes-append middle rest text a b ends m = m
lexes-append middle rest text a b (skips {more = x} s l) m = skips s (lexes-append middle rest x a b l m)
lexes-append middle rest text a b (takes {more = x} {tokens = ts} k l) m = takes k (lexes-append middle rest x ts b l m)

lexes-skip : (text middle rest : List ℕ) (a : List TokenKind) → LexesTo middle text a → Skips middle rest → LexesTo rest text a
lexes-skip text middle rest a l s = subst (λ (v : List TokenKind). LexesTo rest text v) (append-nil a) (lexes-append middle rest text a [] l (skips s ends))

lexes-take : (text middle rest : List ℕ) (a : List TokenKind) (t : TokenKind) → LexesTo middle text a → Takes middle t rest → LexesTo rest text (a ++ t ∷ [])
lexes-take text middle rest a t l k = lexes-append middle rest text a (t ∷ []) l (takes k ends)

-- ---- spans

gap-none : (text : List ℕ) (at : ℕ) → IsGap text at at
gap-none text at = (omega arith, ends)

stand-skip : (text : List ℕ) (from to later : ℕ) (tokens : List Token) → StandWithin text from to tokens → to ≤ later → Skips (drop to text) (drop later text) → StandWithin text from later tokens
stand-skip text from to later [] s h k = (omega (arith, s.0, h), lexes-skip (drop from text) (drop to text) (drop later text) [] s.1 k)
stand-skip text from to later (t ∷ ts) s h k = (s.0, s.1, s.2, stand-skip text t.span.to to later ts s.3 h k)

stand-push : (text : List ℕ) (from : ℕ) (tokens : List Token) (t : Token) → StandWithin text from t.span.from tokens → t.span.from < t.span.to
    → Takes (drop t.span.from text) t.kind (drop t.span.to text) → StandWithin text from t.span.to (tokens ++ t ∷ [])
stand-push text from [] t s h k = (s, h, k, gap-none text t.span.to)
stand-push text from (u ∷ us) t s h k = (s.0, s.1, s.2, stand-push text u.span.to us t s.3 h k)

-- ---- reading on

pub read-start : (text : List ℕ) → IsRead text 0 []
read-start text = record { within = omega arith; front = ends; stand = gap-none text 0 }

length-left : (text : List ℕ) (at n : ℕ) → n ≤ length (drop at text) → at ≤ length text → at + n ≤ length text
length-left text at n h w = omega (arith, h, w, length-drop at text)

pub read-gap : (text : List ℕ) (at n : ℕ) (tokens : List Token) → IsRead text at tokens → n ≤ length (drop at text) → Skips (drop at text) (drop n (drop at text)) → IsRead text (at + n) tokens
read-gap text at n tokens r h s =
    let skip : Skips (drop at text) (drop (at + n) text) = subst (λ (v : List ℕ). Skips (drop at text) v) (drop-drop n at text) s in
    record {
      within = length-left text at n h r.within;
      front = lexes-skip text (drop at text) (drop (at + n) text) (kinds tokens) r.front skip;
      stand = stand-skip text 0 at (at + n) tokens r.stand (omega arith) skip;
    }

pub read-token : (text : List ℕ) (at n : ℕ) (tokens : List Token) (t : Token) → IsRead text at tokens → 0 < n → n ≤ length (drop at text)
    → t.span.from ≡ at → t.span.to ≡ at + n → Takes (drop at text) t.kind (drop n (drop at text)) → IsRead text (at + n) (tokens ++ t ∷ [])
read-token text at n tokens t r more h a b k =
    let later : Takes (drop at text) t.kind (drop (at + n) text) = subst (λ (v : List ℕ). Takes (drop at text) t.kind v) (drop-drop n at text) k in
    let spanned : Takes (drop t.span.from text) t.kind (drop t.span.to text) = rw (a, b) later in
    let before : StandWithin text 0 t.span.from tokens = rw a r.stand in
    record {
      within = length-left text at n h r.within;
      front = subst (λ (v : List TokenKind). LexesTo (drop (at + n) text) text v) (sym (map-append (λ (u : Token). u.kind) tokens (t ∷ []))) (lexes-take text (drop at text) (drop (at + n) text) (kinds tokens) t.kind r.front later);
      stand = subst (λ (v : ℕ). StandWithin text 0 v (tokens ++ t ∷ [])) b (stand-push text 0 tokens t before (omega (arith, a, b, more)) spanned);
    }

drop_end : (text : List ℕ) (at : ℕ) → length text ≤ at → drop at text ≡ []
drop_end [] zero h = refl
drop_end [] (suc n) h = refl
drop_end (c ∷ cs) zero h = absurd (omega (arith, h))
drop_end (c ∷ cs) (suc n) h = drop_end cs n (omega (arith, h))

pub read-done : (text : List ℕ) (at : ℕ) (tokens : List Token) → IsRead text at tokens → length text ≤ at → LexesTo [] text (kinds tokens)
read-done text at tokens r h = subst (λ (v : List ℕ). LexesTo v text (kinds tokens)) (drop_end text at h) r.front

pub read-stands : (text : List ℕ) (at : ℕ) (tokens : List Token) → IsRead text at tokens → length text ≤ at → Stand text tokens
read-stands text at tokens r h =
    let whole : at ≡ length text = omega (arith, h, r.within) in subst (λ (n : ℕ). StandWithin text 0 n tokens) whole r.stand

-- each token takes a byte at least
stand-count : (text : List ℕ) (from to : ℕ) (tokens : List Token) → StandWithin text from to tokens → from + length tokens ≤ to
stand-count text from to [] s = omega (arith, s.0)
stand-count text from to (t ∷ ts) s = omega (arith, s.0.0, s.1, stand-count text t.span.to to ts s.3)

pub stand-few : (text : List ℕ) (tokens : List Token) (most : ℕ) → Stand text tokens → length text ≤ most → length tokens ≤ most
stand-few text tokens most s short = omega (arith, stand-count text 0 (length text) tokens s, short)

pub read-stuck : (R : List ℕ → Type 0) (text : List ℕ) (at : ℕ) (tokens : List Token) → IsRead text at tokens → IsStuck (drop at text) × R (drop at text) → IsUnread text at R × HasNoTokens text
read-stuck R text at tokens r h = (
  record {
    tokens = kinds tokens;
    left = drop at text;
    front = r.front;
    place = omega (arith, r.within, length-drop at text);
    stuck = h.0;
    reason = h.1;
  },
  λ list l. stuck-none (drop at text) text (kinds tokens) list r.front h.0 l,
)
