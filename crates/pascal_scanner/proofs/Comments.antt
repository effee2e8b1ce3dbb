-- What is skipped: separators, and comments up to their first closing.
use Rattle.std.proofs.Common.{◌≡◌, ℕ, zero, suc, ◌+◌, ◌≤◌, ◌<◌, Bool, true, false, cond, ◌&&◌, ◌||◌, ◌==◌, List, [], ◌∷◌, ◌++◌, length, length-append, drop, codes, refl, sym, ap, subst, ◌∙◌, arith, eqb-true, append_assoc, None, Some}
use Rattle.std.proofs.lemmas.List.{drop-drop}
use Rattle.std.specs.declared.option.Option.{Option}
use Rattle.std.specs.Option.{option_map}
use Rattle.dice_base.specs.declared.byte.ByteClass.{ByteClass}
use Rattle.dice_base.specs.declared.byte.ByteClass.TheVariants.{Separator, Mark}
use Rattle.dice_base.specs.Lexemes.{class, opens_comment, Opens, brace_opens, star_opens, Closes, brace_closes, star_closes, IsComment, Skips, blank, comment}
use Rattle.pascal_scanner.specs.Longest.{first_of_two, opening_len, closing_len, closed_len}
use Rattle.pascal_scanner.specs.Unread.{IsStuck, HasOpenComment}
use Rattle.pascal_scanner.proofs.Signs.{some, nothing, some_same}

-- a comment opens with a mark
pub no_comment : (c : ℕ) (cs : List ℕ) (k : ByteClass) → class c ≡ k → (k ≡ Mark → ⊥) → opens_comment (c ∷ cs) ≡ false
no_comment c [] k is other = go (c == 123) refl where
  go : (b : Bool) → (c == 123) ≡ b → b ≡ false
  go true e = absurd (other (sym is ∙ ap class (eqb-true c 123 e)))
  go false e = refl
no_comment c (d ∷ cs) k is other = go (c == 123) (c == 40) refl refl where
  go : (a b : Bool) → (c == 123) ≡ a → (c == 40) ≡ b → (a || (b && (d == 42))) ≡ false
  go true b e f = absurd (other (sym is ∙ ap class (eqb-true c 123 e)))
  go false true e f = absurd (other (sym is ∙ ap class (eqb-true c 40 f)))
  go false false e f = refl

-- ---- closings

-- no closing stands in the text
abbrev pub HasNoClosing : List ℕ → Type 0
HasNoClosing x = (before w after : List ℕ) → x ≡ before ++ w ++ after → Closes w → ⊥

-- the length of a closing at the front
pub closes-len : (w rest : List ℕ) → Closes w → closing_len (w ++ rest) ≡ some (length w)
closes-len w [] brace_closes = refl
closes-len w (d ∷ rest) brace_closes = refl
closes-len w rest star_closes = refl

-- what stands at the front where a closing is found there
pub record HasClosing (text : List ℕ) (n : ℕ) : Type 0 where
  pub closing : List ℕ
  pub closes : Closes closing
  pub len : n ≡ length closing
  pub parts : text ≡ closing ++ drop n text

brace_closing : (c : ℕ) (cs : List ℕ) (n : ℕ) → (c == 125) ≡ true → some 1 ≡ some n → HasClosing (c ∷ cs) n
brace_closing c cs n e known =
    let is : c ≡ 125 = eqb-true c 125 e in
    let one : 1 ≡ n = some_same 1 n known in
    rw (is, ← one) (record { closing = codes "}"; closes = brace_closes; len = refl; parts = refl })

star_closing : (c d : ℕ) (cs : List ℕ) (n : ℕ) → (c == 42) ≡ true → (d == 41) ≡ true → some 2 ≡ some n → HasClosing (c ∷ d ∷ cs) n
star_closing c d cs n e f known =
    let first : c ≡ 42 = eqb-true c 42 e in
    let second : d ≡ 41 = eqb-true d 41 f in
    let two : 2 ≡ n = some_same 2 n known in
    rw (first, second, ← two) (record { closing = codes "*)"; closes = star_closes; len = refl; parts = refl })

pub closing-some : (text : List ℕ) (n : ℕ) → closing_len text ≡ some n → HasClosing text n
closing-some [] n e = absurd cc
closing-some (c ∷ []) n e = go (c == 125) refl e where
  go : (a : Bool) → (c == 125) ≡ a → cond a (some 1) nothing ≡ some n → HasClosing (c ∷ []) n
  go true f known = brace_closing c [] n f known
  go false f known = absurd cc
closing-some (c ∷ d ∷ cs) n e = go (c == 125) (c == 42) (d == 41) refl refl refl e where
  go : (a b g : Bool) → (c == 125) ≡ a → (c == 42) ≡ b → (d == 41) ≡ g → cond a (some 1) (cond (b && g) (some 2) nothing) ≡ some n → HasClosing (c ∷ d ∷ cs) n
  go true b g f h i known = brace_closing c (d ∷ cs) n f known
  go false true true f h i known = star_closing c d cs n h i known
  go false true false f h i known = absurd cc
  go false false g f h i known = absurd cc

same_head : (a b : ℕ) (x y : List ℕ) → a ∷ x ≡ b ∷ y → a ≡ b
same_head a b x y e = cc

-- behind a text without closings no closing begins in it
inside-star : (c : ℕ) (x w rest u : List ℕ) → HasNoClosing (c ∷ x) → Closes w → c ≡ 42 → x ++ w ++ rest ≡ 41 ∷ u → ⊥
inside-star c [] w rest u inside brace_closes first e = absurd (omega (arith, same_head 125 41 rest u e))
inside-star c [] w rest u inside star_closes first e = absurd (omega (arith, same_head 42 41 (41 ∷ rest) u e))
inside-star c (d ∷ x) w rest u inside closes first e =
    let second : d ≡ 41 = cc in inside [] (codes "*)") x (rw (first, second) refl) star_closes

inside-closing : (c : ℕ) (x w rest v u : List ℕ) → HasNoClosing (c ∷ x) → Closes w → Closes v → c ∷ (x ++ w ++ rest) ≡ v ++ u → ⊥
inside-closing c x w rest v u inside closes brace_closes e =
    let same : c ≡ 125 = cc in inside [] (codes "}") x (ap (λ (b : ℕ). b ∷ x) same) brace_closes
inside-closing c x w rest v u inside closes star_closes e = inside-star c x w rest u inside closes (cc) (cc)

inside-none : (c : ℕ) (x w rest : List ℕ) → HasNoClosing (c ∷ x) → Closes w → closing_len (c ∷ (x ++ w ++ rest)) ≡ nothing
inside-none c x w rest inside closes = go (closing_len (c ∷ (x ++ w ++ rest))) refl where
  go : (o : Option ℕ) → closing_len (c ∷ (x ++ w ++ rest)) ≡ o → o ≡ nothing
  go None e = refl
  go (Some n) e =
      let h = closing-some (c ∷ (x ++ w ++ rest)) n e in
      absurd (inside-closing c x w rest h.closing (drop n (c ∷ (x ++ w ++ rest))) inside closes h.closes h.parts)

inside-tail : (c : ℕ) (x : List ℕ) → HasNoClosing (c ∷ x) → HasNoClosing x
inside-tail c x inside = λ before w after e closes. inside (c ∷ before) w after (ap (λ (v : List ℕ). c ∷ v) e) closes

-- ---- up to the first closing

closes-front : (w rest : List ℕ) → Closes w → closed_len (w ++ rest) ≡ some (length w)
closes-front w [] brace_closes = refl
closes-front w (d ∷ rest) brace_closes = refl
closes-front w rest star_closes = refl

pub closed-len : (x w rest : List ℕ) → HasNoClosing x → Closes w → closed_len (x ++ w ++ rest) ≡ some (length x + length w)
closed-len [] w rest inside closes = closes-front w rest closes ∙ ap some (omega arith)
closed-len (c ∷ x) w rest inside closes =
    rw (inside-none c x w rest inside closes, closed-len x w rest (inside-tail c x inside) closes) (ap some (omega arith))

-- the parts of a text up to its first closing
pub record IsClosed (text : List ℕ) (n : ℕ) : Type 0 where
  pub commentary : List ℕ
  pub closing : List ℕ
  pub inside : HasNoClosing commentary
  pub closes : Closes closing
  pub len : n ≡ length commentary + length closing
  pub parts : text ≡ commentary ++ closing ++ drop n text

none-inside : HasNoClosing []
none-inside [] w after e brace_closes = absurd cc
none-inside [] w after e star_closes = absurd cc
none-inside (b ∷ before) w after e closes = absurd cc

-- one byte more in front, where no closing begins
more-inside : (c : ℕ) (x r : List ℕ) → HasNoClosing x → closing_len (c ∷ (x ++ r)) ≡ nothing → HasNoClosing (c ∷ x)
more-inside c x r inside none (b ∷ before) w after e closes = inside before w after (cc) closes
more-inside c x r inside none [] w after e brace_closes =
    let same : c ≡ 125 = cc in
    let bad : some 1 ≡ nothing = sym (closes-len (codes "}") (x ++ r) brace_closes) ∙ ap (λ (b : ℕ). closing_len (b ∷ (x ++ r))) (sym same) ∙ none in absurd cc
more-inside c x r inside none [] w after e star_closes = star x none (cc) (cc) where
  star : (x : List ℕ) → closing_len (c ∷ (x ++ r)) ≡ nothing → c ≡ 42 → x ≡ 41 ∷ after → ⊥
  star [] none first e = absurd cc
  star (d ∷ x) none first e =
      let second : d ≡ 41 = cc in
      let bad : some 2 ≡ nothing = rw (first, second) at none in absurd cc

pub closed-some : (text : List ℕ) (n : ℕ) → closed_len text ≡ some n → IsClosed text n
closed-some [] n e = absurd cc
closed-some (c ∷ cs) n e = go (closed-some cs) (closing_len (c ∷ cs)) refl (closed_len cs) refl e where
  go : ((m : ℕ) → closed_len cs ≡ some m → IsClosed cs m) → (o : Option ℕ) → closing_len (c ∷ cs) ≡ o → (l : Option ℕ) → closed_len cs ≡ l → first_of_two o (option_map (λ m. m + 1) l) ≡ some n → IsClosed (c ∷ cs) n
  go later (Some m) f l g known =
      let same : m ≡ n = some_same m n known in
      let h = closing-some (c ∷ cs) n (f ∙ ap some same) in
      record { commentary = []; closing = h.closing; inside = none-inside; closes = h.closes; len = omega (arith, h.len); parts = h.parts }
  go later None f (Some m) g known =
      let same : suc m ≡ n = omega (arith, some_same (m + 1) n known) in
      let h = later m g in
      record {
        commentary = c ∷ h.commentary;
        closing = h.closing;
        inside = more-inside c h.commentary (h.closing ++ drop m cs) h.inside (subst (λ (v : List ℕ). closing_len (c ∷ v) ≡ nothing) (h.parts ∙ append_assoc h.commentary h.closing (drop m cs)) f);
        closes = h.closes;
        len = omega (arith, same, h.len);
        parts = subst (λ (k : ℕ). c ∷ cs ≡ c ∷ h.commentary ++ h.closing ++ drop k (c ∷ cs)) same (ap (λ (v : List ℕ). c ∷ v) h.parts);
      }
  go later None f None g known = absurd cc

-- where no closing begins before the first one
pub closed-at : (text : List ℕ) (i n : ℕ) → ((k : ℕ) → k < i → closing_len (drop k text) ≡ nothing) → closing_len (drop i text) ≡ some n → closed_len text ≡ some (i + n)
closed-at [] zero n before here = absurd cc
closed-at [] (suc i) n before here = absurd cc
closed-at (c ∷ cs) zero n before here = rw here (ap some (omega arith))
closed-at (c ∷ cs) (suc i) n before here =
    rw (before 0 (omega arith), closed-at cs i n (λ k h. before (suc k) (omega (arith, h))) here) (ap some (omega arith))

pub closed-none : (text : List ℕ) → ((k : ℕ) → k < length text → closing_len (drop k text) ≡ nothing) → closed_len text ≡ nothing
closed-none [] none = refl
closed-none (c ∷ cs) none = rw (none 0 (omega arith), closed-none cs (λ k h. none (suc k) (omega (arith, h)))) refl

-- ---- comments at the front of a text

opens-some : (o : List ℕ) → Opens o → 0 < length o
opens-some o brace_opens = omega arith
opens-some o star_opens = omega arith

opens-front : (o rest : List ℕ) → Opens o → (opens_comment (o ++ rest) ≡ true) × (opening_len (o ++ rest) ≡ length o)
opens-front o [] brace_opens = (refl, refl)
opens-front o (d ∷ rest) brace_opens = (refl, refl)
opens-front o rest star_opens = (refl, refl)

-- what a text is at which a comment opens
pub record IsOpened (text : List ℕ) : Type 0 where
  pub opening : List ℕ
  pub opens : Opens opening
  pub len : opening_len text ≡ length opening
  pub parts : text ≡ opening ++ drop (opening_len text) text

brace_opened : (c : ℕ) (cs : List ℕ) → (c == 123) ≡ true → IsOpened (c ∷ cs)
brace_opened c cs e =
    let is : c ≡ 123 = eqb-true c 123 e in
    rw is (record { opening = codes "{"; opens = brace_opens; len = refl; parts = refl })

star_opened : (c d : ℕ) (cs : List ℕ) → (c == 40) ≡ true → (d == 42) ≡ true → IsOpened (c ∷ d ∷ cs)
star_opened c d cs e f =
    let first : c ≡ 40 = eqb-true c 40 e in
    let second : d ≡ 42 = eqb-true d 42 f in
    rw (first, second) (record { opening = codes "(*"; opens = star_opens; len = refl; parts = refl })

pub opened : (text : List ℕ) → opens_comment text ≡ true → IsOpened text
opened [] e = absurd cc
opened (c ∷ []) e = brace_opened c [] e
opened (c ∷ d ∷ cs) e = go (c == 123) (c == 40) (d == 42) refl refl refl e where
  go : (a b g : Bool) → (c == 123) ≡ a → (c == 40) ≡ b → (d == 42) ≡ g → (a || (b && g)) ≡ true → IsOpened (c ∷ d ∷ cs)
  go true b g f h i known = brace_opened c (d ∷ cs) f
  go false true true f h i known = star_opened c d cs h i
  go false true false f h i known = absurd cc
  go false false g f h i known = absurd cc

-- the length of the comment that stands at the front of the text
pub record IsAtFront (text w : List ℕ) : Type 0 where
  pub opens : opens_comment text ≡ true
  pub behind : ℕ
  pub closed : closed_len (drop (opening_len text) text) ≡ some behind
  pub len : length w ≡ opening_len text + behind

drop-front : (a b : List ℕ) → drop (length a) (a ++ b) ≡ b
drop-front [] b = refl
drop-front (c ∷ a) b = drop-front a b

parts_at : (o x k rest : List ℕ) → Opens o → HasNoClosing x → Closes k → IsAtFront (o ++ (x ++ k ++ rest)) (o ++ x ++ k)
parts_at o x k rest opens inside closes =
    let f = opens-front o (x ++ k ++ rest) opens in
    let behind : drop (opening_len (o ++ (x ++ k ++ rest))) (o ++ (x ++ k ++ rest)) ≡ x ++ k ++ rest =
    ap (λ n. drop n (o ++ (x ++ k ++ rest))) f.1 ∙ drop-front o (x ++ k ++ rest) in
    record {
      opens = f.0;
      behind = length x + length k;
      closed = ap closed_len behind ∙ closed-len x k rest inside closes;
      len = omega (arith, f.1, length-append (o ++ x) k, length-append o x);
    }

comment_at : (w rest : List ℕ) → IsComment w → IsAtFront (w ++ rest) w
comment_at w rest k =
    let grouped : (k.opening ++ k.commentary ++ k.closing) ++ rest ≡ k.opening ++ (k.commentary ++ k.closing ++ rest) =
    ap (λ (v : List ℕ). v ++ rest) (append_assoc k.opening k.commentary k.closing) ∙ append_assoc k.opening (k.commentary ++ k.closing) rest in
    subst (λ (v : List ℕ). IsAtFront (v ++ rest) v) (sym k.parts)
    (subst (λ (v : List ℕ). IsAtFront v (k.opening ++ k.commentary ++ k.closing)) (sym grouped)
    (parts_at k.opening k.commentary k.closing rest k.opens k.inside k.closes))

-- what is skipped at the front of a text
pub data IsSkipped (text rest : List ℕ) : Type 0 where
  is_blank : (c : ℕ) → text ≡ c ∷ rest → class c ≡ Separator → IsSkipped text rest
  is_comment : (w : List ℕ) → text ≡ w ++ rest → IsAtFront text w → IsSkipped text rest

pub skipped : (text rest : List ℕ) → Skips text rest → IsSkipped text rest
skipped text rest (blank c r is) = is_blank c refl is
skipped text rest (comment w r k) = is_comment w refl (comment_at w r k)

blank-plain : (text : List ℕ) (c : ℕ) (rest : List ℕ) → text ≡ c ∷ rest → class c ≡ Separator → opens_comment text ≡ true → ⊥
blank-plain text c rest e is opens =
    let bad : true ≡ false = sym opens ∙ ap opens_comment e ∙ no_comment c rest Separator is (λ bad. absurd cc) in absurd cc

-- lists of one length in front of one list
pub same_front : (a b x y : List ℕ) → a ++ x ≡ b ++ y → length a ≡ length b → (a ≡ b) × (x ≡ y)
same_front [] [] x y e l = (refl, e)
same_front [] (d ∷ b) x y e l = absurd (omega (arith, l))
same_front (c ∷ a) [] x y e l = absurd (omega (arith, l))
same_front (c ∷ a) (d ∷ b) x y e l =
    let head : c ≡ d = cc in
    let tail : a ++ x ≡ b ++ y = cc in
    let r = same_front a b x y tail (omega (arith, l)) in
    (cc, r.1)

pub skips_one : (text x y : List ℕ) → Skips text x → Skips text y → x ≡ y
skips_one text x y p q = go (skipped text x p) (skipped text y q) where
  go : IsSkipped text x → IsSkipped text y → x ≡ y
  go (is_blank c e is) (is_blank d f other) = cc
  go (is_blank c e is) (is_comment w f at) = absurd (blank-plain text c x e is at.opens)
  go (is_comment w e at) (is_blank d f is) = absurd (blank-plain text d y f is at.opens)
  go (is_comment w e at) (is_comment v f other) =
      let same : at.behind ≡ other.behind = some_same _ _ (sym at.closed ∙ other.closed) in
      (same_front w v x y (sym e ∙ f) (omega (arith, same, at.len, other.len))).1

-- nothing is skipped at a byte of another class, where no comment opens
pub no_gap_at : (c : ℕ) (cs rest : List ℕ) (k : ByteClass) → class c ≡ k → (k ≡ Separator → ⊥) → opens_comment (c ∷ cs) ≡ false → Skips (c ∷ cs) rest → ⊥
no_gap_at c cs rest k is other plain s = go (skipped (c ∷ cs) rest s) where
  go : IsSkipped (c ∷ cs) rest → ⊥
  go (is_blank d e f) = let same : c ≡ d = cc in other (sym is ∙ ap class same ∙ f)
  go (is_comment w e at) = let bad : true ≡ false = sym at.opens ∙ plain in absurd cc

-- ---- the same of a text that the code reads

closed_behind : (text : List ℕ) (m : ℕ) → opens_comment text ≡ true → closed_len (drop (opening_len text) text) ≡ some m
    → (0 < opening_len text + m) × (opening_len text + m ≤ length text) × Skips text (drop (opening_len text + m) text)
closed_behind text m opens known =
    let o = opened text opens in
    let h = closed-some (drop (opening_len text) text) m known in
    let left : List ℕ = drop m (drop (opening_len text) text) in
    let w : List ℕ = o.opening ++ h.commentary ++ h.closing in
    let whole : text ≡ w ++ left =
    o.parts ∙ ap (λ (v : List ℕ). o.opening ++ v) h.parts ∙ sym (ap (λ (v : List ℕ). v ++ left) (append_assoc o.opening h.commentary h.closing) ∙ append_assoc o.opening (h.commentary ++ h.closing) left) in
    let is : IsComment w = record { opening = o.opening; commentary = h.commentary; closing = h.closing; parts = refl; opens = o.opens; inside = h.inside; closes = h.closes } in
    let skips : Skips text left = subst (λ (v : List ℕ). Skips v left) (sym whole) (comment w left is) in (
      omega (arith, o.len, opens-some o.opening o.opens),
      omega (arith, o.len, h.len, ap length whole, length-append w left, length-append (o.opening ++ h.commentary) h.closing, length-append o.opening h.commentary),
      subst (λ (v : List ℕ). Skips text v) (drop-drop m (opening_len text) text) skips,
    )

pub comment_closed : (text : List ℕ) (n m : ℕ) → opens_comment text ≡ true → n ≡ opening_len text → closed_len (drop n text) ≡ some m
    → (0 < n + m) × (n + m ≤ length text) × Skips text (drop (n + m) text)
comment_closed text n m opens e known = rw e (closed_behind text m opens (rw e at known))

pub comment_open : (text : List ℕ) (n : ℕ) → opens_comment text ≡ true → n ≡ opening_len text → closed_len (drop n text) ≡ nothing → IsStuck text × HasOpenComment text
comment_open text n opens e none = (
  record {
    some = some_at text opens;
    no_token = λ token rest k. let bad : true ≡ false = sym opens ∙ k.plain in absurd cc;
    no_gap = λ rest s. go rest (skipped text rest s);
  },
  opens,
) where
  some_at : (text : List ℕ) → opens_comment text ≡ true → 0 < length text
  some_at [] e = absurd cc
  some_at (c ∷ cs) e = omega arith

  go : (rest : List ℕ) → IsSkipped text rest → ⊥
  go rest (is_blank c f is) = blank-plain text c rest f is opens
  go rest (is_comment w f at) = let bad : some at.behind ≡ nothing = sym at.closed ∙ ap (λ m. closed_len (drop m text)) (sym e) ∙ none in absurd cc
