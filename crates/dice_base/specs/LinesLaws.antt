-- How lines and what stands behind them make up a text.
use Rattle.std.proofs.Common.{◌≡◌, ◌≢◌, ◌<◌, ◌==◌, ℕ, ◌+◌, ◌-◌, true, false, if◌then◌else◌, cond, List, [], ◌∷◌, ◌++◌, length, length-append, take, get_or, refl, sym, ap, ◌∙◌, append_assoc, arith, ne_eqb}
use Rattle.std.proofs.lemmas.List.{get_or-append-add}
use Rattle.std.proofs.Math.Seq.{take-append-add}
use Rattle.dice_base.specs.Lines.{pieces, onto, NoFeed, NoFeeds, joined, whole_lines, some_line, lines_of}

pub pieces-line : (l rest : List ℕ) → NoFeed l → pieces (l ++ 10 ∷ rest) ≡ l ∷ pieces rest
pieces-line [] rest h = refl
pieces-line (b ∷ bs) rest h =
    ap (λ t. cond t ([] ∷ pieces (bs ++ 10 ∷ rest)) (onto b (pieces (bs ++ 10 ∷ rest)))) (ne_eqb b 10 h.0)
    ∙ ap (onto b) (pieces-line bs rest h.1)

pub pieces-plain : (l : List ℕ) → NoFeed l → pieces l ≡ l ∷ []
pieces-plain [] h = refl
pieces-plain (b ∷ bs) h =
    ap (λ t. cond t ([] ∷ pieces bs) (onto b (pieces bs))) (ne_eqb b 10 h.0)
    ∙ ap (onto b) (pieces-plain bs h.1)

pub pieces-joined : (ls : List (List ℕ)) (rest : List ℕ) → NoFeeds ls → pieces (joined ls ++ rest) ≡ ls ++ pieces rest
pieces-joined [] rest h = refl
pieces-joined (l ∷ ls) rest h =
    ap pieces (append_assoc l (10 ∷ joined ls) rest)
    ∙ pieces-line l (joined ls ++ rest) h.0
    ∙ ap (λ ps. l ∷ ps) (pieces-joined ls rest h.1)

onto-some : (b : ℕ) (ps : List (List ℕ)) → 0 < length (onto b ps)
onto-some b [] = omega arith
onto-some b (p ∷ ps) = omega arith

some-if : (b : ℕ) (ps : List (List ℕ)) → 0 < length (if b == 10 then [] ∷ ps else onto b ps)
some-if b ps = elim (b == 10) as (λ t. 0 < length (if t then [] ∷ ps else onto b ps)) [ true ↦ omega arith | false ↦ onto-some b ps ]

pub pieces-some : (text : List ℕ) → 0 < length (pieces text)
pieces-some [] = omega arith
pieces-some (b ∷ bs) = some-if b (pieces bs)

-- of lists and others behind them, all but the last
but_last-append : (ls ps : List (List ℕ)) → 0 < length ps → take (length (ls ++ ps) - 1) (ls ++ ps) ≡ ls ++ take (length ps - 1) ps
but_last-append ls ps h =
    let e : length (ls ++ ps) - 1 ≡ length ls + (length ps - 1) = omega (arith, length-append ls ps) in
    ap (λ n. take n (ls ++ ps)) e ∙ take-append-add ls ps (length ps - 1)

last-append : (ls ps : List (List ℕ)) → 0 < length ps → get_or (ls ++ ps) (length (ls ++ ps) - 1) [] ≡ get_or ps (length ps - 1) []
last-append ls ps h =
    let e : length (ls ++ ps) - 1 ≡ length ls + (length ps - 1) = omega (arith, length-append ls ps) in
    ap (λ n. get_or (ls ++ ps) n []) e ∙ get_or-append-add ls ps (length ps - 1) []

pub whole_lines-joined : (ls : List (List ℕ)) (rest : List ℕ) → NoFeeds ls → whole_lines (joined ls ++ rest) ≡ ls ++ whole_lines rest
unfolding whole_lines
whole_lines-joined ls rest h =
    ap (λ ps. take (length ps - 1) ps) (pieces-joined ls rest h)
    ∙ but_last-append ls (pieces rest) (pieces-some rest)

pub whole_lines-plain : (l : List ℕ) → NoFeed l → whole_lines l ≡ []
unfolding whole_lines
whole_lines-plain l h = ap (λ ps. take (length ps - 1) ps) (pieces-plain l h)

pub lines_of-joined : (ls : List (List ℕ)) (rest : List ℕ) → NoFeeds ls → lines_of (joined ls ++ rest) ≡ ls ++ lines_of rest
unfolding lines_of
lines_of-joined ls rest h =
    let last : some_line (get_or (pieces (joined ls ++ rest)) (length (pieces (joined ls ++ rest)) - 1) []) ≡ some_line (get_or (pieces rest) (length (pieces rest) - 1) []) =
    ap (λ ps. some_line (get_or ps (length ps - 1) [])) (pieces-joined ls rest h) ∙ ap some_line (last-append ls (pieces rest) (pieces-some rest)) in
    ap (λ ws. ws ++ some_line (get_or (pieces (joined ls ++ rest)) (length (pieces (joined ls ++ rest)) - 1) [])) (whole_lines-joined ls rest h)
    ∙ ap (λ s. (ls ++ whole_lines rest) ++ s) last
    ∙ append_assoc ls (whole_lines rest) _

pub lines_of-plain : (l : List ℕ) → NoFeed l → lines_of l ≡ some_line l
unfolding lines_of
lines_of-plain l h =
    ap (λ ws. ws ++ some_line (get_or (pieces l) (length (pieces l) - 1) [])) (whole_lines-plain l h)
    ∙ ap (λ ps. some_line (get_or ps (length ps - 1) [])) (pieces-plain l h)

pub joined-push : (ls : List (List ℕ)) (l : List ℕ) → joined (ls ++ l ∷ []) ≡ joined ls ++ (l ++ 10 ∷ [])
joined-push [] l = refl
joined-push (k ∷ ks) l = ap (λ r. k ++ 10 ∷ r) (joined-push ks l) ∙ sym (append_assoc k (10 ∷ joined ks) (l ++ 10 ∷ []))

pub NoFeed-push : (l : List ℕ) (b : ℕ) → NoFeed l → b ≢ 10 → NoFeed (l ++ b ∷ [])
NoFeed-push [] b p q = (q, tt)
NoFeed-push (x ∷ xs) b p q = (p.0, NoFeed-push xs b p.1 q)

pub NoFeeds-push : (ls : List (List ℕ)) (l : List ℕ) → NoFeeds ls → NoFeed l → NoFeeds (ls ++ l ∷ [])
NoFeeds-push [] l p q = (q, tt)
NoFeeds-push (k ∷ ks) l p q = (p.0, NoFeeds-push ks l p.1 q)
