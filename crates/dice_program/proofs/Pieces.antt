-- How lines that were read, and what is left, make up a script.
use Rattle.std.proofs.Common.{◌≡◌, ◌<◌, ◌≤◌, ℕ, ◌+◌, ◌-◌, Bool, true, false, if◌then◌else◌, List, [], ◌∷◌, ◌++◌, length, length-append, take, map, get_or, refl, sym, ap, ◌∙◌, append_assoc, append-nil, subst, inl, inr, arith, nat_lt, take_all}
use Rattle.std.proofs.lemmas.Bool.{ltb_from_iff, ltb-true, lt-ltb, le-ltb, cases_eq}
use Rattle.std.proofs.lemmas.List.{map-append, length-map, get_or-append-add}
use Rattle.std.proofs.Math.Seq.{take-append-add, take-append_seam, take-nil}
use Rattle.dice_base.specs.Lines.{pieces, NoFeed, NoFeeds, joined, whole_lines, some_line}
use Rattle.dice_base.specs.LinesLaws.{NoFeed-push, pieces-joined, pieces-plain, pieces-some, whole_lines-joined, whole_lines-plain}
use Rattle.script_lines.specs.Front.{strip}
use Rattle.dice_program.specs.Script.{ended_lines, last_piece, lines_in, acted_within}

pub ended-joined : (ls : List (List ℕ)) (rest : List ℕ) → NoFeeds ls → ended_lines (joined ls ++ rest) ≡ map strip ls ++ ended_lines rest
unfolding ended_lines
ended-joined ls rest h = ap (map strip) (whole_lines-joined ls rest h) ∙ map-append strip ls (whole_lines rest)

pub ended-plain : (l : List ℕ) → NoFeed l → ended_lines l ≡ []
unfolding ended_lines
ended-plain l h = ap (map strip) (whole_lines-plain l h)

last-append : (ls ps : List (List ℕ)) → 0 < length ps → get_or (ls ++ ps) (length (ls ++ ps) - 1) [] ≡ get_or ps (length ps - 1) []
last-append ls ps h =
    let e : length (ls ++ ps) - 1 ≡ length ls + (length ps - 1) = omega (arith, length-append ls ps) in
    ap (λ n. get_or (ls ++ ps) n []) e ∙ get_or-append-add ls ps (length ps - 1) []

last-joined : (ls : List (List ℕ)) (rest : List ℕ) → NoFeeds ls → last_piece (joined ls ++ rest) ≡ last_piece rest
unfolding last_piece
last-joined ls rest h =
    ap (λ ps. get_or ps (length ps - 1) []) (pieces-joined ls rest h) ∙ last-append ls (pieces rest) (pieces-some rest)

last-plain : (l : List ℕ) → NoFeed l → last_piece l ≡ l
unfolding last_piece
last-plain l h = ap (λ ps. get_or ps (length ps - 1) []) (pieces-plain l h)

pub lines-joined : (ls : List (List ℕ)) (rest : List ℕ) → NoFeeds ls → lines_in (joined ls ++ rest) ≡ map strip ls ++ lines_in rest
unfolding lines_in
lines-joined ls rest h =
    ap (λ ws. ws ++ some_line (last_piece (joined ls ++ rest))) (ended-joined ls rest h)
    ∙ ap (λ p. (map strip ls ++ ended_lines rest) ++ some_line p) (last-joined ls rest h)
    ∙ append_assoc (map strip ls) (ended_lines rest) _

pub lines-plain : (l : List ℕ) → NoFeed l → lines_in l ≡ some_line l
unfolding lines_in
lines-plain l h = ap (λ ws. ws ++ some_line (last_piece l)) (ended-plain l h) ∙ ap some_line (last-plain l h)

-- a bound past the front of a list is a bound on its rest
past : (xs ys : List ℕ) (m : ℕ) → nat_lt (length xs + m) (length (xs ++ ys)) ≡ nat_lt m (length ys)
past xs ys m = ltb_from_iff (
  (λ h. let k : length xs + m < length (xs ++ ys) = ltb-true (length xs + m) (length (xs ++ ys)) h in omega (arith, length-append xs ys, k)),
  (λ h. lt-ltb (length xs + m) (length (xs ++ ys)) (omega (arith, length-append xs ys, h))),
)

chosen : (t : Bool) (ls : List (List ℕ)) (rest : List ℕ) (m : ℕ) → NoFeeds ls
    → (if t then ended_lines (take (length (joined ls) + m) (joined ls ++ rest)) else lines_in (joined ls ++ rest))
    ≡ map strip ls ++ (if t then ended_lines (take m rest) else lines_in rest)
chosen true ls rest m h = ap ended_lines (take-append-add (joined ls) rest m) ∙ ended-joined ls (take m rest) h
chosen false ls rest m h = lines-joined ls rest h

taken : (ls ms : List (List ℕ)) (n : ℕ) → take (length ls + n) (map strip ls ++ ms) ≡ map strip ls ++ take n ms
taken ls ms n =
    ap (λ k. take (k + n) (map strip ls ++ ms)) (sym (length-map ls strip)) ∙ take-append-add (map strip ls) ms n

pub acted-joined : (ls : List (List ℕ)) (rest : List ℕ) (n m : ℕ) → NoFeeds ls
    → acted_within (length ls + n) (length (joined ls) + m) (joined ls ++ rest) ≡ map strip ls ++ acted_within n m rest
unfolding acted_within
acted-joined ls rest n m h =
    ap (λ t. take (length ls + n) (if t then ended_lines (take (length (joined ls) + m) (joined ls ++ rest)) else lines_in (joined ls ++ rest))) (past (joined ls) rest m)
    ∙ ap (take (length ls + n)) (chosen (nat_lt m (length rest)) ls rest m h)
    ∙ taken ls (if nat_lt m (length rest) then ended_lines (take m rest) else lines_in rest) n

-- all of a last line that fits is acted on
pub acted-last : (line : List ℕ) (more room : ℕ) → NoFeed line → length line ≤ room → length (some_line line) ≤ more
    → acted_within more room line ≡ some_line line
unfolding acted_within
acted-last line more room plain fits few =
    ap (λ t. take more (if t then ended_lines (take room line) else lines_in line)) (le-ltb room (length line) fits)
    ∙ ap (take more) (lines-plain line plain) ∙ take_all more (some_line line) few

-- nothing of a line that does not fit
pub acted-past : (line rest : List ℕ) (b more : ℕ) → NoFeed line → acted_within more (length line) (line ++ b ∷ rest) ≡ []
unfolding acted_within
acted-past line rest b more plain =
    ap (λ t. take more (if t then ended_lines (take (length line) (line ++ b ∷ rest)) else lines_in (line ++ b ∷ rest)))
    (lt-ltb (length line) (length (line ++ b ∷ rest)) (omega (arith, length-append line (b ∷ rest))))
    ∙ ap (λ x. take more (ended_lines x)) (take-append_seam line (b ∷ rest)) ∙ ap (take more) (ended-plain line plain) ∙ take-nil more

pub acted-none : (x : List ℕ) (room : ℕ) → acted_within 0 room x ≡ []
unfolding acted_within
acted-none x room = refl

pub some-few : (line : List ℕ) → length (some_line line) ≤ 1
some-few [] = omega arith
some-few (b ∷ bs) = omega arith

pub whole-more : (line rest : List ℕ) → NoFeed line → 0 < length (lines_in (line ++ 10 ∷ rest))
whole-more line rest plain =
    let e : lines_in (line ++ 10 ∷ rest) ≡ strip line ∷ lines_in rest =
    ap lines_in (sym (append_assoc line (10 ∷ []) rest)) ∙ lines-joined (line ∷ []) rest (plain, tt) in
    omega (arith, ap length e)

pub last-more : (line : List ℕ) → NoFeed line → 0 < length line → 0 < length (lines_in line)
last-more [] plain some = absurd (omega (arith, some))
last-more (b ∷ bs) plain some = omega (arith, ap length (lines-plain (b ∷ bs) plain))

-- whole lines alone
pub ended-all : (ls : List (List ℕ)) → NoFeeds ls → ended_lines (joined ls) ≡ map strip ls
ended-all ls h =
    ap ended_lines (sym (append-nil (joined ls))) ∙ ended-joined ls [] h ∙ ap (λ x. map strip ls ++ x) (ended-plain [] tt) ∙ append-nil (map strip ls)

pub last-all : (ls : List (List ℕ)) → NoFeeds ls → last_piece (joined ls) ≡ []
last-all ls h = ap last_piece (sym (append-nil (joined ls))) ∙ last-joined ls [] h ∙ last-plain [] tt

pub lines-all : (ls : List (List ℕ)) → NoFeeds ls → lines_in (joined ls) ≡ map strip ls
lines-all ls h =
    ap lines_in (sym (append-nil (joined ls))) ∙ lines-joined ls [] h ∙ ap (λ x. map strip ls ++ x) (lines-plain [] tt) ∙ append-nil (map strip ls)

-- one line, whole or in part
pub few-plain : (line : List ℕ) → NoFeed line → length (lines_in line) ≤ 1
few-plain line plain = omega (arith, ap length (lines-plain line plain), some-few line)

pub few-whole : (line : List ℕ) → NoFeed line → length (lines_in (line ++ 10 ∷ [])) ≤ 1
few-whole line plain = omega (arith, ap length (lines-all (line ∷ []) (plain, tt)))

pub few-past : (line : List ℕ) (b : ℕ) → NoFeed line → length (lines_in (line ++ b ∷ [])) ≤ 1
few-past line b plain = elim (cases_eq b 10) [
  | inl feed ↦ subst (λ x. length (lines_in (line ++ x ∷ [])) ≤ 1) (sym feed) (few-whole line plain)
  | inr other ↦ few-plain (line ++ b ∷ []) (NoFeed-push line b plain other)
]
