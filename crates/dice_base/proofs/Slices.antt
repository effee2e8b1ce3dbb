-- Parts of lists.
use Rattle.std.proofs.Common.{◌≡◌, ℕ, ◌+◌, ◌-◌, ◌≤◌, List, ◌++◌, length, take, drop, take_all, length-drop, sym, ap, ◌∙◌, arith}
use Rattle.std.proofs.lemmas.List.{length-take-le, take-append-le}
use Rattle.std.proofs.Math.Seq.{take-append-add}

-- all of what stands behind the first n
pub rest_whole : (n : ℕ) (xs : List ℕ) → take (length xs - n) (drop n xs) ≡ drop n xs
rest_whole n xs = take_all (length xs - n) (drop n xs) (omega (arith, length-drop n xs))

-- the front of a list whose first n stay, and the next k are those of a piece
pub take-overwritten : (n k : ℕ) (old new rest piece : List ℕ) → n ≤ length old → k ≤ length new → take k new ≡ take k piece
    → take (n + k) (take n old ++ (new ++ rest)) ≡ take n old ++ take k piece
take-overwritten n k old new rest piece within fits same =
    ap (λ m. take (m + k) (take n old ++ (new ++ rest))) (sym (length-take-le n old within))
    ∙ take-append-add (take n old) (new ++ rest) k
    ∙ ap (λ t. take n old ++ t) (take-append-le k new rest fits ∙ same)
