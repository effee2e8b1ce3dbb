use Rattle.std.proofs.Common.{◌≡◌, drop, map}
use Rattle.std.specs.Str.{bytes_eq}
use Rattle.std.specs.List.{position_from}
use Rattle.pascal_scanner.proofs.sign.place_of.Given as goal

abbrev pub invariant-loop-at : goal.invariant-loop-at
invariant-loop-at l =
    position_from (λ entry. bytes_eq entry l.piece) 0 (map (λ entry. entry.now) l.table)
    ≡ position_from (λ entry. bytes_eq entry l.piece) l.at (map (λ entry. entry.now) (drop l.at l.table))
