-- Lists of kinds that are joined.
use Rattle.std.proofs.Common.{◌≡◌, List, [], ◌∷◌, ◌++◌, refl, ap}
use Rattle.plain_pascal.specs.Program.{Kind}

pub no_more_kinds : (ks : List Kind) → ks ++ [] ≡ ks
no_more_kinds [] = refl
no_more_kinds (k ∷ ks) = ap (λ x. k ∷ x) (no_more_kinds ks)

pub joined_kinds : (xs ys zs : List Kind) → (xs ++ ys) ++ zs ≡ xs ++ (ys ++ zs)
joined_kinds [] ys zs = refl
joined_kinds (x ∷ xs) ys zs = ap (λ ks. x ∷ ks) (joined_kinds xs ys zs)
