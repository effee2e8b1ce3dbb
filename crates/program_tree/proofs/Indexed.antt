-- Entries that are put into an index from the last one on: of entries with one name the first stays.
use Rattle.std.proofs.Common.{◌≡◌, ℕ, ◌<◌, Bool, true, false, List, [], ◌∷◌, ◌++◌, length, Option, Some, None, nat_eq, refl, sym, ap, ◌∙◌, arith, length-append, if◌then◌else◌}
use Rattle.std.specs.Option.{option_or}
use Rattle.indexmap.specs.IndexMap.{get}
use Rattle.program_tree.specs.declared.index.Entry.{Entry}
use Rattle.program_tree.specs.Entries.{Index, path_in}
use Rattle.program_tree.proofs.TreeSearch.{path_in_append}

option_or-assoc : {A : Type 0} (a b c : Option A) → option_or (option_or a b) c ≡ option_or a (option_or b c)
option_or-assoc None b c = refl
option_or-assoc (Some x) b c = refl

-- what is found in the entries that are left, and then in the map
abbrev pub found_in : ℕ → List Entry → Index → Option (List ℕ)
found_in n entries index = option_or (path_in n entries) (get nat_eq index n)

inserted : (n : ℕ) (e : Entry) (o : Option (List ℕ)) → option_or (path_in n (e ∷ [])) o ≡ (if nat_eq e.name.0 n then Some e.path else o)
inserted n e o = go (nat_eq e.name.0 n) refl
  where
    go : (b : Bool) → nat_eq e.name.0 n ≡ b → option_or (path_in n (e ∷ [])) o ≡ (if nat_eq e.name.0 n then Some e.path else o)
    go true h = rw h refl
    go false h = rw h refl

pub found_in-insert : (n : ℕ) (old left : List Entry) (e : Entry) (before after : Index) → old ≡ left ++ e ∷ [] → get nat_eq after n ≡ (if nat_eq e.name.0 n then Some e.path else get nat_eq before n)
    → found_in n left after ≡ found_in n old before
found_in-insert n old left e before after is found =
    ap (λ (o : Option (List ℕ)). option_or (path_in n left) o) (found ∙ sym (inserted n e (get nat_eq before n)))
    ∙ sym (option_or-assoc (path_in n left) (path_in n (e ∷ [])) (get nat_eq before n))
    ∙ ap (λ (o : Option (List ℕ)). option_or o (get nat_eq before n)) (sym (path_in_append n left (e ∷ [])) ∙ ap (λ (es : List Entry). path_in n es) (sym is))
