-- What a list says of one statement, among what it says of others.
use Rattle.std.proofs.Common.{◌≡◌, List, ◌++◌, ap, ◌∙◌, sym, append_assoc}
use Rattle.pascal_tree.specs.declared.stmt.Stmt.{Stmt}

-- `of` the old one stands between others in the whole, and stays there where another is put in its place
abbrev pub Splits : {A : Type 0} → (Stmt → List A) → List A → (Stmt → List A) → Stmt → Type 0
Splits {A} of whole puts old = (before : List A) × (after : List A) × (whole ≡ before ++ (of old ++ after)) × ((new : Stmt) → puts new ≡ before ++ (of new ++ after))

pub with_front : {A : Type 0} (of : Stmt → List A) (front whole : List A) (puts : Stmt → List A) (old : Stmt) → Splits of whole puts old → Splits of (front ++ whole) (λ new. front ++ puts new) old
with_front {A} of front whole puts old (before, after, is, will) =
    (front ++ before, after, ap (λ (xs : List A). front ++ xs) is ∙ sym (append_assoc front before _), λ new. ap (λ (xs : List A). front ++ xs) (will new) ∙ sym (append_assoc front before _))

split_append : {A : Type 0} (before old after back : List A) → (before ++ (old ++ after)) ++ back ≡ before ++ (old ++ (after ++ back))
split_append {A} before old after back = append_assoc before (old ++ after) back ∙ ap (λ (xs : List A). before ++ xs) (append_assoc old after back)

pub with_back : {A : Type 0} (of : Stmt → List A) (back whole : List A) (puts : Stmt → List A) (old : Stmt) → Splits of whole puts old → Splits of (whole ++ back) (λ new. puts new ++ back) old
with_back {A} of back whole puts old (before, after, is, will) =
    (before, after ++ back, ap (λ (xs : List A). xs ++ back) is ∙ split_append before (of old) after back, λ new. ap (λ (xs : List A). xs ++ back) (will new) ∙ split_append before (of new) after back)

pub same_splits : {A : Type 0} (of : Stmt → List A) (w v : List A) (p q : Stmt → List A) (old : Stmt) → v ≡ w → ((new : Stmt) → q new ≡ p new) → Splits of w p old → Splits of v q old
same_splits of w v p q old e f (before, after, is, will) = (before, after, e ∙ is, λ new. f new ∙ will new)
