-- Rows that are pushed one after the other.
use Rattle.std.proofs.Common.{◌≡◌, ◌≤◌, ◌<◌, ℕ, List, [], ◌∷◌, ◌++◌, Option, Some, None, Result, Ok, Err, refl, ap, ◌∙◌, append_assoc, arith}
use Rattle.std.proofs.lemmas.Bool.Decides.{nat_tests}
use Rattle.check_rules.specs.declared.fault.SizeFault.{SizeFault}
use Rattle.check_rules.specs.declared.fault.CheckEnd.{CheckEnd}
use Rattle.check_rules.specs.declared.fault.CheckEnd.TheVariants as the_end
use Rattle.core_tree.specs.Control.{Row, name_of}
use Rattle.resolve_statements.specs.Sizes.{first_of, fault_past, form_fault, first_size, ArePushed, Pushed}

pub fits : (n limit : ℕ) (f : SizeFault) → n ≤ limit → fault_past limit n f ≡ None
fits n limit f within = grind (arith, nat_tests)

pub passes : (n limit : ℕ) (f : SizeFault) → limit < n → fault_past limit n f ≡ Some f
passes n limit f past = grind (arith, nat_tests)

first_assoc : (x y z : Option SizeFault) → first_of x (first_of y z) ≡ first_of (first_of x y) z
first_assoc None y z = refl
first_assoc (Some f) y z = refl

module _ {A B : Type 0} where
  size_append : (xs ys : List (Row A B)) → first_size (xs ++ ys) ≡ first_of (first_size xs) (first_size ys)
  size_append [] ys = refl
  size_append (x ∷ xs) ys =
      ap (first_of (form_fault (name_of x.name) x.form)) (size_append xs ys)
      ∙ first_assoc (form_fault (name_of x.name) x.form) (first_size xs) (first_size ys)

  -- behind rows that stand there, more
  pub pushed_behind : {U : Type 0} (r : Result U CheckEnd) (old middle new xs ys : List (Row A B))
      → ArePushed old middle xs → Pushed r middle new ys → Pushed r old new (xs ++ ys)
  pushed_behind (Ok u) old middle new xs ys before more = record {
    pushed = more.pushed ∙ (ap (λ zs. zs ++ ys) before.pushed ∙ append_assoc old xs ys);
    fit = size_append xs ys ∙ (ap (λ s. first_of s (first_size ys)) before.fit ∙ more.fit);
  }
  pushed_behind (Err (the_end.Size f)) old middle new xs ys before more =
      size_append xs ys ∙ (ap (λ s. first_of s (first_size ys)) before.fit ∙ more)
  pushed_behind (Err (the_end.Fault f)) old middle new xs ys before more = more
  pushed_behind (Err the_end.NoMemory) old middle new xs ys before more = more

  -- a limit that is not kept ends what would follow
  pub ended_before : (U V : Type 0) (e : CheckEnd) (old new other xs ys : List (Row A B))
      → Pushed {U = U} (Err e) old new xs → Pushed {U = V} (Err e) old other (xs ++ ys)
  ended_before U V (the_end.Size f) old new other xs ys ends = size_append xs ys ∙ ap (λ s. first_of s (first_size ys)) ends
  ended_before U V (the_end.Fault f) old new other xs ys ends = ends
  ended_before U V the_end.NoMemory old new other xs ys ends = ends
