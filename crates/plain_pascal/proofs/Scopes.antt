-- Up the static links stand activations of the routines around.
use Rattle.std.proofs.Common.{◌≡◌, ℕ, zero, suc, ◌+◌, ◌-◌, ◌<◌, ◌≤◌, List, [], ◌∷◌, length, Option, Some, None, refl, sym, ap, ◌∙◌, subst, arith}
use Rattle.std.specs.Prelude.{drop, option_and_then}
use Rattle.plain_pascal.specs.Program.{RoutineRow, Program, routine_of}
use Rattle.plain_pascal.specs.State.{Activation, Control}
use Rattle.plain_pascal.specs.Memory.{from_activation, words_of, static_link_of, linked_up}
use Rattle.plain_pascal.specs.Typed.{slots_of, scope_row}
use Rattle.plain_pascal.specs.Valid.{AreOf, IsActivation, AllWait, NewestStands}
use Rattle.plain_pascal.proofs.Places.{Scoped}

none_dropped : (j : ℕ) → drop {A = Activation} j [] ≡ []
none_dropped zero = refl
none_dropped (suc j) = refl

drop_drop : (m j : ℕ) (xs : List Activation) → drop j (drop m xs) ≡ drop (m + j) xs
drop_drop zero j xs = let e : j ≡ 0 + j = omega arith in ap (λ n. drop n xs) e
drop_drop (suc m) j [] = none_dropped j ∙ sym (none_dropped (suc m + j))
drop_drop (suc m) j (a ∷ xs) = let e : suc m + j ≡ suc (m + j) = omega arith in drop_drop m j xs ∙ ap (λ n. drop n (a ∷ xs)) (sym e)

pub drop_count : (m : ℕ) (xs : List Activation) (a : Activation) (rest : List Activation) → drop m xs ≡ a ∷ rest → length xs ≡ m + suc (length rest)
drop_count zero xs a rest e = let h : length xs ≡ suc (length rest) = ap length e in omega (arith, h)
drop_count (suc m) [] a rest e = absurd (grind (arith, e))
drop_count (suc m) (x ∷ xs) a rest e = let h : length xs ≡ m + suc (length rest) = drop_count m xs a rest e in omega (arith, h)

-- an activation of the list, by its number
pub record Found (P : Program) (acts : List Activation) (number : ℕ) (r : RoutineRow) : Type 0 where
  pub activation : Activation
  pub older : List Activation
  pub at : from_activation acts number ≡ activation ∷ older
  pub count : number ≡ length older
  pub row : routine_of P activation.routine ≡ Some r
  pub is : IsActivation P acts activation older

-- each activation is one of the program
abbrev pub AllActivations : Program → List Activation → List Activation → Type 0
AllActivations P acts [] = Unit {0}
AllActivations P acts (a ∷ older) = IsActivation P acts a older × AllActivations P acts older

pub waiting_all : (P : Program) (acts : List Activation) (n : ℕ) (cs : List Control) (older : List Activation) → AllWait P acts n cs older → AllActivations P acts older
waiting_all P acts n [] [] h = tt
waiting_all P acts n [] (a ∷ older) h = absurd h
waiting_all P acts n (c ∷ cs) [] h = absurd h
waiting_all P acts n (c ∷ cs) (a ∷ older) h = (h.0, waiting_all P acts a.routine cs older h.3)

pub standing_all : (P : Program) (acts : List Activation) (cs : List Control) (xs : List Activation) → NewestStands P acts cs xs → AllActivations P acts xs
standing_all P acts [] [] h = tt
standing_all P acts [] (a ∷ older) h = absurd h
standing_all P acts (c ∷ cs) [] h = absurd h
standing_all P acts (c ∷ cs) (a ∷ older) h = (h.0, waiting_all P acts a.routine cs older h.2)

pub all_from : (P : Program) (acts : List Activation) (m : ℕ) (xs : List Activation) → AllActivations P acts xs → AllActivations P acts (drop m xs)
all_from P acts zero xs h = h
all_from P acts (suc m) [] h = tt
all_from P acts (suc m) (x ∷ xs) h = all_from P acts m xs h.1

-- an older activation is found in the whole list as in that of those older than another one
older_found : (acts : List Activation) (m : ℕ) (a : Activation) (older : List Activation) (link : ℕ) → drop m acts ≡ a ∷ older → link < length older → from_activation acts link ≡ from_activation older link
older_found acts m a older link e less =
    let long : length acts ≡ m + suc (length older) = drop_count m acts a older e in
    let split : length acts - suc link ≡ m + suc (length older - suc link) = omega (arith, long, less) in
    ap (λ n. drop n acts) split ∙ sym (drop_drop m (suc (length older - suc link)) acts) ∙ ap (drop (suc (length older - suc link))) e

module _ (P : Program) (no_zero : routine_of P 0 ≡ None) (a : Activation) (older : List Activation) where
  abbrev acts : List Activation
  acts = a ∷ older

  parent_found : AllActivations P acts acts → (number : ℕ) (r q : RoutineRow) → Found P acts number r → routine_of P r.owner ≡ Some q → Found P acts (static_link_of (from_activation acts number)) q
  parent_found all number r q f e = by f.older f.at f.is f.count
    where
      same_row : f.is.row ≡ r
      same_row = let h : Some f.is.row ≡ Some r = sym f.is.found ∙ f.row in cc h

      by : (rest : List Activation) → from_activation acts number ≡ f.activation ∷ rest → IsActivation P acts f.activation rest → number ≡ length rest → Found P acts (static_link_of (from_activation acts number)) q
      by [] at is count =
          let s : Some is.row ≡ Some r = sym is.found ∙ f.row in
          let none : r.owner ≡ 0 = ap (λ x. x.owner) (let t : is.row ≡ r = cc s in sym t) ∙ is.parent.0 in
          absurd (let clash : None ≡ Some q = sym no_zero ∙ ap (routine_of P) (sym none) ∙ e in grind (arith, clash))
      by (x ∷ rest) at is count =
          let s : Some is.row ≡ Some r = sym is.found ∙ f.row in
          let t : is.row ≡ r = cc s in
          let (less, b, tail, found, routine) = is.parent in
          let link : static_link_of (from_activation acts number) ≡ f.activation.static_link = ap static_link_of at in
          let place : from_activation acts f.activation.static_link ≡ b ∷ tail = older_found acts (length acts - suc number) f.activation (x ∷ rest) f.activation.static_link at less ∙ found in
          let here : AllActivations P acts (b ∷ tail) = subst (AllActivations P acts) place (all_from P acts (length acts - suc f.activation.static_link) acts all) in
          let long : length acts ≡ (length acts - suc number) + suc (length (x ∷ rest)) = drop_count (length acts - suc number) acts f.activation (x ∷ rest) at in
          let inside : suc f.activation.static_link ≤ length acts = omega (arith, long, less) in
          let long2 : length acts ≡ (length acts - suc f.activation.static_link) + suc (length tail) = drop_count (length acts - suc f.activation.static_link) acts b tail place in
          let counted : f.activation.static_link ≡ length tail = omega (arith, long2, inside) in
          subst (λ n. Found P acts n q) (sym link) (record { activation = b; older = tail; at = place; count = counted; row = ap (routine_of P) (routine ∙ ap (λ y. y.owner) t) ∙ e; is = here.0 })

  pub scope_found : AllActivations P acts acts → (k : ℕ) (r : RoutineRow) → scope_row P a.routine k ≡ Some r → Found P acts (linked_up acts k) r
  unfolding scope_row
  scope_found all zero r e =
      let none : length acts - suc (length acts - 1) ≡ 0 = omega arith in
      let number : length acts - 1 ≡ length older = omega arith in
      record { activation = a; older = older; at = ap (λ n. drop n acts) none; count = number; row = e; is = all.0 }
  scope_found all (suc k) r e = by (scope_row P a.routine k) refl e (λ q same. scope_found all k q same)
    where
      by : (x : Option RoutineRow) → scope_row P a.routine k ≡ x → option_and_then (λ y. routine_of P y.owner) x ≡ Some r → ((q : RoutineRow) → scope_row P a.routine k ≡ Some q → Found P acts (linked_up acts k) q) → Found P acts (linked_up acts (suc k)) r
      by None same h rest = absurd (grind (arith, h))
      by (Some q) same h rest = parent_found all (linked_up acts k) q r (rest q same) h

  -- the scopes that a statement of the newest activation sees
  pub all_scoped : AllActivations P acts acts → Scoped P acts (length older) a.routine
  all_scoped all = record {
    up = λ k r e. up_to k r (scope_found all k r e);
    words = λ k r e. words_in k r (scope_found all k r e);
  }
    where
      up_to : (k : ℕ) (r : RoutineRow) → Found P acts (linked_up acts k) r → linked_up acts k ≤ length older
      up_to k r f =
          let long : length acts ≡ (length acts - suc (linked_up acts k)) + suc (length f.older) = drop_count (length acts - suc (linked_up acts k)) acts f.activation f.older f.at in
          omega (arith, long, f.count)

      words_in : (k : ℕ) (r : RoutineRow) → Found P acts (linked_up acts k) r → AreOf acts (linked_up acts k) (slots_of r) (words_of (from_activation acts (linked_up acts k)))
      words_in k r f =
          let s : Some f.is.row ≡ Some r = sym f.is.found ∙ f.row in
          let t : f.is.row ≡ r = cc s in
          subst (λ w. AreOf acts (linked_up acts k) (slots_of r) w) (sym (ap words_of f.at))
          (subst (λ n. AreOf acts n (slots_of r) f.activation.words) (sym f.count) (subst (λ q. AreOf acts (length f.older) (slots_of q) f.activation.words) t f.is.words))
