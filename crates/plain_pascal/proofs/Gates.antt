-- Control that comes to a gate of its routine, or goes on behind a statement, finds a state in order.
use Rattle.std.proofs.Common.{◌≡◌, ℕ, zero, suc, ◌+◌, ◌-◌, ◌<◌, ◌≤◌, Bool, true, false, nat_le, List, [], ◌∷◌, ◌++◌, length, Option, Some, None, refl, sym, ap, ◌∙◌, subst, arith, inl, inr}
use Rattle.std.specs.Prelude.{ℤ, pos, negsuc, ◌+ℤ◌, ◌-ℤ◌, ◌≤ℤ◌, int_le, nat_lt, if◌then◌else◌, take, drop}
use Rattle.std.proofs.lemmas.Bool.Decides.{nat_tests}
use Rattle.std.proofs.lemmas.Int.{ints}
use Rattle.dice_base.specs.Word.{signed_value}
use Rattle.core_tree.specs.declared.form.ForLoop.{ForLoop}
use Rattle.core_tree.specs.declared.form.StatementOp.{StatementOp}
use Rattle.core_tree.specs.declared.form.StatementOp.TheVariants as stmt
use Rattle.core_tree.specs.Control.{Continuation, ToGate, ToStep, ToEnd, ToLeave, ToFinish}
use Rattle.plain_pascal.specs.Program.{Kind, NoKind, WordKind, SetKind, PlaceKind, RoutineRow, Program, row_of}
use Rattle.plain_pascal.specs.State.{Place, Global, Local, Heap, Literal, Value, Word, Members, At, NoValue, Activation, Data, Control}
use Rattle.plain_pascal.specs.Memory.{words_of, word_in, word_at, variable_place}
use Rattle.plain_pascal.specs.Integers.{word_of}
use Rattle.plain_pascal.specs.Operations.{part}
use Rattle.plain_pascal.specs.Step.{at_gate, arrived, control_value, held_in, holds_cut, is_last, limit_in, next_value, stack_charges, stepped_loop, turn_of, turned}
use Rattle.plain_pascal.specs.Typed.{IsStatement, IsVariable}
use Rattle.plain_pascal.specs.Valid.{IsWord, IsOf, AreOf, ArePlain, LiesIn, HasParent, HasGate, GoesOn, IsActivation, AllWait, NewestStands, IsData, IsProgram, IsWellFormed}
use Rattle.plain_pascal.proofs.Moves.{activation_moved, values_moved, waits_moved}
use Rattle.plain_pascal.proofs.Places.{Scoped, variable_lies}
use Rattle.plain_pascal.proofs.Scopes.{all_scoped, waiting_all}
use Rattle.plain_pascal.proofs.Sound.{place_word}
use Rattle.plain_pascal.proofs.Stays.{activation_alike, waits_alike}
use Rattle.plain_pascal.proofs.Stores.{AllAlike, IsAfter, same_count, values_alike, word_after}
use Rattle.plain_pascal.proofs.Joined.{joined_kinds, no_more_kinds}

-- ---- other holds

module _ (a : Activation) (xs : List Activation) (hs : List Value) where
  abbrev pub rehold : Activation
  rehold = record a { holds = hs }

  same_words : (k : ℕ) → words_of (drop k (a ∷ xs)) ≡ words_of (drop k (rehold ∷ xs))
  same_words zero = refl
  same_words (suc k) = refl

  pub lies_held : (newest : ℕ) (p : Place) (n : ℕ) → LiesIn (a ∷ xs) newest p n → LiesIn (rehold ∷ xs) newest p n
  lies_held newest (Global w) n h = h
  lies_held newest (Heap w) n h = h
  lies_held newest (Literal text) n h = h
  lies_held newest (Local b w) n h = subst (λ vs. (b ≤ newest) × (w + n ≤ length vs) × ArePlain vs w n) (same_words (length (a ∷ xs) - suc b)) h

  pub values_held : (P : Program) (ks : List Kind) (vs : List Value) → AreOf (a ∷ xs) (length xs) ks vs → AreOf (rehold ∷ xs) (length xs) ks vs
  values_held P ks vs h = values_moved P (a ∷ xs) (rehold ∷ xs) (suc (length xs)) (λ newest less p n l. lies_held newest p n l) (length xs) (omega arith) ks vs h

  parent_held : (r : RoutineRow) (ys : List Activation) → HasParent r a ys → HasParent r rehold ys
  parent_held r [] h = h
  parent_held r (y ∷ ys) h = h

  pub activation_held : (P : Program) → IsActivation P (a ∷ xs) a xs → IsActivation P (rehold ∷ xs) rehold xs
  activation_held P is =
      let m : IsActivation P (rehold ∷ xs) a xs = activation_moved P (a ∷ xs) (rehold ∷ xs) (suc (length xs)) (λ newest less p n l. lies_held newest p n l) a xs (omega arith) is in
      record { row = m.row; found = m.found; words = m.words; parent = parent_held m.row xs m.parent }

  pub waits_held : (P : Program) (n : ℕ) (cs : List Control) → AllWait P (a ∷ xs) n cs xs → AllWait P (rehold ∷ xs) n cs xs
  waits_held P n cs w = waits_moved P (a ∷ xs) (rehold ∷ xs) (suc (length xs)) (λ newest less p k l. lies_held newest p k l) n cs xs (omega arith) w

-- ---- the newest activation, wherever control is in it

-- it is one of this routine, and holds these, and maybe more
abbrev pub Holding : Program → ℕ → List Kind → List Control → List Activation → Type 0
Holding P r ks cs [] = ⊥
Holding P r ks cs (a ∷ xs) = (a.routine ≡ r) × IsActivation P (a ∷ xs) a xs × AllWait P (a ∷ xs) a.routine cs xs × ((more : List Kind) × AreOf (a ∷ xs) (length xs) (ks ++ more) a.holds)

module _ (P : Program) (r : ℕ) (ks : List Kind) (cs : List Control) where
  pub holding_alike : (xs ys : List Activation) → AllAlike xs ys → Holding P r ks cs xs → Holding P r ks cs ys
  holding_alike [] ys e h = absurd h
  holding_alike (a ∷ xs) [] e h = absurd e
  holding_alike (a ∷ xs) (b ∷ ys) e h = (
    sym e.0.routine ∙ h.0,
    activation_alike P (a ∷ xs) (b ∷ ys) e a b xs ys e.0 e.1 h.1,
    waits_alike P (a ∷ xs) (b ∷ ys) e a.routine b.routine cs xs ys e.0.routine e.1 h.2,
    (
      h.3.0,
      subst (λ n. AreOf (b ∷ ys) n (ks ++ h.3.0) b.holds) (same_count xs ys e.1)
          (subst (AreOf (b ∷ ys) (length xs) (ks ++ h.3.0)) e.0.holds (values_alike (a ∷ xs) (b ∷ ys) e (length xs) (ks ++ h.3.0) a.holds h.3.1)),
    ),
  )

  pub holding_scoped : IsProgram P → (acts : List Activation) → Holding P r ks cs acts → (newest : ℕ) × Scoped P acts newest r
  holding_scoped program [] h = absurd h
  holding_scoped program (a ∷ xs) h =
      (length xs, subst (λ n. Scoped P (a ∷ xs) (length xs) n) h.0 (all_scoped P program.no_zero a xs (h.1, waiting_all P (a ∷ xs) a.routine cs xs h.2)))

-- the first holds are kept
pub first_held : (acts : List Activation) (newest : ℕ) (ks more : List Kind) (vs : List Value) → AreOf acts newest (ks ++ more) vs → AreOf acts newest ks (take (length ks) vs)
first_held acts newest [] more [] h = tt
first_held acts newest [] more (v ∷ vs) h = tt
first_held acts newest (k ∷ ks) more [] h = absurd h
first_held acts newest (k ∷ ks) more (v ∷ vs) h = (h.0, first_held acts newest ks more vs h.1)

none_held : (vs : List Value) → take 0 vs ≡ []
none_held [] = refl
none_held (v ∷ vs) = refl

charges_cut : (k : ℕ) (acts : List Activation) → stack_charges (holds_cut k acts) ≡ stack_charges acts
charges_cut k [] = refl
charges_cut k (a ∷ xs) = refl

-- ---- a word of a `for`

signed_small : (w : ℕ) → w < 65536 → signed_value w ≤ℤ pos 32767
signed_small w less = by (nat_lt w 32768) refl
  where
    by : (b : Bool) → nat_lt w 32768 ≡ b → (if b then pos w else pos w -ℤ pos 65536) ≤ℤ pos 32767
    by true e = let low : w < 32768 = grind (arith, nat_tests, e) in omega (arith, ints, low)
    by false e = omega (arith, ints, less)

pub word_small : (z : ℤ) → z ≤ℤ pos 32767 → word_of z < 65536
word_small (pos n) h = omega (arith, ints, h)
word_small (negsuc n) h = omega arith

pub value_small : (w : ℕ) → w < 65536 → IsWord (word_of (signed_value w))
value_small w less = word_small (signed_value w) (signed_small w less)

tells_not : (a b : ℤ) → int_le a b ≡ false → (b +ℤ pos 1) ≤ℤ a
tells_not (pos n) (pos m) e = let h : nat_le n m ≡ false = e in let k : m < n = grind (arith, nat_tests, h) in omega (arith, ints, k)
tells_not (pos n) (negsuc m) e = omega (arith, ints)
tells_not (negsuc n) (pos m) e = absurd (grind (arith, e))
tells_not (negsuc n) (negsuc m) e = let h : nat_le m n ≡ false = e in let k : n < m = grind (arith, nat_tests, h) in omega (arith, ints, k)

next_small : (loop : ForLoop) (z limit : ℤ) → z ≤ℤ pos 32767 → limit ≤ℤ pos 32767 → is_last loop limit z ≡ false → next_value loop z ≤ℤ pos 32767
next_small loop z limit low high e = by loop.down e
  where
    by : (b : Bool) → (if b then int_le z limit else int_le limit z) ≡ false → (if b then z -ℤ pos 1 else z +ℤ pos 1) ≤ℤ pos 32767
    by true e = omega (arith, ints, low)
    by false e = let h : (z +ℤ pos 1) ≤ℤ limit = tells_not limit z e in omega (arith, ints, h, high)

pub part_word : (acts : List Activation) (newest : ℕ) (ks : List Kind) (vs : List Value) (i : ℕ) → AreOf acts newest ks vs → IsWord (word_in (part vs i))
part_word acts newest ks [] i h = omega arith
part_word acts newest [] (v ∷ vs) i h = absurd h
part_word acts newest (k ∷ ks) (v ∷ vs) (suc i) h = part_word acts newest ks vs i h.1
part_word acts newest (k ∷ ks) (v ∷ vs) zero h = by k v h.0
  where
    by : (k : Kind) (v : Value) → IsOf acts newest k v → IsWord (word_in v)
    by WordKind (Word w) e = e
    by WordKind v e = absurd e
    by NoKind (Word w) e = absurd e
    by SetKind (Word w) e = absurd e
    by (PlaceKind n) (Word w) e = absurd e
    by k (Members ws) e = omega arith
    by k (At p) e = omega arith
    by k NoValue e = omega arith

limit_small : (acts : List Activation) (hold : ℕ) (P : Program) (r : ℕ) (ks : List Kind) (cs : List Control) → Holding P r ks cs acts → limit_in acts hold ≤ℤ pos 32767
limit_small [] hold P r ks cs h = absurd h
limit_small (a ∷ xs) hold P r ks cs h = signed_small (word_in (part a.holds (hold - 1))) (part_word (a ∷ xs) (length xs) (ks ++ h.3.0) a.holds (hold - 1) h.3.1)

-- the variable of a `for`
pub loop_variable : (P : Program) (r : ℕ) (loop : ForLoop) (ks : List Kind) → IsStatement P r (stmt.For loop) ks → IsVariable P r loop.variable.scope loop.variable 1
loop_variable P r loop (WordKind ∷ (WordKind ∷ [])) h = h
loop_variable P r loop ks h = absurd h

module _ (P : Program) (program : IsProgram P) (r : ℕ) (cs : List Control) where
  -- ---- a gate

  stands_cut : (ks : List Kind) (n : ℕ) (g : HasGate P r ks n) (acts : List Activation) → Holding P r ks cs acts → NewestStands P (holds_cut (held_in (row_of P n)) acts) (record { statement = n; frames = [] } ∷ cs) (holds_cut (held_in (row_of P n)) acts)
  stands_cut ks n g [] h = absurd h
  stands_cut ks n g (a ∷ xs) h =
      let count : held_in (row_of P n) ≡ length g.row.around = ap held_in g.found ∙ (program.forms n g.row g.found).holds in
      let held : AreOf (a ∷ xs) (length xs) (g.row.around ++ (g.ended ++ h.3.0)) a.holds =
      subst (λ js. AreOf (a ∷ xs) (length xs) js a.holds) (ap (λ js. js ++ h.3.0) g.around ∙ joined_kinds g.row.around g.ended h.3.0) h.3.1 in
      let cut : AreOf (a ∷ xs) (length xs) g.row.around (take (held_in (row_of P n)) a.holds) =
      subst (λ k. AreOf (a ∷ xs) (length xs) g.row.around (take k a.holds)) (sym count) (first_held (a ∷ xs) (length xs) g.row.around (g.ended ++ h.3.0) a.holds held) in (
        activation_held a xs (take (held_in (row_of P n)) a.holds) P h.1,
        inl (record {
          row = g.row;
          found = g.found;
          inside = g.inside ∙ sym h.0;
          held = subst (λ js. AreOf (rehold a xs (take (held_in (row_of P n)) a.holds) ∷ xs) (length xs) js (take (held_in (row_of P n)) a.holds)) (sym (no_more_kinds g.row.around))
              (values_held a xs (take (held_in (row_of P n)) a.holds) P g.row.around (take (held_in (row_of P n)) a.holds) cut);
          frames = inl refl;
        }),
        waits_held a xs (take (held_in (row_of P n)) a.holds) P a.routine cs h.2,
      )

  -- the routine's own gate
  stands_out : (ks : List Kind) (n : ℕ) → n ≡ r → (acts : List Activation) → Holding P r ks cs acts → NewestStands P (holds_cut (held_in (row_of P n)) acts) (record { statement = n; frames = [] } ∷ cs) (holds_cut (held_in (row_of P n)) acts)
  stands_out ks n same [] h = absurd h
  stands_out ks n same (a ∷ xs) h =
      let here : n ≡ a.routine = same ∙ sym h.0 in
      let bare : row_of P n ≡ None = ap (row_of P) here ∙ program.bare a.routine h.1.row h.1.found in
      let none : take (held_in (row_of P n)) a.holds ≡ [] = ap (λ x. take (held_in x) a.holds) bare ∙ none_held a.holds in (
        activation_held a xs (take (held_in (row_of P n)) a.holds) P h.1,
        inr (here, refl, none),
        waits_held a xs (take (held_in (row_of P n)) a.holds) P a.routine cs h.2,
      )

  data_cut : (k : ℕ) (d : Data) → IsData d → IsData (record d { activations = holds_cut k d.activations })
  data_cut k d good = record {
    globals_long = good.globals_long;
    globals_words = good.globals_words;
    heap_long = good.heap_long;
    heap_words = good.heap_words;
    used = good.used;
    cells = good.cells;
    stack = let same : stack_charges (holds_cut k d.activations) ≡ stack_charges d.activations = charges_cut k d.activations in omega (arith, same, good.stack);
    input = good.input;
  }

  pub gate_reached : (ks : List Kind) (n : ℕ) (d : Data) → IsData d → Holding P r ks cs d.activations → HasGate P r ks n → IsWellFormed P (at_gate P n cs d)
  gate_reached ks n d good h g = record { data_good = data_cut (held_in (row_of P n)) d good; stands = stands_cut ks n g d.activations h }

  -- ---- the step of a `for`

  IsTurn : Data → Option Data → Type 0
  IsTurn d None = Unit {0}
  IsTurn d (Some e) = IsAfter d e

  for_turns : (loop : ForLoop) (holds : ℕ) (ks : List Kind) (d : Data) → IsData d → Holding P r ks cs d.activations → IsVariable P r loop.variable.scope loop.variable 1 → IsTurn d (turn_of (stmt.For loop) holds d)
  unfolding IsTurn
  for_turns loop holds ks d good h is = by (is_last loop (limit_in d.activations (holds + 1)) (control_value loop d)) refl
    where
      by : (b : Bool) → is_last loop (limit_in d.activations (holds + 1)) (control_value loop d) ≡ b → IsTurn d (if b then None else Some (stepped_loop loop d))
      by true e = tt
      by false e =
          let (newest, scoped) = holding_scoped P r ks cs program d.activations h in
          let lies : LiesIn d.activations newest (variable_place d loop.variable) 1 = variable_lies P d.activations newest r scoped loop.variable.scope loop.variable 1 is in
          let old : control_value loop d ≤ℤ pos 32767 = signed_small (word_at d (variable_place d loop.variable)) (place_word d good newest (variable_place d loop.variable) 1 lies (omega arith)) in
          let small : next_value loop (control_value loop d) ≤ℤ pos 32767 = next_small loop (control_value loop d) (limit_in d.activations (holds + 1)) old (limit_small d.activations (holds + 1) P r ks cs h) e in
          word_after d newest (variable_place d loop.variable) (word_of (next_value loop (control_value loop d))) good lies (word_small (next_value loop (control_value loop d)) small)

  turns : (o : StatementOp) (js : List Kind) → IsStatement P r o js → (holds : ℕ) (ks : List Kind) (d : Data) → IsData d → Holding P r ks cs d.activations → IsTurn d (turn_of o holds d)
  unfolding IsTurn
  turns (stmt.For loop) js t holds ks d good h = for_turns loop holds ks d good h (loop_variable P r loop js t)
  turns o js t holds ks d good h = tt

  -- ---- behind a statement

  no_charges : 0 ≤ 6912
  no_charges = omega arith

  pub goes_on : (k : Continuation) (ks : List Kind) (d : Data) → IsData d → Holding P r ks cs d.activations → GoesOn P r ks k → IsWellFormed P (arrived P k cs d)
  unfolding IsTurn
  goes_on (ToGate n) ks d good h g = gate_reached ks n d good h g
  goes_on (ToLeave n) ks d good h g = record { data_good = data_cut (held_in (row_of P n)) d good; stands = stands_out ks n g d.activations h }
  goes_on ToFinish ks d good h g = record {
    data_good = record { globals_long = good.globals_long; globals_words = good.globals_words; heap_long = good.heap_long; heap_words = good.heap_words; used = good.used; cells = good.cells; stack = no_charges; input = good.input };
    stands = tt;
  }
  goes_on (ToEnd n otherwise) ks d good h g = goes_on otherwise ks d good h g
  goes_on (ToStep n form body otherwise) ks d good h g =
      by (turn_of form.op form.holds d)
      (turns form.op (program.forms n g.0.row g.0.found).kinds
      (subst (λ f. IsStatement P r f.op (program.forms n g.0.row g.0.found).kinds) g.0.is_form
      (subst (λ m. IsStatement P m g.0.row.form.op (program.forms n g.0.row g.0.found).kinds) g.0.inside (program.forms n g.0.row g.0.found).statement)) form.holds ks d good h) (goes_on otherwise ks d good h g.2)
    where
      by : (x : Option Data) → IsTurn d x → IsWellFormed P (arrived P otherwise cs d) → IsWellFormed P (turned P x body cs (arrived P otherwise cs d))
      by None t on = on
      by (Some e) t on = gate_reached ks body e t.good (holding_alike P r ks cs d.activations e.activations t.alike h) g.1
