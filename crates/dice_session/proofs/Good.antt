-- What is kept along a run: variables are words, and the output has room for what is still to be written.
use Rattle.std.proofs.Common.{◌≡◌, ◌≢◌, ℕ, ◌+◌, ◌*◌, ◌%◌, ◌<◌, ◌≤◌, Bool, true, false, List, [], ◌∷◌, ◌++◌, length, Option, Some, None, refl, sym, ap, ◌∙◌, subst, arith, length-append, inl, inr, ◌⊎◌}
use Rattle.std.specs.Prelude.{slice_index, slice_set, ◌==◌, if◌then◌else◌, find}
use Rattle.std.specs.List.{AllByRecursion}
use Rattle.std.proofs.lemmas.Bool.{cases_eq}
use Rattle.std.proofs.lemmas.List.{get_or-set_same, get_or-set_other, set_past}
use Rattle.std.proofs.lemmas.Bool.{cases_lt}
use Rattle.dice_base.specs.declared.link.LinkTo.TheVariants.{Next}
use Rattle.console_service.specs.Block.{First, Gate, Step, End, Leave, Spot}
use Rattle.console_service.specs.Semantics.{Begin, At, Back}
use Rattle.console_service.specs.Plain.{FormProgram, Pending, Now, StretchState, Goes, Ended, Failed, Stuck, stretch_rests, sum_unless, begun_at, moved, stretch_of, next, cost_of, cost, spent, IsGoodNow, IsGoodState}
use Rattle.pascal_semantics.specs.declared.form.Operand.{Operand}
use Rattle.pascal_semantics.specs.declared.form.Operand.TheVariants.{Global, Number}
use Rattle.pascal_semantics.specs.declared.form.SimpleForm.{SimpleForm}
use Rattle.pascal_semantics.specs.declared.form.Statement.{Statement}
use Rattle.pascal_semantics.specs.declared.form.SimpleForm.TheVariants.{Assign, WriteLine, Empty}
use Rattle.pascal_semantics.specs.Charge.{charge_of, operand_charge, second_charge, width_charge, charges_of}
use Rattle.pascal_semantics.specs.Program.{Program as PascalProgram, Target, Gate as GateOf, Finish, Row, row_of, rows_of, entry_of, program_of}
use Rattle.pascal_semantics.specs.Valid.{IsOperand, IsSecond, IsWidth, IsForm, AllDiffer, IsProgram, program_name}
use Rattle.pascal_semantics.specs.Step.{Evaluation, Value, Error, operand_value, width_of}
use Rattle.dice_base.specs.IntegerText.{integer_text}
use Rattle.pascal_semantics.specs.Evaluations.{sum_evaluation, form_evaluation}
use Rattle.statement_code.specs.Forms.{BlockForm, ProgramBlock, StatementBlock, NoCall, Store, after_effect, exit_by, evaluation_of, block_charge, simple}
use Rattle.statement_code.proofs.Sums.{sum-is, is_lost}
use Rattle.statement_code.proofs.Texts.{length_of_text}
use Rattle.std.proofs.lemmas.Nat.{mod_below}
use Rattle.std.proofs.Math.Dec.{lit<}
use Rattle.image_plan.specs.Links.{blocks_of, spot_of, form_of, end_of}
use Rattle.image_plan.proofs.Laid.{other_test, entry_free, found_apart}

-- ---- bounds on steps

operand_bound : (o : Operand) → operand_charge o ≤ 12
operand_bound (Global g) = omega arith
operand_bound (Number n) = omega arith

second_bound : (o : Option Operand) → second_charge o ≤ 28
second_bound None = omega arith
second_bound (Some b) = omega (arith, operand_bound b)

width_bound : (w : Option ℕ) → width_charge w ≤ 4
width_bound None = omega arith
width_bound (Some w) = omega arith

charge_bound : (f : SimpleForm) → charge_of f ≤ 84
charge_bound (Assign g e) = omega (arith, operand_bound e.first, second_bound e.second)
charge_bound (WriteLine e w) = omega (arith, operand_bound e.first, second_bound e.second, width_bound w)
charge_bound Empty = omega arith

block_bound : (f : BlockForm) → block_charge f ≤ 84
block_bound ProgramBlock = omega arith
block_bound (StatementBlock f) = charge_bound f

module _ (B : FormProgram BlockForm) where
  pub cost_bound : (x : StretchState NoCall Store) → cost simple B x ≤ 1376256
  cost_bound (Goes s) = by (B.form s.name)
    where
      by : (o : Option BlockForm) → cost_of simple B s.start o ≤ 1376256
      by None = omega arith
      by (Some f) = omega (arith, block_bound f)
  cost_bound (Ended n d) = omega arith
  cost_bound (Failed e n d) = omega arith
  cost_bound Stuck = omega arith

  unless_bound : (b : Bool) (n m : ℕ) → n ≤ m → sum_unless b n ≤ m
  unless_bound true n m le = omega arith
  unless_bound false n m le = le

  pub spent_bound : (x : StretchState NoCall Store) → spent simple B 2 x ≤ 2752512
  spent_bound x =
      let one : spent simple B 1 (next simple B x) ≤ 1376256 = unless_bound (stretch_rests (next simple B x)) (cost simple B (next simple B x) + 0) 1376256 (omega (arith, cost_bound (next simple B x))) in
      unless_bound (stretch_rests x) (cost simple B x + spent simple B 1 (next simple B x)) 2752512 (omega (arith, cost_bound x, one))

-- ---- values and texts

abbrev pub AreWords : List ℕ → Type 0
AreWords globals = (k : ℕ) → slice_index globals k < 65536

abbrev IsWordResult : Evaluation → Type 0
IsWordResult (Value v) = v < 65536
IsWordResult (Error number) = Unit {0}

operand_word : (o : Operand) (globals : List ℕ) → IsOperand o → AreWords globals → operand_value o globals < 65536
operand_word (Number n) globals is words = omega (arith, is)
operand_word (Global g) globals is words = words g

outcome_word : (a : Operand) (o : Option Operand) (globals : List ℕ) → IsOperand a → IsSecond o → AreWords globals → IsWordResult (sum_evaluation a o globals)
outcome_word a None globals isa iso words = operand_word a globals isa words
outcome_word a (Some b) globals isa isb words = subst IsWordResult (sym (sum-is (operand_value a globals) (operand_value b globals) (operand_word a globals isa words) (operand_word b globals isb words))) (by (is_lost (operand_value a globals) (operand_value b globals)))
  where
    by : (lost : Bool) → IsWordResult (if lost then Error 3 else Value ((operand_value a globals + operand_value b globals) % 65536))
    by true = tt
    by false = mod_below (operand_value a globals + operand_value b globals) 65536 (lit< tt)

set_words : (globals : List ℕ) (g v : ℕ) → v < 65536 → AreWords globals → AreWords (slice_set globals g v)
set_words globals g v lt words k = by (cases_eq k g) (cases_lt g (length globals))
  where
    by : (k ≡ g) ⊎ (k ≢ g) → (g < length globals) ⊎ (length globals ≤ g) → slice_index (slice_set globals g v) k < 65536
    by (inl same) (inl inside) = rw (same, get_or-set_same globals g v 0 inside) lt
    by (inl same) (inr past) = rw (set_past globals g v past) (words k)
    by (inr other) w = rw (get_or-set_other globals g k v 0 other) (words k)

width_small : (w : Option ℕ) → IsWidth w → width_of w < 256
width_small None is = omega arith
width_small (Some w) is = omega (arith, is.1)

operand_least : (o : Operand) → 4 ≤ operand_charge o
operand_least (Global g) = omega arith
operand_least (Number n) = omega arith

-- a statement writes six bytes at the most for each word of its block
stored_room : (f : SimpleForm) (v : ℕ) (d : Store) → IsForm f → v < 65536 → length (after_effect f v d).output ≤ length d.output + 6 * charge_of f
stored_room (Assign g e) v d is lt = omega arith
stored_room (WriteLine e w) v d is lt =
    let text = integer_text v (width_of w) in
    let short : length text ≤ 256 = length_of_text v (width_of w) lt (width_small w is.1) in
    omega (arith, length-append d.output (text ++ 10 ∷ []), length-append text (10 ∷ []), short, operand_least e.first)
stored_room Empty v d is lt = omega arith

stored_words : (f : SimpleForm) (v : ℕ) (d : Store) → v < 65536 → AreWords d.globals → AreWords (after_effect f v d).globals
stored_words (Assign g e) v d lt words = set_words d.globals g v lt words
stored_words (WriteLine e w) v d lt words = words
stored_words Empty v d lt words = words

form_word : (f : SimpleForm) (globals : List ℕ) → IsForm f → AreWords globals → IsWordResult (form_evaluation f globals)
form_word (Assign g e) globals is words = outcome_word e.first e.second globals is.1.0 is.1.1 words
form_word (WriteLine e w) globals is words = outcome_word e.first e.second globals is.0.0 is.0.1 words
form_word Empty globals is words = omega arith

-- ---- the statements that are left

row_form : (P : SimpleForm → Type 0) (ss : List Statement) (m : ℕ) (row : Row) → AllByRecursion (λ s. P s.form) ss → find (λ r. r.name == m) (rows_of ss) ≡ Some row → P row.form
row_form P [] m row h e = absurd (grind (arith, e))
row_form P (s ∷ ss) m row h e = by (s.name == m) e (λ g. row_form P ss m row h.1 g)
  where
    by : (b : Bool) → (if b then Some (record { name = s.name; form = s.form; continuation = entry_of ss }) else find (λ r. r.name == m) (rows_of ss)) ≡ Some row → (find (λ r. r.name == m) (rows_of ss) ≡ Some row → P row.form) → P row.form
    by true g rest = let same : record { name = s.name; form = s.form; continuation = entry_of ss } ≡ row = cc g in subst (λ r. P r.form) same h.0
    by false g rest = rest g

-- the words of the statements from this one on
abbrev pub left_from : List Statement → ℕ → ℕ
left_from [] m = 0
left_from (s ∷ ss) m = if s.name == m then charges_of (s ∷ ss) else left_from ss m

pub left_most : (ss : List Statement) (m : ℕ) → left_from ss m ≤ charges_of ss
left_most [] m = omega arith
left_most (s ∷ ss) m = by (s.name == m) (left_most ss m)
  where
    by : (b : Bool) → left_from ss m ≤ charges_of ss → (if b then charges_of (s ∷ ss) else left_from ss m) ≤ charges_of (s ∷ ss)
    by true rest = omega arith
    by false rest = omega (arith, rest)

-- what a statement leads to has fewer words left, by those of the statement
row_left : (ss : List Statement) (m k : ℕ) (row : Row) → AllDiffer ss → find (λ r. r.name == m) (rows_of ss) ≡ Some row → row.continuation ≡ GateOf k → left_from ss k + charge_of row.form ≤ left_from ss m
row_left [] m k row d e g = absurd (grind (arith, e))
row_left (s ∷ ss) m k row d e g = by (s.name == m) refl e (λ f. (row_left ss m k row d.1 f g, (found_apart s.name ss m row d.0 f).after k g))
  where
    first_row : Row
    first_row = record { name = s.name; form = s.form; continuation = entry_of ss }

    later : s.name ≢ k → left_from (s ∷ ss) k ≡ left_from ss k
    later ne = ap (λ b. if b then charges_of (s ∷ ss) else left_from ss k) (other_test s.name k ne)

    at : (b : Bool) → (s.name == m) ≡ b → left_from (s ∷ ss) m ≡ (if b then charges_of (s ∷ ss) else left_from ss m)
    at b t = ap (λ b. if b then charges_of (s ∷ ss) else left_from ss m) t

    by : (b : Bool) → (s.name == m) ≡ b → (if b then Some first_row else find (λ r. r.name == m) (rows_of ss)) ≡ Some row
        → (find (λ r. r.name == m) (rows_of ss) ≡ Some row → (left_from ss k + charge_of row.form ≤ left_from ss m) × (s.name ≢ k)) → left_from (s ∷ ss) k + charge_of row.form ≤ left_from (s ∷ ss) m
    by true t h rest =
        let same : first_row ≡ row = cc h in
        let ne : s.name ≢ k = entry_free s.name ss k d.0 (ap (λ r. r.continuation) same ∙ g) in
        omega (arith, later ne, at true t, left_most ss k, ap (λ r. charge_of r.form) same)
    by false t h rest = let r = rest h in omega (arith, later r.1, at false t, r.0)

-- ---- what is kept

module _ (ss : List Statement) (valid : IsProgram ss) where
  abbrev P : PascalProgram
  P = program_of ss

  abbrev B : FormProgram BlockForm
  B = blocks_of P

  -- there is room for all that statements of so many words write
  pub record HasRoom (left : ℕ) (d : Store) : Type 0 where
    pub words : AreWords d.globals
    pub room : length d.output + 6 * left ≤ 61440

  -- the program's block makes the frame once
  abbrev pub GoodBegin : Begin NoCall → Store → Type 0
  GoodBegin (At First) d = (d.started ≡ false) × HasRoom (charges_of ss) d
  GoodBegin other d = Unit {0}

  abbrev pub GoodNamed : Bool → Now NoCall Store → Type 0
  GoodNamed true s = GoodBegin s.start s.data_now
  GoodNamed false s = HasRoom (left_from ss s.name) s.data_now

  abbrev pub Good : StretchState NoCall Store → Type 0
  Good (Goes s) = GoodNamed (s.name == program_name) s
  Good other = Unit {0}

  pub good_fits : (x : StretchState NoCall Store) → Good x → IsGoodState simple B x
  good_fits (Goes s) good = by (s.name == program_name) good
    where
      by_start : (st : Begin NoCall) (d : Store) → GoodBegin st d → simple.IsGood ProgramBlock st d
      by_start (At First) d g = g.0
      by_start (At Gate) d g = tt
      by_start (At Step) d g = tt
      by_start (At End) d g = tt
      by_start (At Leave) d g = tt
      by_start (Back path) d g = absurd path

      by_row : (o : Option Row) → HasRoom (left_from ss s.name) s.data_now → IsGoodNow simple B s (form_of o)
      by_row None g = tt
      by_row (Some row) g = omega (arith, g.room)

      by : (b : Bool) → GoodNamed b s → IsGoodNow simple B s (if b then Some ProgramBlock else form_of (row_of P s.name))
      by true g = by_start s.start s.data_now g
      by false g = by_row (row_of P s.name) g
  good_fits (Ended n d) good = tt
  good_fits (Failed e n d) good = tt
  good_fits Stuck good = tt

  -- where a program or a statement leads
  good_spot : (t : Target) (d : Store) → ((k : ℕ) → t ≡ GateOf k → (program_name ≢ k) × HasRoom (left_from ss k) d) → Good (begun_at simple B (spot_of t) d [])
  good_spot (GateOf k) d h = let g = h k refl in subst (λ b. GoodNamed b (record { name = k; start = At Gate; data_now = d; older = [] })) (sym (other_test k program_name (λ x. g.0 (sym x)))) g.1
  good_spot Finish d h = tt

  pub good_keeps : (x : StretchState NoCall Store) → Good x → Good (next simple B x)
  good_keeps (Goes s) good = by (s.name == program_name) refl good
    where
      good_older : (older : List (Pending NoCall)) (spot : Spot) (d : Store) → Good (begun_at simple B spot d []) → Good (begun_at simple B spot d older)
      good_older older spot d g = named (spot.name == program_name) g
        where
          named : (b : Bool) → GoodNamed b (record { name = spot.name; start = At spot.part; data_now = d; older = [] }) → GoodNamed b (record { name = spot.name; start = At spot.part; data_now = d; older = older })
          named true h = h
          named false h = h

      -- the program's block
      by_start : (st : Begin NoCall) (d : Store) → (s.name == program_name) ≡ true → GoodBegin st d → Good (moved simple B s.name s.older (simple.does ProgramBlock st d))
      by_start (At First) d t g =
          subst (λ spot. Good (begun_at simple B spot (record d { started = true }) s.older)) (sym (ap (λ b. if b then spot_of P.entry else end_of (row_of P s.name)) t))
          (good_older s.older (spot_of P.entry) (record d { started = true }) (good_spot P.entry (record d { started = true }) (λ k e. (entry_free program_name ss k valid.free e, record { words = g.1.words; room = omega (arith, g.1.room, left_most ss k) }))))
      by_start (At Gate) d t g = tt
      by_start (At Step) d t g = tt
      by_start (At End) d t g = tt
      by_start (At Leave) d t g = tt
      by_start (Back path) d t g = absurd path

      by_result : (row : Row) (r : Evaluation) → (s.name == program_name) ≡ false → row_of P s.name ≡ Some row → HasRoom (left_from ss s.name) s.data_now → IsWordResult r → Good (moved simple B s.name s.older (exit_by row.form s.data_now r))
      by_result row (Error number) t e g w = tt
      by_result row (Value v) t e g w =
          let is = row_form IsForm ss s.name row valid.forms e in
          let d = after_effect row.form v s.data_now in
          let spot : B.link_end s.name Next ≡ spot_of row.continuation = ap (λ b. if b then spot_of P.entry else end_of (row_of P s.name)) t ∙ ap end_of e in
          subst (λ q. Good (begun_at simple B q d s.older)) (sym spot)
          (good_older s.older (spot_of row.continuation) d (good_spot row.continuation d (λ k h. ((found_apart program_name ss s.name row valid.free e).after k h, record { words = stored_words row.form v s.data_now w g.words; room = omega (arith, g.room, stored_room row.form v s.data_now is w, row_left ss s.name k row valid.differ e h) }))))

      by_row : (o : Option Row) → (s.name == program_name) ≡ false → row_of P s.name ≡ o → HasRoom (left_from ss s.name) s.data_now → Good (stretch_of simple B s (form_of o))
      by_row None t e g = tt
      by_row (Some row) t e g =
          by_result row (evaluation_of row.form s.data_now) t e g (form_word row.form s.data_now.globals (row_form IsForm ss s.name row valid.forms e) g.words)

      by : (b : Bool) → (s.name == program_name) ≡ b → GoodNamed b s → Good (stretch_of simple B s (if b then Some ProgramBlock else form_of (row_of P s.name)))
      by true t g = by_start s.start s.data_now t g
      by false t g = by_row (row_of P s.name) t refl g
  good_keeps (Ended n d) good = tt
  good_keeps (Failed e n d) good = tt
  good_keeps Stuck good = tt
