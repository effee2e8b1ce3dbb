-- The program of `Locals` is resolved: what the laws ask of programs can be had.
use Rattle.std.proofs.Common.{◌≡◌, ℕ, ◌+◌, ◌≤◌, Bool, true, false, refl, subst, arith}
use Rattle.std.specs.Prelude.{◌==◌, ◌||◌}
use Rattle.std.specs.List.{AllByRecursion}
use Rattle.std.proofs.lemmas.Bool.Decides.{nat_tests}
use Rattle.dice_base.specs.declared.name.Name.{Name}
use Rattle.dice_base.specs.declared.link.LinkTo.TheVariants.{Label}
use Rattle.plain_pascal.specs.Program.{Row, routine_of}
use Rattle.plain_pascal.specs.Step.{label_gate, labels_in}
use Rattle.plain_pascal.specs.Run.{steps_limit}
use Rattle.plain_pascal.specs.Evaluation.{part_ticks}
use Rattle.plain_pascal.specs.Blocks.{has_way, parts_call}
use Rattle.plain_pascal.specs.Valid.{HasGate}
use Rattle.plain_pascal.specs.Resolved.{HasRoutine, IsFound, IsResolved, IsWholeRoutine, depth}
use Rattle.plain_pascal.proofs.Named.{OfStatements, statement_found}
use Rattle.plain_pascal.proofs.Locals.{source, P}

abbrev Labelled : Row → Type 0
Labelled row = (l : ℕ) → has_way row.form.op (Label l) ≡ true → HasGate P row.routine row.around (label_gate (labels_in (routine_of P row.routine)) l)

abbrev Declared : Row → Type 0
Declared row = (c : Name) → parts_call row.form.parts c.0 ≡ true → HasRoutine P c.0

abbrev Small : Row → Type 0
Small row = (part_ticks row.form.parts + 1 ≤ steps_limit) × (depth row.continuation + 1 ≤ 2)

the_routine : HasRoutine P 2
the_routine = record { row = _; found = refl; name = refl; form = _; is_form = refl; no_statement = refl }

called : (n : ℕ) → (((2 == n) || false) || false) ≡ true → HasRoutine P n
called n e = by (2 == n) refl e
  where
    by : (b : Bool) → (2 == n) ≡ b → ((b || false) || false) ≡ true → HasRoutine P n
    by true t h = let same : 2 ≡ n = grind (arith, nat_tests, t) in subst (λ k. HasRoutine P k) same the_routine
    by false t h = absurd (grind (arith, h))

none : {A : Type 0} → false ≡ true → A
none e = absurd (grind (arith, e))

all_blocks : AllByRecursion (IsFound P) P.rows
all_blocks = (refl, (refl, (refl, (refl, (refl, (refl, (refl, tt)))))))

all_labelled : AllByRecursion (OfStatements Labelled) P.rows
all_labelled = (tt, (tt, ((λ l e. none e), ((λ l e. none e), ((λ l e. none e), ((λ l e. none e), ((λ l e. none e), tt)))))))

all_declared : AllByRecursion (OfStatements Declared) P.rows
all_declared = (tt, (tt, ((λ c e. none e), ((λ c e. none e), ((λ c e. called c.0 e), ((λ c e. called c.0 e), ((λ c e. none e), tt)))))))

all_small : AllByRecursion (OfStatements Small) P.rows
all_small = (tt, (tt, ((omega arith, omega arith), ((omega arith, omega arith), ((omega arith, omega arith), ((omega arith, omega arith), ((omega arith, omega arith), tt)))))))

whole : IsWholeRoutine source
whole = (
  ((λ e. omega arith), ((λ k e. none e), (((λ e. none e), ((λ k e. none e), tt)), (((λ e. none e), ((λ k e. none e), tt)), (((λ e. none e), ((λ k e. none e), tt)), tt))))),
  ((((λ e. omega arith), ((λ k e. none e), (((λ e. none e), ((λ k e. none e), tt)), (((λ e. none e), ((λ k e. none e), tt)), tt)))), tt), tt),
)

pub resolved : IsResolved source 2
resolved = record {
  whole = whole;
  program = record { row = _; found = refl; form = refl; no_statement = refl };
  blocks_found = all_blocks;
  routines_found = (refl, (refl, tt));
  labels = λ n row l found e. statement_found P Labelled n row all_labelled found l e;
  declared = λ n row c found e. statement_found P Declared n row all_declared found c e;
  small = λ n row found. statement_found P Small n row all_small found;
}
