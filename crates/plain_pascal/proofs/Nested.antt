-- A program with a `for` and a `with` of two records, the second a field of the first: what the laws ask of programs can be
-- had, and all its runs keep the state in order.
--
--     program n; var a: record k: integer; r: record m: integer end end; i: integer; begin for i := 1 to 2 do with a, r do
--     begin m := k + 1; k := i end; write(a.k:1) end.
use Rattle.std.proofs.Common.{◌≡◌, ℕ, ◌+◌, ◌<◌, ◌≤◌, true, false, List, [], ◌∷◌, None, refl, arith}
use Rattle.std.specs.Prelude.{ℤ, pos, negsuc, codes, ◌==◌}
use Rattle.std.proofs.lemmas.Bool.Decides.{nat_tests}
use Rattle.std.specs.List.{AllByRecursion}
use Rattle.dice_base.specs.declared.name.Name.{Name}
use Rattle.dice_base.specs.declared.link.LinkTo.TheVariants.{Label}
use Rattle.core_tree.specs.declared.op.Op.TheVariants as op
use Rattle.core_tree.specs.declared.op.PlaceOp.TheVariants as place
use Rattle.core_tree.specs.declared.op.EffectOp.TheVariants as effect
use Rattle.core_tree.specs.declared.op.Written.TheVariants as written
use Rattle.core_tree.specs.declared.op.WordOp.TheVariants as word
use Rattle.core_tree.specs.declared.op.Scope.TheVariants as scope
use Rattle.core_tree.specs.declared.form.StatementOp.TheVariants as stmt
use Rattle.core_tree.specs.Plain.{Expr, NoMore, And, Routine}
use Rattle.plain_pascal.specs.Program.{Kind, NoKind, WordKind, PlaceKind, Program, Row, program_of, routine_of}
use Rattle.plain_pascal.specs.State.{loaded_state}
use Rattle.plain_pascal.specs.Step.{label_gate, labels_in}
use Rattle.plain_pascal.specs.Run.{AtEnd, Marks, run_of, settled, driven, steps_limit}
use Rattle.plain_pascal.specs.Evaluation.{part_ticks}
use Rattle.plain_pascal.specs.Blocks.{has_way, parts_call}
use Rattle.plain_pascal.specs.Integers.{is_integer}
use Rattle.plain_pascal.specs.Typed.{IsExpr, typed, none, each, IsForm}
use Rattle.plain_pascal.specs.Valid.{HasGate, IsProgram, IsTyped, IsWellFormed}
use Rattle.plain_pascal.specs.Resolved.{HasRoutine, IsResolved, IsWholeRoutine, depth}
use Rattle.plain_pascal.specs.Build.{node, two, integers, global, value, number, compound, statement, routine, no_marks}
use Rattle.plain_pascal.proofs.Named.{OfStatements, statement_found}
use Rattle.plain_pascal.proofs.Running.{loaded_well, runs_keep}
use Rattle.plain_pascal.proofs.Surround.{resolved_order}

abbrev held : ℕ → ℕ → Expr
held hold offset = node (op.Place (place.Held hold offset)) []

abbrev pub source : Routine
source =
    (routine 1 0 [] None [] []
    (compound 2 None (
    (statement 3 None 0 0 (stmt.For (record { variable = (record { scope = scope.Program; offset = 2; by_place = false; frame_words = 0 }); first = negsuc 32766; last = pos 32767; down = false })) ((number (pos 1)) ∷ (number (pos 2)) ∷ []) (
    (statement 4 None 0 1 stmt.With ((node (op.Effect (effect.Hold 2 2)) ((global 0) ∷ [])) ∷ (node (op.Effect (effect.Hold 3 1)) ((held 2 1) ∷ [])) ∷ []) (
    (compound 5 None (
    (statement 6 None 0 3 (stmt.Assign integers) ((held 3 0) ∷ (two word.Add (value (held 2 0)) (number (pos 1))) ∷ []) []) ∷
    (statement 7 None 0 3 (stmt.Assign integers) ((held 2 0) ∷ (value (global 2)) ∷ []) []) ∷ [])) ∷ [])) ∷ [])) ∷
    (statement 8 None 0 0 (stmt.Write false) ((node (op.Effect (effect.Write written.Integer true)) ((value (global 0)) ∷ (number (pos 1)) ∷ [])) ∷ []) []) ∷ [])))

abbrev pub P : Program
P = program_of source

-- ---- a run

ending : (run_of P no_marks 1000 loaded_state).ending ≡ AtEnd
unfolding settled driven
ending = refl

output : (run_of P no_marks 1000 loaded_state).last.data_now.output ≡ codes "2"
unfolding settled driven
output = refl

-- ---- its operations have parts of their kinds

module _ (around : List Kind) where
  a_number : (z : ℤ) → is_integer z ≡ true → IsExpr P 1 around (number z) WordKind
  a_number z e = typed (op.Word (word.Constant z)) NoMore [] WordKind none tt e

  a_global : (offset words : ℕ) → offset + words ≤ 4096 → IsExpr P 1 around (global offset) (PlaceKind words)
  a_global offset words le = typed (op.Place (place.Variable (record { scope = scope.Program; offset = offset; by_place = false; frame_words = 0 }))) NoMore [] (PlaceKind words) none tt (refl, le)

  a_value : (e : Expr) → IsExpr P 1 around e (PlaceKind 1) → IsExpr P 1 around (value e) WordKind
  a_value e h = typed (op.Word word.Load) (And e NoMore) (PlaceKind 1 ∷ []) WordKind (each e NoMore (PlaceKind 1) [] h none) (tt, tt) (omega arith)

-- in the two records
abbrev inside : List Kind
inside = WordKind ∷ (PlaceKind 2 ∷ (PlaceKind 1 ∷ []))

all_forms : AllByRecursion (OfStatements (IsForm P)) P.rows
all_forms = (
  tt,
  (
    record { kinds = WordKind ∷ (WordKind ∷ []); parts = (a_number [] (pos 1) refl, (a_number [] (pos 2) refl, tt)); statement = (refl, omega arith); holds = refl; numbered = tt },
    (
      record {
        kinds = NoKind ∷ (NoKind ∷ []);
        parts = (
          typed (op.Effect (effect.Hold 2 2)) (And (global 0) NoMore) (PlaceKind 2 ∷ []) NoKind (each (global 0) NoMore (PlaceKind 2) [] (a_global (WordKind ∷ []) 0 2 (omega arith)) none) (tt, tt) (omega arith),
          (
            typed (op.Effect (effect.Hold 3 1)) (And (held 2 1) NoMore) (PlaceKind 1 ∷ []) NoKind
                (each (held 2 1) NoMore (PlaceKind 1) [] (typed (op.Place (place.Held 2 1)) NoMore [] (PlaceKind 1) none tt (2, omega arith, refl, omega arith)) none) (tt, tt) (omega arith),
            tt,
          ),
        );
        statement = (refl, (refl, tt));
        holds = refl;
        numbered = (refl, (refl, tt));
      },
      (
        record {
          kinds = PlaceKind 1 ∷ (WordKind ∷ []);
          parts = (
            typed (op.Place (place.Held 3 0)) NoMore [] (PlaceKind 1) none tt (1, omega arith, refl, omega arith),
            (
              typed (op.Word word.Add) (And (value (held 2 0)) (And (number (pos 1)) NoMore)) (WordKind ∷ (WordKind ∷ [])) WordKind
                  (each (value (held 2 0)) (And (number (pos 1)) NoMore) WordKind (WordKind ∷ [])
                  (a_value inside (held 2 0) (typed (op.Place (place.Held 2 0)) NoMore [] (PlaceKind 1) none tt (2, omega arith, refl, omega arith)))
                  (each (number (pos 1)) NoMore WordKind [] (a_number inside (pos 1) refl) none)) (tt, (tt, tt)) tt,
              tt,
            ),
          );
          statement = (omega arith, refl);
          holds = refl;
          numbered = tt;
        },
        (
          record {
            kinds = PlaceKind 1 ∷ (WordKind ∷ []);
            parts = (typed (op.Place (place.Held 2 0)) NoMore [] (PlaceKind 1) none tt (2, omega arith, refl, omega arith), (a_value inside (global 2) (a_global inside 2 1 (omega arith)), tt));
            statement = (omega arith, refl);
            holds = refl;
            numbered = tt;
          },
          (
            record {
              kinds = NoKind ∷ [];
              parts = (
                typed (op.Effect (effect.Write written.Integer true)) (And (value (global 0)) (And (number (pos 1)) NoMore)) (WordKind ∷ (WordKind ∷ [])) NoKind
                    (each (value (global 0)) (And (number (pos 1)) NoMore) WordKind (WordKind ∷ []) (a_value [] (global 0) (a_global [] 0 1 (omega arith))) (each (number (pos 1)) NoMore WordKind [] (a_number [] (pos 1) refl) none)) (tt, (tt, tt)) refl,
                tt,
              );
              statement = (refl, tt);
              holds = refl;
              numbered = tt;
            },
            tt,
          ),
        ),
      ),
    ),
  ),
)

pub typed_source : IsTyped P
typed_source = record { forms = λ n row found. statement_found P (IsForm P) n row all_forms found; no_zero = refl }

-- ---- it is resolved

abbrev Labelled : Row → Type 0
Labelled row = (l : ℕ) → has_way row.form.op (Label l) ≡ true → HasGate P row.routine row.around (label_gate (labels_in (routine_of P row.routine)) l)

abbrev Declared : Row → Type 0
Declared row = (c : Name) → parts_call row.form.parts c.0 ≡ true → HasRoutine P c.0

abbrev Small : Row → Type 0
Small row = (part_ticks row.form.parts + 1 ≤ steps_limit) × (depth row.continuation + 1 ≤ 4)

never : {A : Type 0} → false ≡ true → A
never e = absurd (grind (arith, e))

all_labelled : AllByRecursion (OfStatements Labelled) P.rows
all_labelled = (tt, ((λ l e. never e), ((λ l e. never e), ((λ l e. never e), ((λ l e. never e), ((λ l e. never e), tt))))))

all_declared : AllByRecursion (OfStatements Declared) P.rows
all_declared = (tt, ((λ c e. never e), ((λ c e. never e), ((λ c e. never e), ((λ c e. never e), ((λ c e. never e), tt))))))

all_small : AllByRecursion (OfStatements Small) P.rows
all_small = (tt, ((omega arith, omega arith), ((omega arith, omega arith), ((omega arith, omega arith), ((omega arith, omega arith), ((omega arith, omega arith), tt))))))

first_alone : (k : ℕ) → (k == 0) ≡ true → k < 1
first_alone k e = grind (arith, nat_tests, e)

whole : IsWholeRoutine source
whole = (
  (
    (λ e. omega arith),
    (
      (λ k e. never e),
      (
        ((λ e. never e), ((λ k e. first_alone k e), (((λ e. never e), ((λ k e. first_alone k e), (((λ e. omega arith), ((λ k e. never e), (((λ e. never e), ((λ k e. never e), tt)), (((λ e. never e), ((λ k e. never e), tt)), tt)))), tt))), tt))),
        (((λ e. never e), ((λ k e. never e), tt)), tt),
      ),
    ),
  ),
  tt,
)

pub resolved : IsResolved source 4
resolved = record {
  whole = whole;
  program = record { row = _; found = refl; form = refl; no_statement = refl };
  blocks_found = (refl, (refl, (refl, (refl, (refl, (refl, tt))))));
  routines_found = (refl, tt);
  labels = λ n row l found e. statement_found P Labelled n row all_labelled found l e;
  declared = λ n row c found e. statement_found P Declared n row all_declared found c e;
  small = λ n row found. statement_found P Small n row all_small found;
}

pub in_order : IsProgram P
in_order = resolved_order source 4 resolved typed_source

-- ---- wherever a run of it comes to

pub all_runs : (marks : Marks) (k : ℕ) → IsWellFormed P (run_of P marks k loaded_state).last
all_runs marks k = runs_keep P in_order marks k loaded_state (loaded_well P)
