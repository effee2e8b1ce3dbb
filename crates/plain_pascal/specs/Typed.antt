-- Which values the parts of an operation have, and which its own value is (ISO 7185:1990, 6.5 to 6.7): the kinds on which
-- the machine relies.
use Rattle.std.specs.Prelude.{◌≡◌, ℕ, zero, suc, ◌+◌, ◌-◌, ◌*◌, ◌≤◌, ◌<◌, ℤ, pos, ◌+ℤ◌, ◌-ℤ◌, unsigned_abs, int_le, Bool, true, false, List, [], ◌∷◌, ◌++◌, length, replicate, Option, Some, None, slice_get, option_and_then}
use Rattle.core_tree.specs.declared.op.Op.{Op}
use Rattle.core_tree.specs.declared.op.Op.TheVariants as op
use Rattle.core_tree.specs.declared.op.PlaceOp.{PlaceOp}
use Rattle.core_tree.specs.declared.op.PlaceOp.TheVariants as place
use Rattle.core_tree.specs.declared.op.WordOp.{WordOp}
use Rattle.core_tree.specs.declared.op.WordOp.TheVariants as word
use Rattle.core_tree.specs.declared.op.SetOp.{SetOp}
use Rattle.core_tree.specs.declared.op.SetOp.TheVariants as set
use Rattle.core_tree.specs.declared.op.EffectOp.{EffectOp}
use Rattle.core_tree.specs.declared.op.EffectOp.TheVariants as effect
use Rattle.core_tree.specs.declared.op.Written.{Written}
use Rattle.core_tree.specs.declared.op.Written.TheVariants as written
use Rattle.core_tree.specs.declared.op.Storage.{Storage}
use Rattle.core_tree.specs.declared.op.Storage.TheVariants as storage
use Rattle.core_tree.specs.declared.op.Scope.{Scope}
use Rattle.core_tree.specs.declared.op.Scope.TheVariants as scope
use Rattle.core_tree.specs.declared.op.Variable.{Variable}
use Rattle.core_tree.specs.declared.op.Callee.{Callee}
use Rattle.core_tree.specs.declared.form.StatementOp.{StatementOp}
use Rattle.core_tree.specs.declared.form.StatementOp.TheVariants as stmt
use Rattle.core_tree.specs.declared.form.Parameter.{Parameter}
use Rattle.core_tree.specs.declared.form.Parameter.TheVariants as parameter
use Rattle.core_tree.specs.declared.form.RoutineForm.{RoutineForm}
use Rattle.core_tree.specs.Plain.{Expr, Operation, Exprs, NoMore, And, op_of}
use Rattle.plain_pascal.specs.Program.{Kind, NoKind, WordKind, SetKind, PlaceKind, Row, RoutineRow, Program, held_by, routine_of}
use Rattle.plain_pascal.specs.Integers.{is_integer}
use Rattle.plain_pascal.specs.State.{globals_count}
use Rattle.std.specs.List.{AllByRecursion}

-- ---- the words of an activation

-- the words of parameters, where the variable parameters stand for parts of so many words
abbrev pub parameter_slots : List Parameter → List ℕ → List Kind
parameter_slots [] refs = []
parameter_slots (parameter.Scalar ∷ ps) refs = WordKind ∷ parameter_slots ps refs
parameter_slots (parameter.Set ∷ ps) refs = replicate 8 WordKind ++ parameter_slots ps refs
parameter_slots (parameter.Structure n ∷ ps) refs = replicate n WordKind ++ parameter_slots ps refs
parameter_slots (parameter.ByPlace ∷ ps) [] = PlaceKind 0 ∷ parameter_slots ps []
parameter_slots (parameter.ByPlace ∷ ps) (n ∷ refs) = PlaceKind n ∷ parameter_slots ps refs

abbrev pub result_slots : Bool → List Kind
result_slots true = WordKind ∷ []
result_slots false = []

-- the program's activation has no words
abbrev pub slots_in : Option RoutineForm → List ℕ → List Kind
slots_in None refs = []
slots_in (Some f) refs = result_slots f.function ++ (parameter_slots f.parameters refs ++ replicate f.local_words WordKind)

abbrev pub slots_of : RoutineRow → List Kind
slots_of r = slots_in r.form r.references

-- the kinds of arguments
abbrev pub argument_kinds : List Parameter → List ℕ → List Kind
argument_kinds [] refs = []
argument_kinds (parameter.Scalar ∷ ps) refs = WordKind ∷ argument_kinds ps refs
argument_kinds (parameter.Set ∷ ps) refs = SetKind ∷ argument_kinds ps refs
argument_kinds (parameter.Structure n ∷ ps) refs = PlaceKind n ∷ argument_kinds ps refs
argument_kinds (parameter.ByPlace ∷ ps) [] = PlaceKind 0 ∷ argument_kinds ps []
argument_kinds (parameter.ByPlace ∷ ps) (n ∷ refs) = PlaceKind n ∷ argument_kinds ps refs

abbrev pub result_kind : Bool → Kind
result_kind true = WordKind
result_kind false = NoKind

-- ---- what a statement can see

-- the routine that declares the scope so many static links up
unfoldable pub scope_row : Program → ℕ → ℕ → Option RoutineRow
scope_row P n zero = routine_of P n
scope_row P n (suc k) = option_and_then (λ r. routine_of P r.owner) (scope_row P n k)

-- a part of so many words stands at an offset among these words
abbrev pub HasWords : List Kind → ℕ → ℕ → Type 0
HasWords slots offset n = (offset + n ≤ length slots) × ((i : ℕ) → i < n → slice_get slots (offset + i) ≡ Some WordKind)

-- a variable is a part of so many words
abbrev pub IsPart : Bool → List Kind → ℕ → ℕ → Type 0
IsPart true slots offset n = slice_get slots offset ≡ Some (PlaceKind n)
IsPart false slots offset n = HasWords slots offset n

abbrev pub IsVariable : Program → ℕ → Scope → Variable → ℕ → Type 0
IsVariable P n scope.Program v words = (v.by_place ≡ false) × (v.offset + words ≤ globals_count)
IsVariable P n (scope.Routine d) v words = (r : RoutineRow) × (scope_row P n d ≡ Some r) × IsPart v.by_place (slots_of r) v.offset words

-- the scope of a routine that this one declares
abbrev pub IsScopeOf : Program → ℕ → Scope → ℕ → Type 0
IsScopeOf P n scope.Program owner = owner ≡ 1
IsScopeOf P n (scope.Routine k) owner = (q : RoutineRow) × (scope_row P n k ≡ Some q) × (q.name ≡ owner)

-- a call fits the routine's parameters
abbrev pub IsCall : Program → ℕ → Callee → List Kind → Kind → Type 0
IsCall P n c ks k = (r : RoutineRow) × (f : RoutineForm) × (routine_of P c.routine.0 ≡ Some r) × (r.form ≡ Some f) × (ks ≡ argument_kinds f.parameters r.references) × (f.function ≡ c.function) × (k ≡ result_kind c.function) × IsScopeOf P n c.scope r.owner

-- ---- operations

abbrev pub IsPlaceOp : Program → ℕ → List Kind → PlaceOp → List Kind → ℕ → Type 0
IsPlaceOp P n around (place.Variable v) [] words = IsVariable P n v.scope v words
IsPlaceOp P n around (place.Held hold offset) [] words = (whole : ℕ) × (1 ≤ hold) × (slice_get around (hold - 1) ≡ Some (PlaceKind whole)) × (offset + words ≤ whole)
IsPlaceOp P n around (place.Field offset) (PlaceKind whole ∷ []) words = offset + words ≤ whole
IsPlaceOp P n around (place.Index first last size) (PlaceKind whole ∷ (WordKind ∷ [])) words = (words ≡ size) × (unsigned_abs (last +ℤ pos 1 -ℤ first) * size ≤ whole)
IsPlaceOp P n around (place.Dereference size) (PlaceKind whole ∷ []) words = (1 ≤ whole) × (words ≡ size)
IsPlaceOp P n around o ks words = ⊥

-- an integer value
abbrev pub IsIntegerValue : ℤ → Type 0
IsIntegerValue z = is_integer z ≡ true

abbrev pub IsWordOp : WordOp → List Kind → Type 0
IsWordOp (word.Constant z) [] = IsIntegerValue z
IsWordOp word.Nil [] = Unit {0}
IsWordOp word.Eof [] = Unit {0}
IsWordOp word.Eoln [] = Unit {0}
IsWordOp word.Load (PlaceKind whole ∷ []) = 1 ≤ whole
IsWordOp (word.CompareSets r) (SetKind ∷ (SetKind ∷ [])) = Unit {0}
IsWordOp (word.CompareStrings r n) (PlaceKind a ∷ (PlaceKind b ∷ [])) = (n ≤ a) × (n ≤ b)
IsWordOp word.In (WordKind ∷ (SetKind ∷ [])) = Unit {0}
IsWordOp word.Plus (WordKind ∷ []) = Unit {0}
IsWordOp word.Negate (WordKind ∷ []) = Unit {0}
IsWordOp word.Not (WordKind ∷ []) = Unit {0}
IsWordOp word.Abs (WordKind ∷ []) = Unit {0}
IsWordOp word.Sqr (WordKind ∷ []) = Unit {0}
IsWordOp word.Odd (WordKind ∷ []) = Unit {0}
IsWordOp word.Ord (WordKind ∷ []) = Unit {0}
IsWordOp word.Chr (WordKind ∷ []) = Unit {0}
IsWordOp (word.Succ first last) (WordKind ∷ []) = int_le last (pos 32767) ≡ true
IsWordOp (word.Pred first last) (WordKind ∷ []) = int_le last (pos 32767) ≡ true
IsWordOp word.Add (WordKind ∷ (WordKind ∷ [])) = Unit {0}
IsWordOp word.Subtract (WordKind ∷ (WordKind ∷ [])) = Unit {0}
IsWordOp word.Multiply (WordKind ∷ (WordKind ∷ [])) = Unit {0}
IsWordOp word.Divide (WordKind ∷ (WordKind ∷ [])) = Unit {0}
IsWordOp word.Modulo (WordKind ∷ (WordKind ∷ [])) = Unit {0}
IsWordOp word.And (WordKind ∷ (WordKind ∷ [])) = Unit {0}
IsWordOp word.Or (WordKind ∷ (WordKind ∷ [])) = Unit {0}
IsWordOp (word.Compare r) (WordKind ∷ (WordKind ∷ [])) = Unit {0}
IsWordOp o ks = ⊥

abbrev pub IsSetOp : SetOp → List Kind → Type 0
IsSetOp set.Load (PlaceKind whole ∷ []) = 8 ≤ whole
IsSetOp set.Empty [] = Unit {0}
IsSetOp set.Include (SetKind ∷ (WordKind ∷ [])) = Unit {0}
IsSetOp set.IncludeRange (SetKind ∷ (WordKind ∷ (WordKind ∷ []))) = Unit {0}
IsSetOp set.Union (SetKind ∷ (SetKind ∷ [])) = Unit {0}
IsSetOp set.Difference (SetKind ∷ (SetKind ∷ [])) = Unit {0}
IsSetOp set.Intersection (SetKind ∷ (SetKind ∷ [])) = Unit {0}
IsSetOp o ks = ⊥

-- a value that a variable of this storage takes
abbrev pub IsStored : Storage → Kind → Type 0
IsStored (storage.Set first last) SetKind = last < 128
IsStored (storage.Structure n) (PlaceKind whole) = n ≤ whole
IsStored (storage.Ordinal first last) WordKind = int_le last (pos 32767) ≡ true
IsStored storage.Pointer WordKind = Unit {0}
IsStored to k = ⊥

abbrev pub stored_kind : Storage → Kind
stored_kind (storage.Set first last) = SetKind
stored_kind (storage.Structure n) = PlaceKind n
stored_kind _ = WordKind

abbrev pub stored_words : Storage → ℕ
stored_words (storage.Set first last) = 8
stored_words (storage.Structure n) = n
stored_words _ = 1

abbrev pub IsWritten : Written → Kind → Type 0
IsWritten (written.String n) (PlaceKind whole) = n ≤ whole
IsWritten (written.String n) k = ⊥
IsWritten what k = k ≡ WordKind

abbrev pub IsEffect : EffectOp → List Kind → Type 0
IsEffect (effect.Hold number words) (PlaceKind whole ∷ []) = words ≤ whole
IsEffect (effect.ReadInteger first last) (PlaceKind whole ∷ []) = (1 ≤ whole) × (int_le last (pos 32767) ≡ true)
IsEffect (effect.ReadChar first last) (PlaceKind whole ∷ []) = (1 ≤ whole) × (int_le last (pos 32767) ≡ true)
IsEffect (effect.Write what false) (k ∷ []) = IsWritten what k
IsEffect (effect.Write what true) (k ∷ (WordKind ∷ [])) = IsWritten what k
IsEffect o ks = ⊥

-- an operation in a statement of this routine, in these holds, with parts of these kinds, gives a value of this kind
abbrev pub IsOp : Program → ℕ → List Kind → Op → List Kind → Kind → Type 0
IsOp P n around (op.Place p) ks (PlaceKind words) = IsPlaceOp P n around p ks words
IsOp P n around (op.Word w) ks WordKind = IsWordOp w ks
IsOp P n around (op.Set x) ks SetKind = IsSetOp x ks
IsOp P n around (op.Literal text) [] (PlaceKind words) = (words ≤ length text) × AllByRecursion (λ c. c < 128) text
IsOp P n around op.Structure (PlaceKind whole ∷ []) (PlaceKind words) = words ≤ whole
IsOp P n around (op.Argument to) (k ∷ []) j = IsStored to k × (j ≡ stored_kind to)
IsOp P n around op.ActualVariable (PlaceKind whole ∷ []) (PlaceKind words) = words ≤ whole
IsOp P n around (op.Call c) ks k = IsCall P n c ks k
IsOp P n around (op.Effect e) ks NoKind = IsEffect e ks
IsOp P n around o ks k = ⊥

-- a kind of values
abbrev pub IsValued : Kind → Type 0
IsValued NoKind = ⊥
IsValued k = Unit {0}

abbrev pub AllValued : List Kind → Type 0
AllValued [] = Unit {0}
AllValued (k ∷ ks) = IsValued k × AllValued ks

-- an expression gives a value of this kind, and the parts of its operation have values
mutual
  pub data IsExpr (P : Program) (n : ℕ) (around : List Kind) : Expr → Kind → Type 0 where
    typed : (o : Op) (ps : Exprs) (ks : List Kind) (k : Kind) → AreExprs P n around ps ks → AllValued ks → IsOp P n around o ks k → IsExpr P n around (Operation o ps) k

  pub data AreExprs (P : Program) (n : ℕ) (around : List Kind) : Exprs → List Kind → Type 0 where
    none : AreExprs P n around NoMore []
    each : (e : Expr) (es : Exprs) (k : Kind) (ks : List Kind) → IsExpr P n around e k → AreExprs P n around es ks → AreExprs P n around (And e es) (k ∷ ks)

-- ---- statements

abbrev pub AllNoKind : List Kind → Type 0
AllNoKind [] = Unit {0}
AllNoKind (k ∷ ks) = (k ≡ NoKind) × AllNoKind ks

abbrev pub IsStatement : Program → ℕ → StatementOp → List Kind → Type 0
IsStatement P n stmt.Empty [] = Unit {0}
IsStatement P n (stmt.Goto label) [] = Unit {0}
IsStatement P n (stmt.Assign to) (PlaceKind whole ∷ (k ∷ [])) = (stored_words to ≤ whole) × IsStored to k
IsStatement P n stmt.Call (k ∷ []) = Unit {0}
IsStatement P n (stmt.If e) (WordKind ∷ []) = Unit {0}
IsStatement P n (stmt.Case labels) (WordKind ∷ []) = Unit {0}
IsStatement P n stmt.While (WordKind ∷ []) = Unit {0}
IsStatement P n stmt.Repeat (WordKind ∷ []) = Unit {0}
IsStatement P n (stmt.For loop) (WordKind ∷ (WordKind ∷ [])) = IsVariable P n loop.variable.scope loop.variable 1
IsStatement P n stmt.With ks = AllNoKind ks
IsStatement P n (stmt.Read line) ks = AllNoKind ks
IsStatement P n (stmt.Write line) ks = AllNoKind ks
IsStatement P n (stmt.New words) (PlaceKind whole ∷ []) = 1 ≤ whole
IsStatement P n (stmt.Dispose words) (WordKind ∷ []) = Unit {0}
IsStatement P n o ks = ⊥

-- the holds that the parts take have the numbers after that of the last one before
abbrev pub AreNumbered : ℕ → Exprs → Type 0
AreNumbered last NoMore = Unit {0}
AreNumbered last (And (Operation (op.Effect (effect.Hold number words)) ps) es) = (number ≡ suc last) × AreNumbered (suc last) es
AreNumbered last (And e es) = AreNumbered last es

-- the parts of a statement, each in the holds around it and those of the parts before it
abbrev pub AreParts : Program → ℕ → List Kind → Exprs → List Kind → Type 0
AreParts P n around NoMore [] = Unit {0}
AreParts P n around (And e es) (k ∷ ks) = IsExpr P n around e k × AreParts P n (around ++ held_by (op_of e)) es ks
AreParts P n around es ks = ⊥

-- a statement's form, where it stands
pub record IsForm (P : Program) (row : Row) : Type 0 where
  pub kinds : List Kind
  pub parts : AreParts P row.routine row.around row.form.parts kinds
  pub statement : IsStatement P row.routine row.form.op kinds
  pub holds : row.form.holds ≡ length row.around
  pub numbered : AreNumbered row.form.holds row.form.parts
