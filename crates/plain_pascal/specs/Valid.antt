-- The states that a program can be in: each activation is one of a routine of the program, stands at a statement of it,
-- and has the words, holds and kept values of that place.
use Rattle.std.specs.Prelude.{◌≡◌, ℕ, zero, suc, ◌+◌, ◌≤◌, ◌<◌, true, List, [], ◌∷◌, ◌++◌, length, Some, None, slice_get, slice_index, ◌⊎◌}
use Rattle.std.specs.List.{AllByRecursion}
use Rattle.dice_base.specs.declared.link.LinkTo.TheVariants.{Child, Label}
use Rattle.core_tree.specs.declared.op.Op.{Op}
use Rattle.core_tree.specs.declared.op.Op.TheVariants as op
use Rattle.core_tree.specs.Plain.{Operation, Exprs, NoMore, And, part_at, Form}
use Rattle.core_tree.specs.Control.{Continuation, ToGate, ToStep, ToEnd, ToLeave, ToFinish}
use Rattle.plain_pascal.specs.Program.{Kind, NoKind, WordKind, SetKind, PlaceKind, Row, RoutineRow, Program, held_by, held_inside, row_of, routine_of}
use Rattle.plain_pascal.specs.State.{Status, NotStarted, Halted, Place, Global, Local, Heap, Literal, Value, Word, Members, At, NoValue, Node, OfStatement, OfExpr, PendingFrame, Activation, Cell, Data, Control, State, globals_count, heap_count}
use Rattle.plain_pascal.specs.Memory.{from_activation, words_of}
use Rattle.plain_pascal.specs.Step.{stack_charges, stack_room, parts_of, label_gate, labels_in}
use Rattle.plain_pascal.specs.Blocks.{AreInside, has_way}
use Rattle.plain_pascal.specs.Typed.{slots_of, AreExprs, AreParts, IsOp, IsStatement, IsForm}

abbrev pub IsWord : ℕ → Type 0
IsWord w = w < 65536

-- ---- values

-- these words are plain words
abbrev pub ArePlain : List Value → ℕ → ℕ → Type 0
ArePlain vs w n = (i : ℕ) → i < n → (x : ℕ) × IsWord x × (slice_get vs (w + i) ≡ Some (Word x))

-- a place of so many words lies inside what it names, which is no activation newer than that of this number
abbrev pub LiesIn : List Activation → ℕ → Place → ℕ → Type 0
LiesIn acts newest (Global w) n = w + n ≤ globals_count
LiesIn acts newest (Local a w) n = (a ≤ newest) × (w + n ≤ length (words_of (from_activation acts a))) × ArePlain (words_of (from_activation acts a)) w n
LiesIn acts newest (Heap w) n = w + n ≤ heap_count
LiesIn acts newest (Literal text) n = (n ≤ length text) × AllByRecursion (λ c. c < 128) text

-- a value is of a kind
abbrev pub IsOf : List Activation → ℕ → Kind → Value → Type 0
IsOf acts newest NoKind NoValue = Unit {0}
IsOf acts newest WordKind (Word w) = IsWord w
IsOf acts newest SetKind (Members ws) = (length ws ≡ 8) × AllByRecursion IsWord ws
IsOf acts newest (PlaceKind n) (At p) = LiesIn acts newest p n
IsOf acts newest k v = ⊥

abbrev pub AreOf : List Activation → ℕ → List Kind → List Value → Type 0
AreOf acts newest [] [] = Unit {0}
AreOf acts newest (k ∷ ks) (v ∷ vs) = IsOf acts newest k v × AreOf acts newest ks vs
AreOf acts newest ks vs = ⊥

-- ---- one activation

-- the parts of a statement that are done
abbrev pub parts_done : List PendingFrame → ℕ
parts_done [] = 0
parts_done (f ∷ []) = length f.kept
parts_done (f ∷ (g ∷ fs)) = parts_done (g ∷ fs)

-- what the first parts of a statement hold
abbrev pub held_by_first : ℕ → Exprs → List Kind
held_by_first zero es = []
held_by_first (suc k) NoMore = []
held_by_first (suc k) (And (Operation o ps) es) = held_by o ++ held_by_first k es

-- what is held at a statement: the holds around it, and those of its parts that are done
abbrev pub kinds_held : Row → List PendingFrame → List Kind
kinds_held row fs = row.around ++ held_by_first (parts_done fs) row.form.parts

-- the same statement, with so much held around it
abbrev pub within : Row → List Kind → Row
within row held = record row { around = held }

-- a frame has values for the first parts of its node, and values of these kinds are still to come; T is what the kinds of
-- all parts are for
abbrev pub Fits : Program → List Activation → ℕ → Row → List Kind → PendingFrame → (List Kind → Type 0) → Type 0
Fits P acts newest row rest f T = (done : List Kind) × AreExprs P row.routine row.around (parts_of f.node) (done ++ rest) × AreOf acts newest done f.kept × T (done ++ rest)

-- the same of the frame of a statement
abbrev pub FitsStatement : Program → List Activation → ℕ → Row → List Kind → PendingFrame → Type 0
FitsStatement P acts newest row rest f = (done : List Kind) × AreParts P row.routine row.around (parts_of f.node) (done ++ rest) × AreOf acts newest done f.kept × IsStatement P row.routine row.form.op (done ++ rest)

-- the outermost frame is the statement's, and the value of each other one is the next that the frame outside wants
abbrev pub AreFrames : Program → List Activation → ℕ → Row → List Kind → List PendingFrame → Type 0
AreFrames P acts newest row rest [] = ⊥
AreFrames P acts newest row rest (f ∷ []) = (f.node ≡ OfStatement row.form) × FitsStatement P acts newest row rest f
AreFrames P acts newest row rest (f ∷ (g ∷ fs)) =
    (o : Op) × (ps : Exprs) × (k : Kind) × (ks : List Kind) × (f.node ≡ OfExpr (Operation o ps))
    × Fits P acts newest (within row (kinds_held row (g ∷ fs))) rest f (λ kinds. IsOp P row.routine (kinds_held row (g ∷ fs)) o kinds k) × AreFrames P acts newest row (k ∷ ks) (g ∷ fs)

-- the innermost frame is a call of a routine, with all its arguments
abbrev pub CallsIn : Node → ℕ → ℕ → Type 0
CallsIn (OfExpr (Operation (op.Call c) ps)) n kept = (c.routine.0 ≡ n) × (part_at ps kept ≡ None)
CallsIn x n kept = ⊥

abbrev pub Waits : List PendingFrame → ℕ → Type 0
Waits [] n = ⊥
Waits (f ∷ fs) n = CallsIn f.node n (length f.kept)

-- a statement is in progress: each frame is of the next part of the one outside it
abbrev pub InProgress : Program → List Activation → ℕ → Row → List PendingFrame → Type 0
InProgress P acts newest row fs = (rest : List Kind) × AreFrames P acts newest row rest fs × AreInside (OfStatement row.form) fs

-- a statement of the routine, in progress or not
pub record AtStatement (P : Program) (acts : List Activation) (newest : ℕ) (a : Activation) (c : Control) : Type 0 where
  pub row : Row
  pub found : row_of P c.statement ≡ Some row
  pub inside : row.routine ≡ a.routine
  pub held : AreOf acts newest (kinds_held row c.frames) a.holds
  pub frames : (c.frames ≡ []) ⊎ InProgress P acts newest row c.frames

-- the static parent is an older activation of the owner, and the oldest activation is the program's
abbrev pub HasParent : RoutineRow → Activation → List Activation → Type 0
HasParent r a [] = (r.owner ≡ 0) × (a.routine ≡ 1)
HasParent r a older = (a.static_link < length older) × (b : Activation) × (rest : List Activation) × (from_activation older a.static_link ≡ b ∷ rest) × (b.routine ≡ r.owner)

pub record IsActivation (P : Program) (acts : List Activation) (a : Activation) (older : List Activation) : Type 0 where
  pub row : RoutineRow
  pub found : routine_of P a.routine ≡ Some row
  pub words : AreOf acts (length older) (slots_of row) a.words
  pub parent : HasParent row a older

-- those that wait for a newer activation of this routine
abbrev pub AllWait : Program → List Activation → ℕ → List Control → List Activation → Type 0
AllWait P acts n [] [] = Unit {0}
AllWait P acts n (c ∷ cs) (a ∷ older) = IsActivation P acts a older × AtStatement P acts (length older) a c × Waits c.frames n × AllWait P acts a.routine cs older
AllWait P acts n cs older = ⊥

-- the newest stands at a statement, or at its routine's gate
abbrev pub NewestStands : Program → List Activation → List Control → List Activation → Type 0
NewestStands P acts (c ∷ cs) (a ∷ older) =
    IsActivation P acts a older × (AtStatement P acts (length older) a c ⊎ ((c.statement ≡ a.routine) × (c.frames ≡ []) × (a.holds ≡ []))) × AllWait P acts a.routine cs older
NewestStands P acts cs as' = ⊥

-- ---- the heap

abbrev pub Apart : Cell → Cell → Type 0
Apart c d = (c.place + c.size ≤ d.place) ⊎ (d.place + d.size ≤ c.place)

abbrev pub AreCells : ℕ → List Cell → Type 0
AreCells used [] = Unit {0}
AreCells used (c ∷ cs) = (1 ≤ c.size) × (c.place + c.size ≤ used) × AllByRecursion (Apart c) cs × AreCells used cs

pub record IsData (d : Data) : Type 0 where
  pub globals_long : length d.globals ≡ globals_count
  pub globals_words : AllByRecursion IsWord d.globals
  pub heap_long : length d.heap ≡ heap_count
  pub heap_words : AllByRecursion IsWord d.heap
  pub used : d.used ≤ heap_count
  pub cells : AreCells d.used (d.live ++ d.free)
  pub stack : stack_charges d.activations ≤ stack_room
  pub input : AllByRecursion (λ b. b < 256) d.input

-- ---- states

abbrev pub StandsBy : Status → Program → State → Type 0
StandsBy NotStarted P s = (s.control ≡ []) × (s.data_now.activations ≡ [])
StandsBy Halted P s = NewestStands P s.data_now.activations s.control s.data_now.activations
StandsBy other P s = Unit {0}

-- a state of a program
pub record IsWellFormed (P : Program) (s : State) : Type 0 where
  pub data_good : IsData s.data_now
  pub stands : StandsBy s.status P s

-- ---- programs

-- a routine's body begins at a statement of its own, in no holds
abbrev pub HasEntry : Program → RoutineRow → Type 0
HasEntry P r = (row : Row) × (row_of P r.entry ≡ Some row) × (row.routine ≡ r.name) × (row.around ≡ [])

-- a statement of the routine, in which no more is held than a front of this
pub record HasGate (P : Program) (routine : ℕ) (held : List Kind) (n : ℕ) : Type 0 where
  pub row : Row
  pub found : row_of P n ≡ Some row
  pub inside : row.routine ≡ routine
  pub ended : List Kind
  pub around : held ≡ row.around ++ ended

-- a statement of the routine with this form
pub record HasForm (P : Program) (routine : ℕ) (form : Form) (n : ℕ) : Type 0 where
  pub row : Row
  pub found : row_of P n ≡ Some row
  pub inside : row.routine ≡ routine
  pub is_form : row.form ≡ form

-- where control goes on from a statement of the routine, in these holds
abbrev pub GoesOn : Program → ℕ → List Kind → Continuation → Type 0
GoesOn P r held (ToGate n) = HasGate P r held n
GoesOn P r held (ToStep n form body otherwise) = HasForm P r form n × HasGate P r held body × GoesOn P r held otherwise
GoesOn P r held (ToEnd n otherwise) = GoesOn P r held otherwise
GoesOn P r held (ToLeave n) = n ≡ r
GoesOn P r held ToFinish = Unit {0}

-- the ways out of a statement lead to gates of its routine: those in it in what it holds besides, the others in no more than
-- is held around it
pub record HasWays (P : Program) (row : Row) : Type 0 where
  pub inner : (k : ℕ) → has_way row.form.op (Child k) ≡ true → HasGate P row.routine (row.around ++ held_inside row.form.op row.form.parts) (slice_index row.branches k)
  pub labelled : (l : ℕ) → has_way row.form.op (Label l) ≡ true → HasGate P row.routine row.around (label_gate (labels_in (routine_of P row.routine)) l)
  pub behind : GoesOn P row.routine row.around row.continuation

-- a program whose statements have operations with parts of their kinds; 0 is no name
pub record IsTyped (P : Program) : Type 0 where
  pub forms : (n : ℕ) (row : Row) → row_of P n ≡ Some row → IsForm P row
  pub no_zero : routine_of P 0 ≡ None

-- a program whose statements are in order, and in which a routine's name is no statement's; its own block has the name 1
pub record IsProgram (P : Program) : Type 0 where
  pub main : (r : RoutineRow) × (routine_of P 1 ≡ Some r) × (r.form ≡ None) × (r.owner ≡ 0)
  pub entries : (n : ℕ) (r : RoutineRow) → routine_of P n ≡ Some r → HasEntry P r
  pub no_zero : routine_of P 0 ≡ None
  pub bare : (n : ℕ) (r : RoutineRow) → routine_of P n ≡ Some r → row_of P n ≡ None
  pub forms : (n : ℕ) (row : Row) → row_of P n ≡ Some row → IsForm P row
  pub ways : (n : ℕ) (row : Row) → row_of P n ≡ Some row → HasWays P row
