-- States of the plain machine.
use Rattle.std.specs.Prelude.{ℕ, List, [], replicate}
use Rattle.pascal_semantics.specs.declared.form.Operand.{Operand}
use Rattle.pascal_semantics.specs.declared.form.Sum.{Sum}
use Rattle.pascal_semantics.specs.declared.form.SimpleForm.{SimpleForm}
use Rattle.pascal_semantics.specs.declared.limits.TheConstants.{GLOBAL_WORDS}

-- a state is halted before a gate, or in the middle of a statement while one of its activations has frames
pub data Status : Type 0 where
  NotStarted : Status
  Halted : Status
  Ended : Status
  Failed : (error name : ℕ) → Status

-- what is carried out or worked out from its parts
pub data Node : Type 0 where
  OfStatement : (form : SimpleForm) → Node
  OfSum : (sum : Sum) → Node
  OfOperand : (operand : Operand) → Node

-- a node under evaluation, with the values of its parts so far, in the order of evaluation
pub record PendingFrame : Type 0 where
  pub node : Node
  pub kept : List ℕ

-- one live call of a routine, or the program: the statement that it stands at, and the nodes of this statement that
-- are under evaluation, the innermost first; with none it stands before the statement's gate
pub record Activation : Type 0 where
  pub routine : ℕ
  pub statement : ℕ
  pub frames : List PendingFrame

-- the activations, the newest first; the words of the global variables; what the present run wrote
pub record State : Type 0 where
  pub status : Status
  pub activations : List Activation
  pub globals : List ℕ
  pub output : List ℕ

-- a program that was loaded and not started: each variable is zero
abbrev pub loaded_state : State
loaded_state = record { status = NotStarted; activations = []; globals = replicate GLOBAL_WORDS 0; output = [] }
