-- A program as the plain machine sees it: its statements by name, each with its own form and with where control goes
-- after it (ISO 7185:1990, 6.8.3.2: a sequence is carried out in textual order).
use Rattle.std.specs.Prelude.{ℕ, ◌==◌, List, [], ◌∷◌, Option, find}
use Rattle.pascal_semantics.specs.declared.form.SimpleForm.{SimpleForm}
use Rattle.pascal_semantics.specs.declared.form.Statement.{Statement}

-- where control goes: to the gate of a statement, or to the end of the program
pub data Target : Type 0 where
  Gate : (name : ℕ) → Target
  Finish : Target

-- a statement: its name, its form, and where control goes after it
pub record Row : Type 0 where
  pub name : ℕ
  pub form : SimpleForm
  pub continuation : Target

-- where control goes first, and the statements
pub record Program : Type 0 where
  pub entry : Target
  pub rows : List Row

-- a sequence is begun at the gate of its first statement
abbrev pub entry_of : List Statement → Target
entry_of [] = Finish
entry_of (s ∷ ss) = Gate s.name

-- each statement of a sequence leads to the next one, and the last to the end
abbrev pub rows_of : List Statement → List Row
rows_of [] = []
rows_of (s ∷ ss) = record { name = s.name; form = s.form; continuation = entry_of ss } ∷ rows_of ss

-- the program of a sequence
abbrev pub program_of : List Statement → Program
program_of ss = record { entry = entry_of ss; rows = rows_of ss }

-- the statement of this name
abbrev pub row_of : Program → ℕ → Option Row
row_of P n = find (λ row. row.name == n) P.rows
