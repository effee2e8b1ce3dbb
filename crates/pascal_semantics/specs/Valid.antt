-- The programs that can be loaded: their parts are in range, their names differ, and their blocks fit the code area.
use Rattle.std.specs.Prelude.{◌≢◌, ℕ, ◌+◌, ◌<◌, ◌≤◌, List, [], ◌∷◌, Option, Some, None}
use Rattle.std.specs.List.{AllByRecursion}
use Rattle.pascal_semantics.specs.declared.form.Operand.{Operand}
use Rattle.pascal_semantics.specs.declared.form.Operand.TheVariants.{Global, Number}
use Rattle.pascal_semantics.specs.declared.form.Sum.{Sum}
use Rattle.pascal_semantics.specs.declared.form.SimpleForm.{SimpleForm}
use Rattle.pascal_semantics.specs.declared.form.SimpleForm.TheVariants.{Assign, WriteLine, Empty}
use Rattle.pascal_semantics.specs.declared.form.Statement.{Statement}
use Rattle.pascal_semantics.specs.declared.limits.TheConstants.{GLOBAL_WORDS, MAX_PROGRAM_WORDS}
use Rattle.pascal_semantics.specs.Charge.{program_charge, charges_of}

-- variables are global words, numbers and widths are in range
abbrev pub IsOperand : Operand → Type 0
IsOperand (Global g) = g < GLOBAL_WORDS
IsOperand (Number n) = n ≤ 32767

-- so is a second operand, if there is one
abbrev pub IsSecond : Option Operand → Type 0
IsSecond None = Unit {0}
IsSecond (Some b) = IsOperand b

-- the operands of a sum
abbrev pub IsSum : Sum → Type 0
IsSum e = IsOperand e.first × IsSecond e.second

-- a width that is given is 1 to 255
abbrev pub IsWidth : Option ℕ → Type 0
IsWidth None = Unit {0}
IsWidth (Some w) = (1 ≤ w) × (w ≤ 255)

-- the parts of a form
abbrev pub IsForm : SimpleForm → Type 0
IsForm (Assign g e) = (g < GLOBAL_WORDS) × IsSum e
IsForm (WriteLine e w) = IsSum e × IsWidth w
IsForm Empty = Unit {0}

-- the name of the program itself
abbrev pub program_name : ℕ
program_name = 1

-- none of the statements has this name
abbrev pub IsFree : ℕ → List Statement → Type 0
IsFree n [] = Unit {0}
IsFree n (s ∷ ss) = (s.name ≢ n) × IsFree n ss

-- no two have the same name
abbrev pub AllDiffer : List Statement → Type 0
AllDiffer [] = Unit {0}
AllDiffer (s ∷ ss) = IsFree s.name ss × AllDiffer ss

-- the most words of code that the blocks of a program take together
abbrev pub code_room : ℕ
code_room = MAX_PROGRAM_WORDS

-- a program that can be loaded, with any number of statements, also none
pub record IsProgram (ss : List Statement) : Type 0 where
  pub forms : AllByRecursion (λ s. IsForm s.form) ss
  pub differ : AllDiffer ss
  pub free : IsFree program_name ss
  pub fits : program_charge + charges_of ss ≤ code_room
