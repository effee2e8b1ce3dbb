-- How many words of the target's memory the block of a form is given: upper bounds on its code, by its nodes.
use Rattle.std.specs.Prelude.{ℕ, ◌+◌, List, [], ◌∷◌, Option, Some, None}
use Rattle.pascal_semantics.specs.declared.charges.TheConstants.{PROGRAM_CHARGE}
use Rattle.pascal_semantics.specs.declared.form.Operand.{Operand}
use Rattle.pascal_semantics.specs.declared.form.Operand.TheVariants.{Global, Number}
use Rattle.pascal_semantics.specs.declared.form.Sum.{Sum}
use Rattle.pascal_semantics.specs.declared.form.SimpleForm.{SimpleForm}
use Rattle.pascal_semantics.specs.declared.form.SimpleForm.TheVariants.{Assign, WriteLine, Empty}
use Rattle.pascal_semantics.specs.declared.form.Statement.{Statement}

-- the place of a global variable
abbrev pub place_charge : ℕ
place_charge = 8

-- a variable is its place and 4 words for its value
abbrev pub operand_charge : Operand → ℕ
operand_charge (Global g) = place_charge + 4
operand_charge (Number n) = 4

-- a second operand and the addition
abbrev pub second_charge : Option Operand → ℕ
second_charge None = 0
second_charge (Some b) = operand_charge b + 16

-- the operands of a sum, and their addition
abbrev pub sum_charge : Sum → ℕ
sum_charge s = operand_charge s.first + second_charge s.second

-- a width that is given
abbrev pub width_charge : Option ℕ → ℕ
width_charge None = 0
width_charge (Some w) = 4

-- the words of a statement's block
abbrev pub charge_of : SimpleForm → ℕ
charge_of (Assign g e) = 24 + place_charge + sum_charge e
charge_of (WriteLine e w) = 16 + 24 + sum_charge e + width_charge w
charge_of Empty = 8

-- the words of the program's block
abbrev pub program_charge : ℕ
program_charge = PROGRAM_CHARGE

-- the words of all statements
abbrev pub charges_of : List Statement → ℕ
charges_of [] = 0
charges_of (s ∷ ss) = charge_of s.form + charges_of ss
