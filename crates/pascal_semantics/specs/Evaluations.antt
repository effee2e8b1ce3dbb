-- What a statement comes to, by the values of its operands.
use Rattle.std.specs.Prelude.{ℕ, List, Option, Some, None}
use Rattle.pascal_semantics.specs.declared.form.Operand.{Operand}
use Rattle.pascal_semantics.specs.declared.form.Sum.{Sum}
use Rattle.pascal_semantics.specs.declared.form.SimpleForm.{SimpleForm}
use Rattle.pascal_semantics.specs.declared.form.SimpleForm.TheVariants.{Assign, WriteLine, Empty}
use Rattle.pascal_semantics.specs.Step.{Evaluation, Value, sum_of, operand_value}

-- the value of a sum, or its error
abbrev pub sum_evaluation : Operand → Option Operand → List ℕ → Evaluation
sum_evaluation a None globals = Value (operand_value a globals)
sum_evaluation a (Some b) globals = sum_of (operand_value a globals) (operand_value b globals)

-- the sum in a statement, if it has one
abbrev pub sum_in : SimpleForm → Option Sum
sum_in (Assign g e) = Some e
sum_in (WriteLine e w) = Some e
sum_in Empty = None

-- the same of the part of a statement; 0 where it has none, which its effect does not look at
abbrev pub part_evaluation : Option Sum → List ℕ → Evaluation
part_evaluation None globals = Value 0
part_evaluation (Some e) globals = sum_evaluation e.first e.second globals

-- the value that a statement does its effect with, 0 where it has no part, or the error
abbrev pub form_evaluation : SimpleForm → List ℕ → Evaluation
form_evaluation f globals = part_evaluation (sum_in f) globals
