-- Statements that the code can load.
use Rattle.std.specs.Prelude.{◌≤◌, List, length}
use Rattle.std.specs.List.{AllByRecursion}
use Rattle.pascal_semantics.specs.declared.form.Statement.{Statement}
use Rattle.pascal_semantics.specs.Valid.{IsForm, AllDiffer, IsFree, program_name}

-- statements that can be loaded where they fit
pub record AreNamed (ss : List Statement) : Type 0 where
  pub forms : AllByRecursion (λ s. IsForm s.form) ss
  pub differ : AllDiffer ss
  pub free : IsFree program_name ss
  pub few : length ss ≤ 4294967296
