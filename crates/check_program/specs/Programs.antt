-- A whole program: its layouts in the order of the text, the program's first; or its first fault.
use Rattle.std.specs.Prelude.{ℕ, List, [], Option, Some, None, Result}
use Rattle.dice_base.specs.declared.name.Name.{Name}
use Rattle.pascal_tree.specs.declared.stmt.Stmt.{Stmt}
use Rattle.pascal_tree.specs.declared.program.Tree.{Tree}
use Rattle.check_rules.specs.declared.fault.CheckFault.{CheckFault}
use Rattle.check_rules.specs.Regions.{Regions}
use Rattle.check_decl.specs.declared.place.At.{At}
use Rattle.check_decl.specs.declared.place.Owner.{Owner}
use Rattle.check_decl.specs.declared.place.Layout.{Layout}
use Rattle.body_labels.specs.Labels.{Numbers}
use Rattle.check_decl.specs.BlockRules.{Outcome, program_walk}
use Rattle.check_decl.specs.Blocks.{block_judge}
use Rattle.check_body.specs.Statements.{judge_of}
use Rattle.check_program.specs.BodyRules.{body_outcome, layouts_in}

abbrev pub labels_of_part : Option (Name × Numbers) → Numbers
labels_of_part None = []
labels_of_part (Some (name, ns)) = ns

abbrev pub body_rule : Option (Name × Numbers) → Stmt → Owner → Regions → At → Outcome
body_rule labels s = body_outcome (judge_of (labels_of_part labels) s)

-- the place at the end of a program, or its first fault
abbrev pub checked : Tree → Outcome
checked p = program_walk p.files (block_judge body_rule p.block)

abbrev pub checked_layouts : Tree → Result (List Layout) CheckFault
checked_layouts p = layouts_in (checked p)
