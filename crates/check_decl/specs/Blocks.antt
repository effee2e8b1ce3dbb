-- The judgements of declarations, blocks and routines: the rules over the tree. What comes of a body is a parameter.
use Rattle.std.specs.Prelude.{ℕ, List, [], map, Option, Some, None, Result, Ok, Err}
use Rattle.dice_base.specs.declared.name.Name.{Name}
use Rattle.pascal_tree.specs.declared.stmt.Stmt.{Stmt}
use Rattle.pascal_tree.specs.declared.decl.Decl.{Decl}
use Rattle.pascal_tree.specs.declared.decl.DeclKind.{DeclKind}
use Rattle.pascal_tree.specs.declared.decl.DeclKind.TheVariants.{LabelDecl, ConstDecl, TypeDecl, VarDecl}
use Rattle.pascal_tree.specs.declared.decl.Block.{Block, Block-F, fold-Block}
use Rattle.pascal_tree.specs.declared.decl.Routine.{Routine, Routine-F, fold-Routine}
use Rattle.pascal_tree.specs.declared.program.Tree.{Tree}
use Rattle.check_rules.specs.declared.fault.CheckFault.{CheckFault}
use Rattle.check_rules.specs.Regions.{Regions}
use Rattle.check_types.specs.TypeTexts.{reading_of}
use Rattle.check_decl.specs.declared.place.At.{At}
use Rattle.check_decl.specs.declared.place.Owner.{Owner}
use Rattle.check_decl.specs.declared.place.Known.{Known}
use Rattle.body_labels.specs.Labels.{Numbers, placed_labels}
use Rattle.check_decl.specs.BlockRules.{Outcome, DeclJudge, constant_decl, type_decl, variable_decl, label_decl, BlockJudge, RoutineJudge, BlockParts, block_of_parts, no_body, program_walk, then_on, routine_items}

abbrev pub kind_judge : Name → DeclKind → DeclJudge
kind_judge name (LabelDecl ns) = label_decl
kind_judge name (ConstDecl x c) = constant_decl name x c
kind_judge name (TypeDecl x t) = type_decl name x (reading_of t)
kind_judge name (VarDecl xs t) = variable_decl name xs (reading_of t)

abbrev pub decl_judge : Decl → DeclJudge
decl_judge d = kind_judge d.name d.kind

abbrev pub numbers_in : DeclKind → Numbers
numbers_in (LabelDecl ns) = ns
numbers_in _ = []

abbrev pub labels_in : Option Decl → Option (Name × Numbers)
labels_in None = None
labels_in (Some d) = Some (d.name, numbers_in d.kind)

-- what comes of a body, where the block declares these labels
abbrev pub BodyRule : Type 0
BodyRule = Option (Name × Numbers) → Stmt → Owner → Regions → At → Outcome

module _ (body : BodyRule) where
  abbrev pub in_block : Block-F BlockJudge RoutineJudge → BlockJudge
  in_block b = block_of_parts (record {
    labels = labels_in b.labels;
    placed = placed_labels b.body;
    consts = map decl_judge b.consts;
    types = map decl_judge b.types;
    vars = map decl_judge b.vars;
    routines = b.routines;
    body = body (labels_in b.labels) b.body;
  })

  abbrev pub in_routine : Routine-F BlockJudge RoutineJudge → RoutineJudge
  in_routine r = record { name = r.name; heading = r.heading; block = r.block }

  unfoldable pub block_judge : Block → BlockJudge
  block_judge = fold-Block BlockJudge RoutineJudge in_block in_routine

  unfoldable pub routine_judge : Routine → RoutineJudge
  routine_judge = fold-Routine BlockJudge RoutineJudge in_block in_routine

-- behind the declarations of a block
abbrev pub rest_walk : BodyRule → Block-F Block Routine → Owner → Regions → At → Outcome
rest_walk rule b owner outer here =
    then_on (routine_items owner outer (map (routine_judge rule) b.routines) here)
    (rule (labels_in b.labels) b.body owner outer)

-- the declarations of a program, where bodies are left out
abbrev pub bodyless : BodyRule
bodyless labels s = no_body

abbrev pub declarations_of : Tree → Outcome
declarations_of p = program_walk p.files (block_judge bodyless p.block)
