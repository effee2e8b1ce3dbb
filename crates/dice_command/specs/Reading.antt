-- What texts turn out to be: one that is to be loaded, and one that is to stand in the place of a statement.
use Rattle.std.specs.Prelude.{◌≡◌, ℕ, ◌<◌, ◌≤◌, ◌-◌, List, length, Result, Ok, Err}
use Rattle.dice_base.specs.Tokens.{Toks}
use Rattle.dice_base.specs.Lexemes.{Lexes}
use Rattle.dice_base.specs.Forms.{Form}
use Rattle.pascal_scanner.specs.Unread.{Reports}
use Rattle.pascal_scanner.specs.declared.limits.TheConstants.{MAX_TEXT_BYTES}
use Rattle.pascal_scanner.specs.declared.fault.ScanFault.{ScanFault}
use Rattle.pascal_scanner.specs.declared.fault.ScanFault.TheVariants.{TextTooLong}
use Rattle.token_reader.specs.Answers.{Says}
use Rattle.pascal_tree.specs.declared.levels.TheConstants.{LEVELS}
use Rattle.pascal_tree.specs.declared.program.Tree.{Tree}
use Rattle.pascal_tree.specs.declared.stmt.Stmt.{Stmt}
use Rattle.pascal_tree.specs.Naming.{numbered_program}
use Rattle.pascal_tree.specs.Programs.{program_at}
use Rattle.pascal_tree.specs.Statements.{stmt_at}
use Rattle.pascal_parser.specs.Named.{named_stmt}
use Rattle.dice_command.specs.declared.command.CommandFault.{CommandFault}
use Rattle.dice_command.specs.declared.command.CommandFault.TheVariants.{Scan, Parse}

-- the text is not cut into tokens, for this reason; that it is too long comes before all others
pub record IsUnscanned (text : List ℕ) (fault : ScanFault) : Type 0 where
  pub first : MAX_TEXT_BYTES < length text → fault ≡ TextTooLong
  pub reported : Reports fault text

-- the text is cut into tokens of which this is said
pub record IsScanned (text : List ℕ) (Said : Toks → Type 0) : Type 0 where
  pub short : length text ≤ MAX_TEXT_BYTES
  pub tokens : Toks
  pub lexes : Lexes text tokens
  pub said : Said tokens

-- what a result says of the text: what is made of the tree that its tokens spell within n levels, or why it is not read
abbrev pub TextSays : {A B : Type 0} → (ℕ → Form A) → ℕ → (A → B) → List ℕ → Result B CommandFault → Type 0
TextSays g n make text (Err (Scan fault)) = IsUnscanned text fault
TextSays g n make text (Err (Parse fault)) = IsScanned text (λ tokens. Says g n make tokens (Err fault))
TextSays g n make text (Err of_line) = ⊥
TextSays g n make text (Ok b) = IsScanned text (λ tokens. Says g n make tokens (Ok b))

-- a program, whose items have names, or why the text is none
abbrev pub IsProgramText : List ℕ → Result Tree CommandFault → Type 0
IsProgramText text result = TextSays program_at (LEVELS - 1) numbered_program text result

-- a statement, or why the text is none
abbrev pub IsStmtText : List ℕ → Result Stmt CommandFault → Type 0
IsStmtText text result = TextSays stmt_at LEVELS named_stmt text result
