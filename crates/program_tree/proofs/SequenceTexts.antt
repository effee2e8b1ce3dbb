-- An own text says whether its item contains a sequence of statements.
use Rattle.std.proofs.Common.{◌≡◌, ℕ, Bool, true, false, List, [], ◌∷◌, ◌++◌, Option, Some, None, if◌then◌else◌, ◌==◌, ◌||◌, map, refl, ap, ◌∙◌}
use Rattle.pascal_tree.specs.declared.expr.Access.{Access, out-Access}
use Rattle.pascal_tree.specs.declared.expr.AccessPart.TheFolds.{fold_out-Access}
use Rattle.pascal_tree.specs.declared.stmt.Stmt.{Stmt, out-Stmt}
use Rattle.pascal_tree.specs.declared.stmt.StmtKind.{StmtKind, StmtKind-F, out-StmtKind}
use Rattle.pascal_tree.specs.declared.stmt.Arm.{Arm}
use Rattle.pascal_tree.specs.declared.decl.DeclKind.{DeclKind}
use Rattle.pascal_tree.specs.declared.decl.DeclKind.TheVariants as decl
use Rattle.pascal_tree.specs.declared.decl.Heading.{Heading}
use Rattle.pascal_tree.specs.declared.decl.Routine.{out-Routine}
use Rattle.dice_base.specs.Symbols.{begin_word, repeat_word}
use Rattle.dice_base.specs.declared.token.TokenKind.TheVariants.{Ident}
use Rattle.dice_base.specs.Tokens.{Toks, class_at, class_of}
use Rattle.pascal_tree.specs.DeclTokens.{heading_tokens, routine_word}
use Rattle.pascal_tree.specs.ExprTokens.{access_tokens, in_part, in_factor, in_access, in_adding, in_arg, in_expr, in_multiplying, in_relation, in_member, in_sum, in_term}
use Rattle.pascal_tree.specs.Paths.{ItemValue, OfProgram, OfDecl, OfRoutine, OfStmt}
use Rattle.pascal_tree.specs.Rows.{arm_text, label_part, own_decl, own_kind, own_text}
use Rattle.program_tree.specs.Found.{is_sequence_text, unlabelled_text}
use Rattle.program_tree.specs.Lookups.{is_sequence, kind_is_sequence}

-- the tokens of an access begin with its identifier
access_begins : (a : Access) → (rest : Toks) × (access_tokens a ≡ Ident (out-Access a).ident ∷ rest)
unfolding access_tokens
access_begins a = (_, fold_out-Access Toks Toks Toks Toks Toks Toks Toks Toks Toks Toks Toks in_part in_factor in_access in_adding in_arg in_expr in_multiplying in_relation in_member in_sum in_term a)

heading_begins : (h : Heading) → (rest : Toks) × (heading_tokens h ≡ routine_word h.function ∷ rest)
unfolding heading_tokens
heading_begins h = (_, refl)

abbrev begins_sequence : Toks → Bool
begins_sequence own = (class_at own == class_of begin_word) || (class_at own == class_of repeat_word)

abbrev kind_text : StmtKind-F StmtKind Arm Stmt → Toks
kind_text x = own_kind arm_text x

kind_begins : (x : StmtKind-F StmtKind Arm Stmt) → begins_sequence (kind_text x) ≡ kind_is_sequence x
kind_begins StmtKind-F.Empty = refl
kind_begins (StmtKind-F.Assign a e) = rw (access_begins a).1 refl
kind_begins (StmtKind-F.Call f args) = refl
kind_begins (StmtKind-F.Goto label) = refl
kind_begins (StmtKind-F.Compound stmts) = refl
kind_begins (StmtKind-F.If e first second) = refl
kind_begins (StmtKind-F.Case e arms) = refl
kind_begins (StmtKind-F.While e body) = refl
kind_begins (StmtKind-F.Repeat stmts e) = refl
kind_begins (StmtKind-F.For v first down last body) = refl
kind_begins (StmtKind-F.With records body) = refl

kind_unlabelled : (x : StmtKind-F StmtKind Arm Stmt) → unlabelled_text (kind_text x) ≡ kind_text x
kind_unlabelled StmtKind-F.Empty = refl
kind_unlabelled (StmtKind-F.Assign a e) = rw (access_begins a).1 refl
kind_unlabelled (StmtKind-F.Call f args) = refl
kind_unlabelled (StmtKind-F.Goto label) = refl
kind_unlabelled (StmtKind-F.Compound stmts) = refl
kind_unlabelled (StmtKind-F.If e first second) = refl
kind_unlabelled (StmtKind-F.Case e arms) = refl
kind_unlabelled (StmtKind-F.While e body) = refl
kind_unlabelled (StmtKind-F.Repeat stmts e) = refl
kind_unlabelled (StmtKind-F.For v first down last body) = refl
kind_unlabelled (StmtKind-F.With records body) = refl

stmt_unlabelled : (label : Option ℕ) (x : StmtKind-F StmtKind Arm Stmt) → unlabelled_text (label_part label ++ kind_text x) ≡ kind_text x
stmt_unlabelled None x = kind_unlabelled x
stmt_unlabelled (Some n) x = refl

routine_begins : (function : Bool) (rest : Toks) → is_sequence_text (routine_word function ∷ rest) ≡ false
routine_begins true rest = refl
routine_begins false rest = refl

decl_begins : (kind : DeclKind) → is_sequence_text (own_decl kind) ≡ false
decl_begins (decl.LabelDecl ns) = refl
decl_begins (decl.ConstDecl x c) = refl
decl_begins (decl.TypeDecl x t) = refl
decl_begins (decl.VarDecl xs t) = refl

pub sequence_text : (x : ItemValue) → is_sequence_text (own_text x) ≡ is_sequence x
sequence_text (OfProgram p) = refl
sequence_text (OfDecl d) = decl_begins d.kind
sequence_text (OfRoutine r) =
    (let begins = heading_begins (out-Routine r).heading in
    ap is_sequence_text begins.1 ∙ routine_begins (out-Routine r).heading.function begins.0)
sequence_text (OfStmt s) =
    (let kind = out-StmtKind (out-Stmt s).kind in
    ap begins_sequence (stmt_unlabelled (out-Stmt s).label kind) ∙ kind_begins kind)
