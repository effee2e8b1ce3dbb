-- The tokens of a program do not depend on its names.
use Rattle.std.specs.Prelude.{◌≡◌, ℕ, ◌+◌, List, [], ◌∷◌, ◌++◌, Option, Some, None, map}
use Rattle.std.proofs.Common.{refl, sym, ap, subst, ◌∙◌}
use Rattle.std.specs.Option.{option_map}
use Rattle.dice_base.specs.declared.name.Name.{Name}
use Rattle.dice_base.specs.declared.token.TokenKind.{TokenKind}
use Rattle.dice_base.specs.declared.token.TokenKind.TheVariants.{Ident, Number}
use Rattle.dice_base.specs.Tokens.{Toks}
use Rattle.dice_base.specs.Symbols.{end_word, of_word, var_word, semicolon_sign, colon_sign, period_sign, begin_word, case_word, const_word, do_word, else_word, goto_word, if_word, label_word, repeat_word, then_word, type_word, until_word, while_word, with_word, becomes_sign}
use Rattle.pascal_tree.specs.declared.stmt.Stmt.{Stmt}
use Rattle.pascal_tree.specs.declared.stmt.StmtKind.{StmtKind, StmtKind-F, roll-StmtKind}
use Rattle.pascal_tree.specs.declared.stmt.Arm.{Arm, roll-Arm}
use Rattle.pascal_tree.specs.declared.stmt.StmtKind.TheFolds.{map-StmtKind, fold-roll-StmtKind, fold-roll-Stmt, fold-roll-Arm}
use Rattle.pascal_tree.specs.declared.decl.Decl.{Decl}
use Rattle.pascal_tree.specs.declared.decl.Heading.{Heading}
use Rattle.pascal_tree.specs.declared.decl.Block.{Block, Block-F}
use Rattle.pascal_tree.specs.declared.decl.Routine.{Routine, Routine-F}
use Rattle.pascal_tree.specs.declared.decl.Block.TheFolds.{map-Block, map-Routine, fold-roll-Block, fold-roll-Routine}
use Rattle.pascal_tree.specs.declared.program.Tree.{Tree}
use Rattle.pascal_tree.specs.ExprTokens.{expr_tokens, access_tokens, accesses_tokens, args_tokens}
use Rattle.pascal_tree.specs.DeclTokens.{constants_tokens, heading_tokens}
use Rattle.pascal_tree.specs.Declarations.{no_name}
use Rattle.pascal_tree.specs.Unnamed as without
use Rattle.pascal_tree.specs.Unnamed.{unnamed_stmt, unnamed_decl, unnamed_block, unnamed_program}
use Rattle.tree_listing.specs.declared.event.Event.{Event}
use Rattle.tree_listing.specs.declared.event.Event.TheVariants.{Token}
use Rattle.tree_listing.specs.Events as events
use Rattle.tree_listing.specs.Events.{Laid, tokens_of, said, label_tokens, tested, range, child, more, sequence, ended, labels, declaration, part, in_kind, in_arm, in_stmt, in_block, in_routine, stmt_events, kind_events, arm_events, block_events, routine_events, program_tokens}
use Rattle.own_tokens.proofs.EventTokens.{tokens-append, tokens-child}
use Rattle.tree_laws.proofs.Folds.{Agree, agreed, AgreeOnBlocks, agreed_block}

-- ---- events whose tokens are the same

pub record SameTokens (es fs : List Event) : Type 0 where
  pub same : tokens_of es ≡ tokens_of fs

-- at each level
pub record Alike (f g : Laid) : Type 0 where
  pub laid : (level : ℕ) → SameTokens (f level) (g level)

data AreAlike : List Laid → List Laid → Type 0 where
  none : AreAlike [] []
  next : {f g : Laid} {fs gs : List Laid} → Alike f g → AreAlike fs gs → AreAlike (f ∷ fs) (g ∷ gs)

self : (es : List Event) → SameTokens es es
self es = record { same = refl }

append-alike : {a b c d : List Event} → SameTokens a c → SameTokens b d → SameTokens (a ++ b) (c ++ d)
append-alike {a} {b} {c} {d} p q = record {
  same =
      tokens-append a b
      ∙ ap (λ (ts : Toks). ts ++ tokens_of b) p.same
      ∙ ap (λ (ts : Toks). tokens_of c ++ ts) q.same
      ∙ sym (tokens-append c d);
}

token-alike : {a b : List Event} (t : TokenKind) → SameTokens a b → SameTokens (Token t ∷ a) (Token t ∷ b)
token-alike t p = record { same = ap (λ (ts : Toks). t ∷ ts) p.same }

child-alike : {f g : Laid} → Alike f g → (level : ℕ) → SameTokens (child f level) (child g level)
child-alike {f} {g} h level =
    record { same = tokens-child f level ∙ (h.laid (level + 1)).same ∙ sym (tokens-child g level) }

children-alike : {fs gs : List Laid} → AreAlike fs gs → AreAlike (map child fs) (map child gs)
children-alike none = none
children-alike (next h hs) = next (record { laid = child-alike h }) (children-alike hs)

more-alike : {fs gs : List Laid} → AreAlike fs gs → (level : ℕ) → SameTokens (more fs level) (more gs level)
more-alike none level = self []
more-alike (next h hs) level = token-alike semicolon_sign (append-alike (h.laid level) (more-alike hs level))

sequence-alike : {fs gs : List Laid} → AreAlike fs gs → (level : ℕ) → SameTokens (sequence fs level) (sequence gs level)
sequence-alike none level = self []
sequence-alike (next h hs) level = append-alike (h.laid level) (more-alike hs level)

ended-alike : {fs gs : List Laid} → AreAlike fs gs → (level : ℕ) → SameTokens (ended fs level) (ended gs level)
ended-alike none level = self []
ended-alike (next h hs) level =
    append-alike (append-alike (h.laid level) (self (Token semicolon_sign ∷ []))) (ended-alike hs level)

-- the parts of a layer: the tree of each, and events whose tokens are those of this tree
alike-events : {A : Type 0} (f : A → Laid) (ys : List ((a : A) × (g : Laid) × Alike (f a) g))
    → AreAlike (map f (map (λ e. e.0) ys)) (map (λ e. e.1) ys)
alike-events f [] = none
alike-events f (y ∷ ys) = next y.2 (alike-events f ys)

-- ---- statements

abbrev KindAlike : StmtKind → Laid → Type 0
KindAlike k f = Alike (kind_events k) f

abbrev ArmAlike : Arm → Laid → Type 0
ArmAlike a f = Alike (arm_events a) f

abbrev StmtAlike : Stmt → Laid → Type 0
StmtAlike s f = Alike (stmt_events s) f

abbrev KindPart : Type 0
KindPart = (k : StmtKind) × (f : Laid) × KindAlike k f

abbrev ArmPart : Type 0
ArmPart = (a : Arm) × (f : Laid) × ArmAlike a f

abbrev StmtPart : Type 0
StmtPart = (s : Stmt) × (f : Laid) × StmtAlike s f

abbrev kind_of : StmtKind-F KindPart ArmPart StmtPart → StmtKind-F StmtKind Arm Stmt
kind_of = map-StmtKind KindPart ArmPart StmtPart StmtKind Arm Stmt (λ e. e.0) (λ e. e.0) (λ e. e.0)

abbrev kind_tree_events : StmtKind-F KindPart ArmPart StmtPart → Laid
kind_tree_events y =
    in_kind (map-StmtKind StmtKind Arm Stmt Laid Laid Laid kind_events arm_events stmt_events (kind_of y))

abbrev kind_part_events : StmtKind-F KindPart ArmPart StmtPart → Laid
kind_part_events y = in_kind (map-StmtKind KindPart ArmPart StmtPart Laid Laid Laid (λ e. e.1) (λ e. e.1) (λ e. e.1) y)

layer-alike : (y : StmtKind-F KindPart ArmPart StmtPart) (level : ℕ) → SameTokens (kind_tree_events y level)
    (kind_part_events y level)
layer-alike StmtKind-F.Empty level = self []
layer-alike (StmtKind-F.Assign a e) level = self (said (access_tokens a ++ becomes_sign ∷ expr_tokens e))
layer-alike (StmtKind-F.Call x args) level = self (said (Ident x ∷ args_tokens args))
layer-alike (StmtKind-F.Goto n) level = self (said (goto_word ∷ Number n ∷ []))
layer-alike (StmtKind-F.Compound ys) level =
    token-alike begin_word
    (append-alike (sequence-alike (children-alike (alike-events stmt_events ys)) level)
    (self (Token end_word ∷ [])))
layer-alike (StmtKind-F.If e y None) level =
    append-alike (append-alike (self (tested if_word e then_word)) (child-alike y.2 level)) (self [])
layer-alike (StmtKind-F.If e y (Some z)) level =
    append-alike (append-alike (self (tested if_word e then_word)) (child-alike y.2 level))
    (token-alike else_word (child-alike z.2 level))
layer-alike (StmtKind-F.Case e ys) level =
    append-alike
    (append-alike (self (tested case_word e of_word)) (sequence-alike (alike-events arm_events ys) level))
    (self (Token end_word ∷ []))
layer-alike (StmtKind-F.While e y) level = append-alike (self (tested while_word e do_word)) (child-alike y.2 level)
layer-alike (StmtKind-F.Repeat ys e) level =
    token-alike repeat_word
    (append-alike (sequence-alike (children-alike (alike-events stmt_events ys)) level)
    (self (said (until_word ∷ expr_tokens e))))
layer-alike (StmtKind-F.For x first down last y) level =
    append-alike (self (said (range x first down last))) (child-alike y.2 level)
layer-alike (StmtKind-F.With records y) level =
    append-alike (self (said (with_word ∷ accesses_tokens records ++ do_word ∷ []))) (child-alike y.2 level)

stmts-alike : Agree roll-StmtKind roll-Arm without.in_stmt in_kind in_arm in_stmt KindAlike ArmAlike StmtAlike
unfolding kind_events arm_events stmt_events
stmts-alike = record {
  kinds =
      λ y. subst (λ (f : Laid). Alike f (kind_part_events y))
      (sym (fold-roll-StmtKind Laid Laid Laid in_kind in_arm in_stmt (kind_of y)))
      (record { laid = layer-alike y });
  arms =
      λ y. subst (λ (f : Laid). Alike f (in_arm (record { constants = y.constants; body = y.body.1 })))
      (sym (fold-roll-Arm Laid Laid Laid in_kind in_arm in_stmt
      (record { constants = y.constants; body = y.body.0 })))
      (record {
        laid = λ level. append-alike (self (said (constants_tokens y.constants ++ colon_sign ∷ [])))
            (child-alike y.body.2 level);
      });
  stmts =
      λ y. subst (λ (f : Laid). Alike f (in_stmt (record { name = y.name; label = y.label; kind = y.kind.1 })))
      (sym (fold-roll-Stmt Laid Laid Laid in_kind in_arm in_stmt
      (record { name = no_name; label = y.label; kind = y.kind.0 })))
      (record {
        laid = λ level. record
            { same = (append-alike (self (said (label_tokens y.label))) (y.kind.2.laid level)).same };
      });
}

pub stmt-tokens-unnamed : (s : Stmt) → StmtAlike (unnamed_stmt s) (stmt_events s)
unfolding unnamed_stmt stmt_events
stmt-tokens-unnamed =
    agreed roll-StmtKind roll-Arm without.in_stmt in_kind in_arm in_stmt KindAlike ArmAlike StmtAlike stmts-alike

-- ---- blocks and routines

abbrev BlockAlike : Block → Laid → Type 0
BlockAlike b f = Alike (block_events b) f

abbrev RoutineAlike : Routine → Laid → Type 0
RoutineAlike r f = Alike (routine_events r) f

abbrev BlockPart : Type 0
BlockPart = (b : Block) × (f : Laid) × BlockAlike b f

abbrev RoutinePart : Type 0
RoutinePart = (r : Routine) × (f : Laid) × RoutineAlike r f

decls-alike : (ds : List Decl) → AreAlike (map declaration (map unnamed_decl ds)) (map declaration ds)
decls-alike [] = none
decls-alike (d ∷ ds) = next (record { laid = λ level. record { same = refl } }) (decls-alike ds)

part-alike : (word : TokenKind) (ds : List Decl) (level : ℕ)
    → SameTokens (part word (map unnamed_decl ds) level) (part word ds level)
part-alike word [] level = self []
part-alike word (d ∷ ds) level = record { same = (token-alike word (ended-alike (decls-alike (d ∷ ds)) level)).same }

labels-alike : (o : Option Decl) (level : ℕ) → SameTokens (labels (option_map unnamed_decl o) level) (labels o level)
labels-alike None level = self []
labels-alike (Some d) level = part-alike label_word (d ∷ []) level

-- the block of a layer without names, and that of a routine
abbrev bare_block : Block-F BlockPart RoutinePart → Block-F Block Routine
bare_block y = record {
  labels = option_map unnamed_decl y.labels;
  consts = map unnamed_decl y.consts;
  types = map unnamed_decl y.types;
  vars = map unnamed_decl y.vars;
  routines = map (λ e. e.0) y.routines;
  body = unnamed_stmt y.body;
}

abbrev bare_routine : Heading → Option Block → Routine-F Block Routine
bare_routine heading block = record { name = no_name; heading = heading; block = block }

block-layer : (y : Block-F BlockPart RoutinePart) (level : ℕ)
    → SameTokens (in_block (map-Block Block Routine Laid Laid block_events routine_events (bare_block y)) level)
    (in_block (map-Block BlockPart RoutinePart Laid Laid (λ e. e.1) (λ e. e.1) y) level)
block-layer y level =
    append-alike (append-alike
    (append-alike (append-alike (append-alike (labels-alike y.labels level) (part-alike const_word y.consts level))
    (part-alike type_word y.types level)) (part-alike var_word y.vars level))
    (ended-alike (children-alike (alike-events routine_events y.routines)) level))
    (child-alike (stmt-tokens-unnamed y.body) level)

routine-layer : (name : Name) (heading : Heading) (block : Option BlockPart)
    → RoutineAlike
    (without.in_routine
    (map-Routine BlockPart RoutinePart Block Routine (λ e. e.0) (λ e. e.0)
    (record { name = name; heading = heading; block = block })))
    (in_routine
    (map-Routine BlockPart RoutinePart Laid Laid (λ e. e.1) (λ e. e.1)
    (record { name = name; heading = heading; block = block })))
unfolding block_events routine_events
routine-layer name heading None =
    subst (λ (f : Laid). Alike f (in_routine (record { name = name; heading = heading; block = None })))
    (sym (fold-roll-Routine Laid Laid in_block in_routine (bare_routine heading None)))
    (record { laid = λ level. record { same = refl } })
routine-layer name heading (Some y) =
    subst (λ (f : Laid). Alike f (in_routine (record { name = name; heading = heading; block = Some y.1 })))
    (sym (fold-roll-Routine Laid Laid in_block in_routine (bare_routine heading (Some y.0))))
    (record {
      laid = λ level. record {
        same = (append-alike (self (said (heading_tokens heading ++ semicolon_sign ∷ [])))
            (y.2.laid level)).same;
      };
    })

blocks-alike : AgreeOnBlocks without.in_block without.in_routine in_block in_routine BlockAlike RoutineAlike
unfolding block_events routine_events
blocks-alike = record {
  blocks = λ y.
      subst (λ (f : Laid). Alike f (in_block (map-Block BlockPart RoutinePart Laid Laid (λ e. e.1) (λ e. e.1) y)))
      (sym (fold-roll-Block Laid Laid in_block in_routine (bare_block y)))
      (record { laid = block-layer y });
  routines = λ y. routine-layer y.name y.heading y.block;
}

block-tokens-unnamed : (b : Block) → BlockAlike (unnamed_block b) (block_events b)
unfolding unnamed_block block_events
block-tokens-unnamed =
    agreed_block without.in_block without.in_routine in_block in_routine BlockAlike RoutineAlike blocks-alike

pub program-tokens-unnamed : (p : Tree) → program_tokens (unnamed_program p) ≡ program_tokens p
program-tokens-unnamed p =
    (append-alike (append-alike (self (said (events.heading p))) ((block-tokens-unnamed p.block).laid 0))
    (self (Token period_sign ∷ []))).same
