-- A tree is formed exactly where it is so before its items are given names.
use Rattle.std.specs.Prelude.{◌≡◌, ℕ, ◌+◌, leb, Bool, ◌&&◌, List, [], ◌∷◌, Option, Some, None, map}
use Rattle.std.proofs.Common.{refl, sym, ap, ◌∙◌}
use Rattle.std.specs.Option.{option_map}
use Rattle.dice_base.specs.declared.name.Name.{Name}
use Rattle.pascal_tree.specs.declared.levels.TheConstants.{LEVELS}
use Rattle.pascal_tree.specs.declared.stmt.Stmt.{Stmt}
use Rattle.pascal_tree.specs.declared.stmt.StmtKind.{roll-StmtKind}
use Rattle.pascal_tree.specs.declared.stmt.Arm.{roll-Arm}
use Rattle.pascal_tree.specs.declared.decl.Decl.{Decl}
use Rattle.pascal_tree.specs.declared.decl.Heading.{Heading}
use Rattle.pascal_tree.specs.declared.decl.Block.{Block, Block-F}
use Rattle.pascal_tree.specs.declared.decl.Routine.{Routine, Routine-F, out-Routine, roll-Routine, roll-out-Routine}
use Rattle.pascal_tree.specs.declared.decl.Block.TheFolds.{map-Block, map-Routine, fold-roll-Block, fold-roll-Routine}
use Rattle.pascal_tree.specs.declared.program.Tree.{Tree}
use Rattle.pascal_tree.specs.Declarations.{no_name}
use Rattle.pascal_tree.specs.Programs.{make_routine}
use Rattle.pascal_tree.specs.Naming.{Numbering, list_numbering, decl_numbering, decls_numbering, labels_numbering, stmt_numbering, block_in_turn, routine_in_turn, block_numbering, routine_numbering, numbered_program}
use Rattle.pascal_tree.specs.Unnamed as without
use Rattle.pascal_tree.specs.Unnamed.{unnamed_decl, unnamed_stmt, unnamed_block, unnamed_routine}
use Rattle.pascal_tree.specs.FormedExprs.{is_identifier, all_formed}
use Rattle.pascal_tree.specs.Formed.{stmt_is_formed, block_is_formed, routine_is_formed, is_formed, is_formed_stmt, is_formed_routine}
use Rattle.pascal_tree.specs.Openness.{Ending, stmt_ending, block_is_paired, routine_is_paired}
use Rattle.pascal_tree.specs.Depth.{stmt_depth, block_depth, routine_depth}
use Rattle.tree_laws.proofs.Folds.{AgreeOnBlocks, agreed_block}
use Rattle.tree_laws.proofs.BlockSpells.{routine-unnamed}
use Rattle.tree_laws.proofs.Nameless.{stmt-formed, stmt-levels, stmt-ends, block-formed, block-levels, block-paired, routine-formed, routine-levels, routine-paired}
use Rattle.tree_laws.proofs.Renamed.{stmt-numbered}

-- ---- without names both are the same

stmt-same : (x : Stmt) (n : ℕ) → unnamed_stmt (stmt_numbering x n).0 ≡ unnamed_stmt x
unfolding unnamed_stmt
stmt-same x n = stmt-numbered roll-StmtKind roll-Arm without.in_stmt (λ a b label k. refl) x n

decls-same : (ds : List Decl) (n : ℕ) → map unnamed_decl (decls_numbering ds n).0 ≡ map unnamed_decl ds
decls-same [] n = refl
decls-same (d ∷ ds) n = ap (λ es. unnamed_decl d ∷ es) (decls-same ds (n + 1))

labels-same : (o : Option Decl) (n : ℕ) → option_map unnamed_decl (labels_numbering o n).0 ≡ option_map unnamed_decl o
labels-same None n = refl
labels-same (Some d) n = refl

-- from whichever number on the names are
abbrev BlockIs : Numbering Block → Block → Type 0
BlockIs f b = (n : ℕ) → unnamed_block (f n).0 ≡ b

abbrev RoutineIs : Numbering Routine → Routine → Type 0
RoutineIs f r = (n : ℕ) → unnamed_routine (f n).0 ≡ r

abbrev BlockPart : Type 0
BlockPart = (f : Numbering Block) × (b : Block) × BlockIs f b

abbrev RoutinePart : Type 0
RoutinePart = (f : Numbering Routine) × (r : Routine) × RoutineIs f r

routines-same : (ys : List RoutinePart) (n : ℕ)
    → map unnamed_routine (list_numbering (map (λ e. e.0) ys) n).0 ≡ map (λ e. e.1) ys
routines-same [] n = refl
routines-same (y ∷ ys) n = rw (y.2 n, routines-same ys (y.0 n).1) refl

block-is : (y : Block-F BlockPart RoutinePart) (n : ℕ)
    → unnamed_block (block_in_turn (map-Block BlockPart RoutinePart (Numbering Block) (Numbering Routine) (λ e. e.0)
    (λ e. e.0) y) n).0
    ≡ without.in_block (map-Block BlockPart RoutinePart Block Routine (λ e. e.1) (λ e. e.1) y)
unfolding unnamed_block unnamed_routine
block-is y n =
    let consts = decls_numbering y.consts (labels_numbering y.labels n).1 in
    let types = decls_numbering y.types consts.1 in
    let vars = decls_numbering y.vars types.1 in
    let routines = list_numbering (map (λ e. e.0) y.routines) vars.1 in
    fold-roll-Block Block Routine without.in_block without.in_routine _
    ∙ rw (
      labels-same y.labels n,
      decls-same y.consts (labels_numbering y.labels n).1,
      decls-same y.types consts.1,
      decls-same y.vars types.1,
      routines-same y.routines vars.1,
      stmt-same y.body routines.1,
    ) refl

routine-is : (name : Name) (heading : Heading) (block : Option BlockPart) (n : ℕ)
    → unnamed_routine (routine_in_turn (map-Routine BlockPart RoutinePart (Numbering Block) (Numbering Routine) (λ e. e.0)
    (λ e. e.0) (record { name = name; heading = heading; block = block })) n).0
    ≡ without.in_routine (map-Routine BlockPart RoutinePart Block Routine (λ e. e.1) (λ e. e.1)
    (record { name = name; heading = heading; block = block }))
routine-is name heading None n = routine-unnamed _ heading None
routine-is name heading (Some y) n =
    routine-unnamed _ heading (Some (y.0 (n + 1)).0) ∙ ap (λ b. make_routine heading (Some b)) (y.2 (n + 1))

in_turn : AgreeOnBlocks block_in_turn routine_in_turn without.in_block without.in_routine BlockIs RoutineIs
in_turn = record { blocks = block-is; routines = λ y. routine-is y.name y.heading y.block }

block-same : (b : Block) (n : ℕ) → unnamed_block (block_numbering b n).0 ≡ unnamed_block b
unfolding block_numbering unnamed_block
block-same b n = agreed_block block_in_turn routine_in_turn without.in_block without.in_routine BlockIs RoutineIs in_turn b n

routine-at : (name : Name) (heading : Heading) (o : Option Block) (n : ℕ)
    → unnamed_routine (routine_numbering (roll-Routine (record { name = name; heading = heading; block = o })) n).0
    ≡ make_routine heading (option_map unnamed_block o)
unfolding block_numbering routine_numbering
routine-at name heading None n =
    ap (λ (f : Numbering Routine). unnamed_routine (f n).0)
    (fold-roll-Routine (Numbering Block) (Numbering Routine) block_in_turn routine_in_turn _)
    ∙ routine-unnamed _ heading None
routine-at name heading (Some b) n =
    ap (λ (f : Numbering Routine). unnamed_routine (f n).0)
    (fold-roll-Routine (Numbering Block) (Numbering Routine) block_in_turn routine_in_turn _)
    ∙ routine-unnamed _ heading (Some (block_numbering b (n + 1)).0)
    ∙ ap (λ c. make_routine heading (Some c)) (block-same b (n + 1))

routine-same : (r : Routine) (n : ℕ) → unnamed_routine (routine_numbering r n).0 ≡ unnamed_routine r
routine-same r n =
    let x = out-Routine r in
    ap (λ s. unnamed_routine (routine_numbering s n).0) (sym (roll-out-Routine r))
    ∙ routine-at x.name x.heading x.block n
    ∙ sym (routine-unnamed x.name x.heading x.block)
    ∙ ap unnamed_routine (roll-out-Routine r)

-- ---- and so both are formed, or neither is

pub numbered-program : (p : Tree) → is_formed (numbered_program p) ≡ is_formed p
numbered-program p =
    let c = (block_numbering p.block 2).0 in
    let same = block-same p.block 2 in
    let formed : block_is_formed c ≡ block_is_formed p.block =
    sym (block-formed c) ∙ ap block_is_formed same ∙ block-formed p.block in
    let paired : block_is_paired c ≡ block_is_paired p.block =
    sym (block-paired c) ∙ ap block_is_paired same ∙ block-paired p.block in
    let levels : block_depth c ≡ block_depth p.block =
    sym (block-levels c) ∙ ap block_depth same ∙ block-levels p.block in
    ap (λ b. is_identifier p.ident && all_formed (map is_identifier p.files) && b && block_is_paired c && leb (block_depth c) LEVELS) formed
    ∙ ap (λ b. is_identifier p.ident && all_formed (map is_identifier p.files) && block_is_formed p.block && b && leb (block_depth c) LEVELS) paired
    ∙ ap (λ m. is_identifier p.ident && all_formed (map is_identifier p.files) && block_is_formed p.block && block_is_paired p.block && leb m LEVELS) levels

pub numbered-stmt : (x : Stmt) (n : ℕ) → is_formed_stmt (stmt_numbering x n).0 ≡ is_formed_stmt x
numbered-stmt x n =
    let y = (stmt_numbering x n).0 in
    let same = stmt-same x n in
    let formed : stmt_is_formed y ≡ stmt_is_formed x =
    sym (stmt-formed y) ∙ ap stmt_is_formed same ∙ stmt-formed x in
    let ends : stmt_ending y ≡ stmt_ending x = sym (stmt-ends y) ∙ ap stmt_ending same ∙ stmt-ends x in
    let levels : stmt_depth y ≡ stmt_depth x = sym (stmt-levels y) ∙ ap stmt_depth same ∙ stmt-levels x in
    ap (λ b. b && (stmt_ending y).is_paired && leb (stmt_depth y) LEVELS) formed
    ∙ ap (λ (e : Ending). stmt_is_formed x && e.is_paired && leb (stmt_depth y) LEVELS) ends
    ∙ ap (λ m. stmt_is_formed x && (stmt_ending x).is_paired && leb m LEVELS) levels

pub numbered-routine : (r : Routine) (n : ℕ) → is_formed_routine (routine_numbering r n).0 ≡ is_formed_routine r
numbered-routine r n =
    let s = (routine_numbering r n).0 in
    let same = routine-same r n in
    let formed : routine_is_formed s ≡ routine_is_formed r =
    sym (routine-formed s) ∙ ap routine_is_formed same ∙ routine-formed r in
    let paired : routine_is_paired s ≡ routine_is_paired r =
    sym (routine-paired s) ∙ ap routine_is_paired same ∙ routine-paired r in
    let levels : routine_depth s ≡ routine_depth r =
    sym (routine-levels s) ∙ ap routine_depth same ∙ routine-levels r in
    ap (λ b. b && routine_is_paired s && leb (routine_depth s) LEVELS) formed
    ∙ ap (λ b. routine_is_formed r && b && leb (routine_depth s) LEVELS) paired
    ∙ ap (λ m. routine_is_formed r && routine_is_paired r && leb m LEVELS) levels
