-- The names of a numbered program are numbers in turn.
use Rattle.std.proofs.Common.{◌≡◌, ℕ, ◌+◌, List, [], ◌∷◌, ◌++◌, Option, Some, None, map, refl, ap, subst}
use Rattle.dice_base.specs.declared.name.Name.{Name}
use Rattle.pascal_tree.specs.declared.decl.Heading.{Heading}
use Rattle.pascal_tree.specs.declared.decl.Decl.{Decl}
use Rattle.pascal_tree.specs.declared.decl.Block.{Block, Block-F, roll-Block}
use Rattle.pascal_tree.specs.declared.decl.Routine.{Routine, Routine-F, roll-Routine}
use Rattle.pascal_tree.specs.declared.decl.Block.TheFolds.{map-Block, map-Routine, fold-roll-Block, fold-roll-Routine, ind-Block}
use Rattle.pascal_tree.specs.declared.program.Tree.{Tree}
use Rattle.pascal_tree.specs.Naming.{Numbering, list_numbering, block_in_turn, routine_in_turn, block_numbering, routine_numbering, stmt_numbering, decls_numbering, labels_numbering, numbered_program}
use Rattle.pascal_tree.specs.Names.{Counts, label_names, decl_names, of_block, of_routine, block_names, routine_names, program_names}
use Rattle.tree_names.proofs.StmtNames.{Proper, counts_append, counts_turn, proper_stmt}

numbered_block : (x : Block-F Block Routine) (n : ℕ) → block_numbering (roll-Block x) n ≡ block_in_turn (map-Block Block Routine (Numbering Block) (Numbering Routine) block_numbering routine_numbering x) n
unfolding block_numbering routine_numbering
numbered_block x n = ap (λ (f : Numbering Block). f n) (fold-roll-Block (Numbering Block) (Numbering Routine) block_in_turn routine_in_turn x)

numbered_routine : (x : Routine-F Block Routine) (n : ℕ) → routine_numbering (roll-Routine x) n ≡ routine_in_turn (map-Routine Block Routine (Numbering Block) (Numbering Routine) block_numbering routine_numbering x) n
unfolding block_numbering routine_numbering
numbered_routine x n = ap (λ (f : Numbering Routine). f n) (fold-roll-Routine (Numbering Block) (Numbering Routine) block_in_turn routine_in_turn x)

names_block : (x : Block-F Block Routine) → block_names (roll-Block x) ≡ of_block (map-Block Block Routine (List ℕ) (List ℕ) block_names routine_names x)
unfolding block_names routine_names
names_block x = fold-roll-Block (List ℕ) (List ℕ) of_block of_routine x

names_routine : (x : Routine-F Block Routine) → routine_names (roll-Routine x) ≡ of_routine (map-Routine Block Routine (List ℕ) (List ℕ) block_names routine_names x)
unfolding block_names routine_names
names_routine x = fold-roll-Routine (List ℕ) (List ℕ) of_block of_routine x

counts_labels : (d : Option Decl) (n : ℕ) → Counts n (label_names (labels_numbering d n).0) (labels_numbering d n).1
counts_labels None n = refl
counts_labels (Some d) n = (refl, refl)

counts_decls : (ds : List Decl) (n : ℕ) → Counts n (decl_names (decls_numbering ds n).0) (decls_numbering ds n).1
counts_decls [] n = refl
counts_decls (d ∷ ds) n = (refl, counts_decls ds (n + 1))

abbrev ProperBlock : Block → Type 0
ProperBlock b = Proper block_names (block_numbering b)

abbrev ProperRoutine : Routine → Type 0
ProperRoutine r = Proper routine_names (routine_numbering r)

abbrev Blocks : Type 0
Blocks = (b : Block) × ProperBlock b

abbrev Routines : Type 0
Routines = (r : Routine) × ProperRoutine r

-- the parts of a block, one after another
counts_parts : (n1 n2 n3 n4 n5 n6 n7 : ℕ) (labels consts types vars routines body : List ℕ)
    → Counts n1 labels n2 → Counts n2 consts n3 → Counts n3 types n4 → Counts n4 vars n5 → Counts n5 routines n6 → Counts n6 body n7
    → Counts n1 (labels ++ (consts ++ (types ++ (vars ++ (routines ++ body))))) n7
counts_parts n1 n2 n3 n4 n5 n6 n7 labels consts types vars routines body p1 p2 p3 p4 p5 p6 =
    counts_append n1 n2 n7 labels _ p1 (counts_append n2 n3 n7 consts _ p2 (counts_append n3 n4 n7 types _ p3 (counts_append n4 n5 n7 vars _ p4 (counts_append n5 n6 n7 routines body p5 p6))))

block_step : (y : Block-F Blocks Routines) → ProperBlock (roll-Block (map-Block Blocks Routines Block Routine (λ e. e.0) (λ e. e.0) y))
block_step y n =
    let first = (labels_numbering y.labels n).1 in
    let consts = decls_numbering y.consts first in
    let types = decls_numbering y.types consts.1 in
    let vars = decls_numbering y.vars types.1 in
    let routines = list_numbering (map routine_numbering (map (λ e. e.0) y.routines)) vars.1 in
    rw (numbered_block (map-Block Blocks Routines Block Routine (λ e. e.0) (λ e. e.0) y) n, names_block)
    (counts_parts n first consts.1 types.1 vars.1 routines.1 (stmt_numbering y.body routines.1).1 _ _ _ _ _ _
    (counts_labels y.labels n)
    (counts_decls y.consts first)
    (counts_decls y.types consts.1)
    (counts_decls y.vars types.1)
    (counts_turn routine_names routine_numbering y.routines vars.1)
    (proper_stmt y.body routines.1))

abbrev routine_of : Name → Heading → Option Blocks → Routine-F Block Routine
routine_of name heading b = map-Routine Blocks Routines Block Routine (λ e. e.0) (λ e. e.0) (record { name = name; heading = heading; block = b })

routine_step : (name : Name) (heading : Heading) (b : Option Blocks) → ProperRoutine (roll-Routine (routine_of name heading b))
routine_step name heading None n = rw (numbered_routine (routine_of name heading None) n, names_routine) (refl, refl)
routine_step name heading (Some b) n = rw (numbered_routine (routine_of name heading (Some b)) n, names_routine) (refl, b.1 (n + 1))

pub proper_block : (b : Block) → ProperBlock b
proper_block = ind-Block ProperBlock ProperRoutine
    (λ x y is. subst (λ z. ProperBlock (roll-Block z)) is (block_step y))
    (λ x y is. subst (λ z. ProperRoutine (roll-Routine z)) is (routine_step y.name y.heading y.block))

pub numbered_names : (p : Tree) → Counts 1 (program_names (numbered_program p)) (numbered_program p).next
numbered_names p = (refl, proper_block p.block 2)
