-- The search of a tree finds the path of the first row with the name.
use Rattle.std.proofs.Common.{◌≡◌, ℕ, ◌+◌, List, [], ◌∷◌, ◌++◌, Option, Some, None, Bool, true, false, map, nat_eq, option_map, option_to_list, refl, sym, ap, ◌∙◌, append-nil, append_assoc}
use Rattle.std.specs.Option.{option_or}
use Rattle.std.specs.List.{AllByRecursion}
use Rattle.std.proofs.lemmas.List.{map-append}
use Rattle.pascal_tree.specs.declared.stmt.Stmt.{Stmt, out-Stmt}
use Rattle.pascal_tree.specs.declared.stmt.StmtKind.{StmtKind, StmtKind-F, out-StmtKind}
use Rattle.pascal_tree.specs.declared.stmt.Arm.{Arm}
use Rattle.pascal_tree.specs.declared.stmt.StmtKind.TheFolds.{map-StmtKind, fold_out-StmtKind, fold_out-Arm, fold_out-Stmt}
use Rattle.dice_base.specs.declared.name.Name.{Name}
use Rattle.pascal_tree.specs.declared.decl.Heading.{Heading}
use Rattle.pascal_tree.specs.declared.decl.Block.{Block, out-Block}
use Rattle.pascal_tree.specs.declared.decl.Routine.{Routine, Routine-F, out-Routine}
use Rattle.pascal_tree.specs.declared.decl.Block.TheFolds.{map-Routine, fold_out-Block, fold_out-Routine}
use Rattle.pascal_tree.specs.declared.program.Tree.{Tree}
use Rattle.pascal_tree.specs.Paths.{ItemValue, OfProgram, OfDecl, OfRoutine, OfStmt, kind_parts, arm_body, stmt_children, block_children, any_children, item_children, item_name}
use Rattle.pascal_tree.specs.Rows.{Row, rows_from}
use Rattle.program_tree.specs.declared.index.Entry.{Entry}
use Rattle.program_tree.specs.Entries.{entry_of, entries_of, path_in}
use Rattle.program_tree.specs.Search.{Search, path_from_item, path_among, path_in_kind, path_in_arm, path_in_stmt, path_in_block, path_in_any, path_in_routine, stmt_path, kind_path, arm_path, decl_path, block_path, routine_path, path_of}
use Rattle.program_tree.proofs.Induction.{tree_has}
use Rattle.program_tree.proofs.Opened.{item_rows, own_row, item_opened, stmts_mapped, block_mapped}

-- ---- the search of an item goes through its parts

arm_path-is : (a : Arm) → arm_path a ≡ stmt_path (arm_body a)
unfolding stmt_path kind_path arm_path
arm_path-is a = fold_out-Arm Search Search Search path_in_kind path_in_arm path_in_stmt a

-- a layer with the searches of its parts
abbrev layer : StmtKind-F StmtKind Arm Stmt → StmtKind-F Search Search Search
layer = map-StmtKind StmtKind Arm Stmt Search Search Search kind_path arm_path stmt_path

kind_path-is : (k : StmtKind) → kind_path k ≡ path_in_kind (layer (out-StmtKind k))
unfolding stmt_path kind_path arm_path
kind_path-is k = fold_out-StmtKind Search Search Search path_in_kind path_in_arm path_in_stmt k

stmt_path-is : (s : Stmt) → stmt_path s ≡ path_from_item (out-Stmt s).name.0 (kind_path (out-Stmt s).kind)
unfolding stmt_path kind_path arm_path
stmt_path-is s = fold_out-Stmt Search Search Search path_in_kind path_in_arm path_in_stmt s

arm_parts : (arms : List Arm) → map (λ (a : Search). a) (map arm_path arms) ≡ map stmt_path (map arm_body arms)
arm_parts [] = refl
arm_parts (a ∷ arms) = rw (arm_path-is a, arm_parts arms) refl

parts_layer : (x : StmtKind-F StmtKind Arm Stmt) → kind_parts (λ a. a) (layer x) ≡ map stmt_path (kind_parts arm_body x)
parts_layer StmtKind-F.Empty = refl
parts_layer (StmtKind-F.Assign a e) = refl
parts_layer (StmtKind-F.Call f args) = refl
parts_layer (StmtKind-F.Goto label) = refl
parts_layer (StmtKind-F.Compound stmts) = refl
parts_layer (StmtKind-F.If e first None) = refl
parts_layer (StmtKind-F.If e first (Some second)) = refl
parts_layer (StmtKind-F.Case e arms) = arm_parts arms
parts_layer (StmtKind-F.While e body) = refl
parts_layer (StmtKind-F.Repeat stmts e) = refl
parts_layer (StmtKind-F.For v first down last body) = refl
parts_layer (StmtKind-F.With records body) = refl

abbrev item_path : ItemValue → Search
item_path (OfProgram p) = λ n. path_of n p
item_path (OfDecl d) = decl_path d
item_path (OfRoutine r) = routine_path r
item_path (OfStmt s) = stmt_path s

-- the search of the item itself, and then of its parts
abbrev opened_path : ItemValue → Search
opened_path x = path_from_item (item_name x) (path_among 0 (map item_path (item_children x)))

stmt_opened : (s : Stmt) → stmt_path s ≡ opened_path (OfStmt s)
stmt_opened s =
    stmt_path-is s
    ∙ ap (λ (f : Search). path_from_item (out-Stmt s).name.0 f) (kind_path-is (out-Stmt s).kind ∙ ap (λ (ps : List Search). path_among 0 ps) (parts_layer (out-StmtKind (out-Stmt s).kind) ∙ sym (stmts_mapped item_path (stmt_children s))))

block_path-is : (b : Block) → block_path b ≡ path_among 0 (map item_path (block_children b))
unfolding block_path routine_path
block_path-is b = fold_out-Block Search Search path_in_block path_in_routine b ∙ ap (λ (ps : List Search). path_among 0 ps) (sym (block_mapped item_path b))

-- a routine with the search of its block
abbrev routine_layer : Routine-F Block Routine → Routine-F Search Search
routine_layer = map-Routine Block Routine Search Search block_path routine_path

routine_path-is : (r : Routine) → routine_path r ≡ path_in_routine (routine_layer (out-Routine r))
unfolding block_path routine_path
routine_path-is r = fold_out-Routine Search Search path_in_block path_in_routine r

any_opened : (name : Name) (heading : Heading) (b : Option Block) (n : ℕ) → path_in_any (routine_layer (record { name = name; heading = heading; block = b })).block n ≡ path_among 0 (map item_path (any_children b)) n
any_opened name heading None n = refl
any_opened name heading (Some b) n = ap (λ (f : Search). f n) (block_path-is b)

inside_same : (name : ℕ) (f g : Search) (n : ℕ) → f n ≡ g n → path_from_item name f n ≡ path_from_item name g n
inside_same name f g n e = rw e refl

path_opened : (x : ItemValue) (n : ℕ) → item_path x n ≡ opened_path x n
path_opened (OfProgram p) n = inside_same 1 (block_path p.block) (path_among 0 (map item_path (block_children p.block))) n (ap (λ (f : Search). f n) (block_path-is p.block))
path_opened (OfDecl d) n = refl
path_opened (OfRoutine r) n =
    ap (λ (f : Search). f n) (routine_path-is r)
    ∙ inside_same (out-Routine r).name.0 (path_in_any (routine_layer (out-Routine r)).block) (path_among 0 (map item_path (any_children (out-Routine r).block))) n
    (any_opened (out-Routine r).name (out-Routine r).heading (out-Routine r).block n)
path_opened (OfStmt s) n = ap (λ (f : Search). f n) (stmt_opened s)

-- ---- entries

pub path_in_first : (n : ℕ) (e : Entry) (es : List Entry) → nat_eq e.name.0 n ≡ true → path_in n (e ∷ es) ≡ Some e.path
path_in_first n e es h = rw h refl

pub path_in_later : (n : ℕ) (e : Entry) (es : List Entry) → nat_eq e.name.0 n ≡ false → path_in n (e ∷ es) ≡ path_in n es
path_in_later n e es h = rw h refl

pub path_in_append : (n : ℕ) (es fs : List Entry) → path_in n (es ++ fs) ≡ option_or (path_in n es) (path_in n fs)
path_in_append n [] fs = refl
path_in_append n (e ∷ es) fs = go (nat_eq e.name.0 n) refl (path_in_append n es fs)
  where
    go : (b : Bool) → nat_eq e.name.0 n ≡ b → path_in n (es ++ fs) ≡ option_or (path_in n es) (path_in n fs) → path_in n (e ∷ (es ++ fs)) ≡ option_or (path_in n (e ∷ es)) (path_in n fs)
    go true h rest = rw h refl
    go false h rest = rw h rest

-- ---- both find the same

abbrev from_path : List ℕ → Option (List ℕ) → Option (List ℕ)
from_path at found = option_map (λ path. at ++ path) found

from_part : (i : ℕ) (at : List ℕ) (first later : Option (List ℕ)) → option_or (from_path (at ++ (i ∷ [])) first) (from_path at later) ≡ from_path at (option_or (option_map (λ path. i ∷ path) first) later)
from_part i at None later = refl
from_part i at (Some path) later = ap (λ (p : List ℕ). Some p) (append_assoc at (i ∷ []) path)

-- the entries of the rows of an item that stands at a path
abbrev entries_at : ItemValue → List ℕ → List Entry
entries_at x at = map entry_of (item_rows x at)

abbrev Agrees : ItemValue → Type 0
Agrees x = (n : ℕ) (at : List ℕ) → path_in n (entries_at x at) ≡ from_path at (item_path x n)

among : (xs : List ItemValue) (i n : ℕ) (at : List ℕ) → AllByRecursion Agrees xs → path_in n (map entry_of (rows_from i (map item_rows xs) at)) ≡ from_path at (path_among i (map item_path xs) n)
among [] i n at h = refl
among (x ∷ xs) i n at h =
    (let here = at ++ (i ∷ []) in
    let rest = rows_from (i + 1) (map item_rows xs) at in
    ap (λ (es : List Entry). path_in n es) (map-append entry_of (item_rows x here) rest)
    ∙ path_in_append n (entries_at x here) (map entry_of rest)
    ∙ ap (λ (o : Option (List ℕ)). option_or o (path_in n (map entry_of rest))) (h.0 n here)
    ∙ ap (λ (o : Option (List ℕ)). option_or (from_path here (item_path x n)) o) (among xs (i + 1) n at h.1)
    ∙ from_part i at (item_path x n) (path_among (i + 1) (map item_path xs) n))

by_parts : (x : ItemValue) → AllByRecursion Agrees (item_children x) → Agrees x
by_parts x h n at =
    ap (λ (rows : List Row). path_in n (map entry_of rows)) (item_opened x at) ∙ (go (nat_eq (item_name x) n) refl ∙ ap (λ (o : Option (List ℕ)). from_path at o) (sym (path_opened x n)))
  where
    parts : List Entry
    parts = map entry_of (rows_from 0 (map item_rows (item_children x)) at)

    go : (b : Bool) → nat_eq (item_name x) n ≡ b → path_in n (entry_of (own_row x at) ∷ parts) ≡ from_path at (opened_path x n)
    go true e = rw e (ap (λ (p : List ℕ). Some p) (sym (append-nil at)))
    go false e = rw e (among (item_children x) 0 n at h)

from_nothing : (found : Option (List ℕ)) → from_path [] found ≡ found
from_nothing None = refl
from_nothing (Some path) = refl

pub path_in_entries : (n : ℕ) (t : Tree) → path_in n (entries_of t) ≡ path_of n t
path_in_entries n t = tree_has Agrees by_parts t n [] ∙ from_nothing (path_of n t)
