-- A statement in the place at a path. A path leads from an item to one inside it: at each step it says which part to enter,
-- counted from 0 in the order of the text. A path that leads nowhere changes nothing. Declarations, routines and the body of a
-- block come in the order of ISO 7185:1990, 6.2.1.
use Rattle.std.specs.Prelude.{ℕ, zero, suc, ◌+◌, ◌-◌, ◌==◌, nat_lt, Bool, true, false, if◌then◌else◌, List, [], ◌∷◌, length, slice_get, Option, Some, None, option_map}
use Rattle.pascal_tree.specs.declared.stmt.Stmt.{Stmt, out-Stmt, roll-Stmt}
use Rattle.pascal_tree.specs.declared.stmt.StmtKind.{StmtKind, StmtKind-F, out-StmtKind}
use Rattle.pascal_tree.specs.declared.stmt.Arm.{Arm, out-Arm, roll-Arm}
use Rattle.pascal_tree.specs.declared.stmt.StmtKind.TheVariants as s
use Rattle.pascal_tree.specs.declared.decl.Decl.{Decl}
use Rattle.pascal_tree.specs.declared.decl.Block.{Block, out-Block, roll-Block}
use Rattle.pascal_tree.specs.declared.decl.Routine.{Routine, out-Routine, roll-Routine}

-- the list with f of the element at this place
abbrev pub change : {A : Type 0} → (A → A) → ℕ → List A → List A
change f i [] = []
change f zero (x ∷ xs) = f x ∷ xs
change f (suc i) (x ∷ xs) = x ∷ change f i xs

-- f of the only part of its kind, which has the place j, if the path enters it: its first place is i
abbrev pub change_if : {A : Type 0} → (A → A) → ℕ → ℕ → A → A
change_if f i j x = if i == j then f x else x

-- the same of a part that may be missing, as the second branch of an `if`
abbrev pub change_any : {A : Type 0} → (A → A) → ℕ → ℕ → Option A → Option A
change_any f i j None = None
change_any f i j (Some x) = Some (change_if f i j x)

-- ---- statements

-- an arm with f of its statement
abbrev pub change_in_arm : (Stmt → Stmt) → Arm → Arm
change_in_arm f arm = roll-Arm (record { constants = (out-Arm arm).constants; body = f (out-Arm arm).body })

-- a kind of statement with f of the part at place i
abbrev pub change_in_kind : (Stmt → Stmt) → ℕ → StmtKind-F StmtKind Arm Stmt → StmtKind
change_in_kind f i StmtKind-F.Empty = s.Empty
change_in_kind f i (StmtKind-F.Assign access value) = s.Assign access value
change_in_kind f i (StmtKind-F.Call x args) = s.Call x args
change_in_kind f i (StmtKind-F.Goto label) = s.Goto label
change_in_kind f i (StmtKind-F.Compound stmts) = s.Compound (change f i stmts)
change_in_kind f i (StmtKind-F.If test first second) = s.If test (change_if f i 0 first) (change_any f i 1 second)
change_in_kind f i (StmtKind-F.Case selector arms) = s.Case selector (change (change_in_arm f) i arms)
change_in_kind f i (StmtKind-F.While test body) = s.While test (change_if f i 0 body)
change_in_kind f i (StmtKind-F.Repeat stmts test) = s.Repeat (change f i stmts) test
change_in_kind f i (StmtKind-F.For x first down last body) = s.For x first down last (change_if f i 0 body)
change_in_kind f i (StmtKind-F.With records body) = s.With records (change_if f i 0 body)

-- a statement with f of the part at place i
abbrev pub change_in_stmt : (Stmt → Stmt) → ℕ → Stmt → Stmt
change_in_stmt f i x = roll-Stmt (record { name = (out-Stmt x).name; label = (out-Stmt x).label; kind = change_in_kind f i (out-StmtKind (out-Stmt x).kind) })

-- the old statement with the new one at a path from it; at the empty path the new one alone
abbrev pub put_at : List ℕ → Stmt → Stmt → Stmt
put_at [] new old = new
put_at (i ∷ path) new old = change_in_stmt (put_at path new) i old

-- ---- blocks and routines

-- the labels of a block are one declaration, or none
abbrev pub label_count : Option Decl → ℕ
label_count None = 0
label_count (Some d) = 1

-- how many declarations a block has: they come before its routines, and the body comes last
abbrev pub declared : Block → ℕ
declared b = label_count (out-Block b).labels + (length (out-Block b).consts + (length (out-Block b).types + length (out-Block b).vars))

-- a block with other routines
abbrev pub with_routines : Block → List Routine → Block
with_routines b routines =
    roll-Block (record { labels = (out-Block b).labels; consts = (out-Block b).consts; types = (out-Block b).types; vars = (out-Block b).vars; routines = routines; body = (out-Block b).body })

-- a block with another body
abbrev pub with_body : Block → Stmt → Block
with_body b body =
    roll-Block (record { labels = (out-Block b).labels; consts = (out-Block b).consts; types = (out-Block b).types; vars = (out-Block b).vars; routines = (out-Block b).routines; body = body })

-- a block with g of the routine, or f of the body, that comes at place j after its declarations
abbrev pub after_decls : (Stmt → Stmt) → (Routine → Routine) → ℕ → Block → Block
after_decls f g j b =
    if nat_lt j (length (out-Block b).routines) then with_routines b (change g j (out-Block b).routines) else with_body b (change_if f j (length (out-Block b).routines) (out-Block b).body)

-- a block with the part at place i changed, which is no declaration
abbrev pub change_in_block : (Stmt → Stmt) → (Routine → Routine) → ℕ → Block → Block
change_in_block f g i b = if nat_lt i (declared b) then b else after_decls f g (i - declared b) b

-- a routine with f of its block, if it has one
abbrev pub change_in_routine : (Block → Block) → Routine → Routine
change_in_routine f r = roll-Routine (record { name = (out-Routine r).name; heading = (out-Routine r).heading; block = option_map f (out-Routine r).block })

-- the block with the new statement at a path from the program or the routine whose block it is
abbrev pub put_in_block : List ℕ → Stmt → Block → Block
put_in_block [] new b = b
put_in_block (i ∷ path) new b = change_in_block (put_at path new) (change_in_routine (put_in_block path new)) i b

-- ---- whether a path leads to the body of a block

-- a path that ends
abbrev pub is_here : List ℕ → Bool
is_here [] = true
is_here (i ∷ path) = false

-- what is asked of the block of a routine; a forward heading has none
abbrev pub leads_in_any : (Block → Bool) → Option Block → Bool
leads_in_any f None = false
leads_in_any f (Some b) = f b

-- what is asked of the block of the routine at a place
abbrev pub leads_in : (Block → Bool) → Option Routine → Bool
leads_in f None = false
leads_in f (Some r) = leads_in_any f (out-Routine r).block

-- through routines alone, and last to the body of a block
abbrev pub leads_to_body : List ℕ → Block → Bool
leads_to_body [] b = false
leads_to_body (i ∷ path) b =
    if nat_lt i (declared b) then false
    else (if nat_lt (i - declared b) (length (out-Block b).routines) then leads_in (leads_to_body path) (slice_get (out-Block b).routines (i - declared b)) else is_here path)
