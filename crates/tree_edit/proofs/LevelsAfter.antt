-- How many levels a block takes with a statement in the place at a path: as many as before, or as many as the places
-- of the path and the statement's own.
use Rattle.std.specs.Prelude.{◌≡◌, ℕ, zero, suc, ◌+◌, ◌-◌, ◌≤◌, ◌==◌, nat_lt, max, Bool, true, false, cond, List, [], ◌∷◌, length, Option, Some, None, map, option_map}
use Rattle.std.proofs.Common.{sym, ap, ◌∙◌, arith}
use Rattle.dice_base.specs.declared.name.Name.{Name}
use Rattle.pascal_tree.specs.declared.stmt.Stmt.{Stmt, out-Stmt, roll-out-Stmt}
use Rattle.pascal_tree.specs.declared.stmt.StmtKind.{StmtKind, StmtKind-F, out-StmtKind, roll-StmtKind, roll-out-StmtKind}
use Rattle.pascal_tree.specs.declared.stmt.StmtKind.TheVariants.{rolls-Empty, rolls-Assign, rolls-Call, rolls-Goto, rolls-Compound, rolls-If, rolls-Case, rolls-While, rolls-Repeat, rolls-For, rolls-With}
use Rattle.pascal_tree.specs.declared.stmt.Arm.{Arm, out-Arm, roll-out-Arm}
use Rattle.pascal_tree.specs.declared.decl.Heading.{Heading}
use Rattle.pascal_tree.specs.declared.decl.Block.{Block, out-Block, roll-out-Block}
use Rattle.pascal_tree.specs.declared.decl.Routine.{Routine, out-Routine, roll-Routine, roll-out-Routine}
use Rattle.pascal_tree.specs.Depth.{most, depth_if_any, kind_depth, arm_depth, stmt_depth, decls_depth, block_depth, routine_depth}
use Rattle.tree_edit.specs.Place.{change, change_if, change_any, change_in_arm, change_in_kind, change_in_stmt, put_at, declared, with_routines, with_body, after_decls, change_in_routine, put_in_block}
use Rattle.tree_laws.proofs.StmtLayers.{KindLayer, kind_levels, kind-depth, arm-depth, stmt-depth}
use Rattle.tree_laws.proofs.BlockLayers.{block-depth, routine-depth}

-- ---- what is changed in one place, to at most so many levels or as many as it had

module _ {A : Type 0} (depth : A → ℕ) (f : A → A) (m : ℕ) (bound : (a : A) → depth (f a) ≤ max (depth a) m) where
  change-most : (i : ℕ) (xs : List A) → most (map depth (change f i xs)) ≤ max (most (map depth xs)) m
  change-most i [] = omega arith
  change-most zero (x ∷ xs) = omega (arith, bound x)
  change-most (suc i) (x ∷ xs) = omega (arith, change-most i xs)

  change_if-depth : (i j : ℕ) (x : A) → depth (change_if f i j x) ≤ max (depth x) m
  change_if-depth i j x = go (i == j) where
    go : (b : Bool) → depth (cond b (f x) x) ≤ max (depth x) m
    go true = bound x
    go false = omega arith

  change_any-depth : (i j : ℕ) (o : Option A)
      → depth_if_any (option_map depth (change_any f i j o)) ≤ max (depth_if_any (option_map depth o)) m
  change_any-depth i j None = omega arith
  change_any-depth i j (Some x) = change_if-depth i j x

-- ---- statements

module _ (f : Stmt → Stmt) (m : ℕ) (bound : (x : Stmt) → stmt_depth (f x) ≤ max (stmt_depth x) m) where
  arm-bound : (a : Arm) → arm_depth (change_in_arm f a) ≤ max (arm_depth a) m
  arm-bound a =
      let x = out-Arm a in
      let old : arm_depth a ≡ stmt_depth x.body = ap arm_depth (sym (roll-out-Arm a)) ∙ arm-depth x in
      omega (arith, arm-depth (record { constants = x.constants; body = f x.body }), old, bound x.body)

  rolled : (x : KindLayer) {k : StmtKind} → roll-StmtKind x ≡ k → kind_depth k ≡ kind_levels x
  rolled x is = ap kind_depth (sym is) ∙ kind-depth x

  kind-bound : (i : ℕ) (x : KindLayer) → kind_depth (change_in_kind f i x) ≤ max (kind_levels x) (m + 1)
  kind-bound i StmtKind-F.Empty = omega (arith, rolled StmtKind-F.Empty rolls-Empty)
  kind-bound i (StmtKind-F.Assign a x) = omega (arith, rolled (StmtKind-F.Assign a x) (rolls-Assign a x))
  kind-bound i (StmtKind-F.Call x args) = omega (arith, rolled (StmtKind-F.Call x args) (rolls-Call x args))
  kind-bound i (StmtKind-F.Goto n) = omega (arith, rolled (StmtKind-F.Goto n) (rolls-Goto n))
  kind-bound i (StmtKind-F.Compound xs) =
      omega (
        arith,
        rolled (StmtKind-F.Compound (change f i xs))
            (rolls-Compound _),
        change-most stmt_depth f m bound i xs,
      )
  kind-bound i (StmtKind-F.If c a None) =
      omega (
        arith,
        rolled (StmtKind-F.If c (change_if f i 0 a) None)
            (rolls-If _ _ _),
        change_if-depth stmt_depth f m bound i 0 a,
      )
  kind-bound i (StmtKind-F.If c a (Some b)) =
      omega (
        arith,
        rolled (StmtKind-F.If c (change_if f i 0 a) (Some (change_if f i 1 b)))
            (rolls-If _ _ _),
        change_if-depth stmt_depth f m bound i 0 a,
        change_if-depth stmt_depth f m bound i 1 b,
      )
  kind-bound i (StmtKind-F.Case c arms) =
      omega (
        arith,
        rolled (StmtKind-F.Case c (change (change_in_arm f) i arms))
            (rolls-Case _ _),
        change-most arm_depth (change_in_arm f) m arm-bound i arms,
      )
  kind-bound i (StmtKind-F.While c x) =
      omega (
        arith,
        rolled (StmtKind-F.While c (change_if f i 0 x))
            (rolls-While _ _),
        change_if-depth stmt_depth f m bound i 0 x,
      )
  kind-bound i (StmtKind-F.Repeat xs c) =
      omega (
        arith,
        rolled (StmtKind-F.Repeat (change f i xs) c)
            (rolls-Repeat _ _),
        change-most stmt_depth f m bound i xs,
      )
  kind-bound i (StmtKind-F.For x first down last y) =
      omega (
        arith,
        rolled (StmtKind-F.For x first down last (change_if f i 0 y))
            (rolls-For _ _ _ _ _),
        change_if-depth stmt_depth f m bound i 0 y,
      )
  kind-bound i (StmtKind-F.With records x) =
      omega (
        arith,
        rolled (StmtKind-F.With records (change_if f i 0 x))
            (rolls-With _ _),
        change_if-depth stmt_depth f m bound i 0 x,
      )

  stmt-bound : (i : ℕ) (x : Stmt) → stmt_depth (change_in_stmt f i x) ≤ max (stmt_depth x) (m + 1)
  stmt-bound i x =
      let y = out-Stmt x in
      let k = out-StmtKind y.kind in
      let old : stmt_depth x ≡ kind_levels k =
      ap stmt_depth (sym (roll-out-Stmt x)) ∙ stmt-depth y ∙ rolled k (roll-out-StmtKind y.kind) in
      omega (arith, stmt-depth (record y { kind = change_in_kind f i k }), old, kind-bound i k)

pub put-levels : (path : List ℕ) (new old : Stmt)
    → stmt_depth (put_at path new old) ≤ max (stmt_depth old) (length path + stmt_depth new)
put-levels [] new old = omega arith
put-levels (i ∷ path) new old =
    let r = stmt-bound (put_at path new) (length path + stmt_depth new) (put-levels path new) i old in
    omega (arith, r)

-- ---- blocks and routines

routine-is : (name : Name) (h : Heading) (o : Option Block)
    → routine_depth (roll-Routine (record { name = name; heading = h; block = o })) ≡ max 1
    (depth_if_any (option_map block_depth o))
routine-is name h None = routine-depth (record { name = name; heading = h; block = None })
routine-is name h (Some b) = routine-depth (record { name = name; heading = h; block = Some b })

module _ (f : Block → Block) (m : ℕ) (bound : (b : Block) → block_depth (f b) ≤ max (block_depth b) m) where
  any-bound : (o : Option Block)
      → depth_if_any (option_map block_depth (option_map f o)) ≤ max (depth_if_any (option_map block_depth o)) m
  any-bound None = omega arith
  any-bound (Some b) = bound b

  routine-bound : (r : Routine) → routine_depth (change_in_routine f r) ≤ max (routine_depth r) m
  routine-bound r =
      let x = out-Routine r in
      let old : routine_depth r ≡ max 1 (depth_if_any (option_map block_depth x.block)) =
      ap routine_depth (sym (roll-out-Routine r)) ∙ routine-is x.name x.heading x.block in
      omega (arith, routine-is x.name x.heading (option_map f x.block), old, any-bound x.block)

abbrev types_depth : Block → ℕ
types_depth b = max (decls_depth (out-Block b).types) (decls_depth (out-Block b).vars)

block-is : (b : Block)
    → block_depth b ≡ max (types_depth b)
    (max (most (map routine_depth (out-Block b).routines)) (stmt_depth (out-Block b).body) + 1)
block-is b = ap block_depth (sym (roll-out-Block b)) ∙ block-depth (out-Block b)

routines-is : (b : Block) (rs : List Routine)
    → block_depth (with_routines b rs) ≡ max (types_depth b)
    (max (most (map routine_depth rs)) (stmt_depth (out-Block b).body) + 1)
routines-is b rs = block-depth (record (out-Block b) { routines = rs })

body-is : (b : Block) (x : Stmt)
    → block_depth (with_body b x) ≡ max (types_depth b)
    (max (most (map routine_depth (out-Block b).routines)) (stmt_depth x) + 1)
body-is b x = block-depth (record (out-Block b) { body = x })

after-bound : (f : Stmt → Stmt) (g : Routine → Routine) (m j : ℕ) (b : Block)
    → ((x : Stmt) → stmt_depth (f x) ≤ max (stmt_depth x) m)
    → ((r : Routine) → routine_depth (g r) ≤ max (routine_depth r) m)
    → block_depth (after_decls f g j b) ≤ max (block_depth b) (m + 1)
after-bound f g m j b stmts routines = go (nat_lt j (length (out-Block b).routines)) where
  go : (t : Bool)
      → block_depth
      (cond t (with_routines b (change g j (out-Block b).routines))
      (with_body b (change_if f j (length (out-Block b).routines) (out-Block b).body))) ≤ max (block_depth b)
      (m + 1)
  go true =
      omega (
        arith,
        block-is b,
        routines-is b
            (change g j (out-Block b).routines),
        change-most routine_depth g m routines j (out-Block b).routines,
      )
  go false =
      omega (
        arith,
        block-is b,
        body-is b
            (change_if f j (length (out-Block b).routines) (out-Block b).body),
        change_if-depth stmt_depth f m stmts j
            (length (out-Block b).routines) (out-Block b).body,
      )

-- the block of the program is at level 1, and each item on a path is one level below the one before
pub put_block-levels : (path : List ℕ) (new : Stmt) (b : Block)
    → block_depth (put_in_block path new b) ≤ max (block_depth b) (length path + stmt_depth new)
put_block-levels [] new b = omega arith
put_block-levels (i ∷ path) new b = go (put_block-levels path new) (nat_lt i (declared b)) where
  go : ((c : Block) → block_depth (put_in_block path new c) ≤ max (block_depth c) (length path + stmt_depth new))
      → (t : Bool)
      → block_depth
      (cond t b (after_decls (put_at path new) (change_in_routine (put_in_block path new)) (i - declared b) b)) ≤
      max (block_depth b) (length (i ∷ path) + stmt_depth new)
  go inner true = omega arith
  go inner false =
      let r =
      after-bound (put_at path new) (change_in_routine (put_in_block path new)) (length path + stmt_depth new)
      (i - declared b) b
      (put-levels path new) (routine-bound (put_in_block path new) (length path + stmt_depth new) inner) in
      omega (arith, r)
