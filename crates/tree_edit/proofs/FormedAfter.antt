-- A formed statement in the place at a path of a formed block gives a formed block, where the body stays one.
use Rattle.std.specs.Prelude.{◌≡◌, ℕ, zero, suc, ◌-◌, ◌==◌, nat_lt, Bool, true, false, ◌&&◌, cond, List, [], ◌∷◌, length, Option, Some, None, map, option_map, slice_get, is_none}
use Rattle.std.proofs.Common.{eqb-true, refl, sym, ap, ◌∙◌}
use Rattle.pascal_tree.specs.declared.stmt.Stmt.{Stmt, out-Stmt, out-roll-Stmt, roll-out-Stmt}
use Rattle.pascal_tree.specs.declared.stmt.StmtKind.{StmtKind, StmtKind-F, out-StmtKind, roll-StmtKind, roll-out-StmtKind}
use Rattle.pascal_tree.specs.declared.stmt.StmtKind.TheVariants.{rolls-Empty, rolls-Assign, rolls-Call, rolls-Goto, rolls-Compound, rolls-If, rolls-Case, rolls-While, rolls-Repeat, rolls-For, rolls-With, outs-Compound}
use Rattle.pascal_tree.specs.declared.stmt.Arm.{Arm, out-Arm, roll-out-Arm}
use Rattle.dice_base.specs.declared.name.Name.{Name}
use Rattle.pascal_tree.specs.declared.decl.Heading.{Heading}
use Rattle.pascal_tree.specs.declared.decl.Block.{Block, out-Block, roll-out-Block}
use Rattle.pascal_tree.specs.declared.decl.Routine.{Routine, out-Routine, roll-Routine, roll-out-Routine}
use Rattle.pascal_tree.specs.FormedExprs.{all_formed, some_formed, formed_if_any}
use Rattle.pascal_tree.specs.Formed.{kind_is_formed, arm_is_formed, stmt_is_formed, is_compound, is_body, block_is_formed, routine_is_formed, formed_label, constant_is_formed, heading_is_formed, label_part_is_formed, part_is_formed, const_is_formed, typedef_is_formed, vars_are_formed}
use Rattle.tree_edit.specs.Place.{change, change_if, change_any, change_in_arm, change_in_kind, change_in_stmt, put_at, declared, with_routines, with_body, after_decls, change_in_routine, put_in_block, is_here, leads_in, leads_to_body}
use Rattle.expression_laws.proofs.Words.{and-parts, and-true}
use Rattle.tree_laws.proofs.StmtLayers.{KindLayer, StmtLayer, kind_formed, kind-formed, arm-formed, stmt-formed}
use Rattle.tree_laws.proofs.BlockLayers.{BlockLayer, block-formed, routine-formed}

abbrev some_of : {A : Type 0} → A → Option A
some_of a = Some a

-- ---- what is changed in one place

-- f of the item at this place is formed
module _ {A : Type 0} (formed : A → Bool) (f : A → A) where
  change-all : (i : ℕ) (xs : List A) → ((a : A) → slice_get xs i ≡ some_of a → formed a ≡ true → formed (f a) ≡ true)
      → all_formed (map formed xs) ≡ true → all_formed (map formed (change f i xs)) ≡ true
  change-all i [] keeps e = refl
  change-all zero (x ∷ xs) keeps e = let (p, q) = and-parts _ _ e in and-true _ _ (keeps x refl p) q
  change-all (suc i) (x ∷ xs) keeps e = let (p, q) = and-parts _ _ e in and-true _ _ p (change-all i xs keeps q)

  change-some : (i : ℕ) (xs : List A) → ((a : A) → formed a ≡ true → formed (f a) ≡ true)
      → some_formed (map formed xs) ≡ true → some_formed (map formed (change f i xs)) ≡ true
  change-some i [] keeps e = absurd cc
  change-some zero (x ∷ xs) keeps e = change-all zero (x ∷ xs) (λ a at. keeps a) e
  change-some (suc i) (x ∷ xs) keeps e = change-all (suc i) (x ∷ xs) (λ a at. keeps a) e

  change_if-formed : (i j : ℕ) (x : A) → (i ≡ j → formed x ≡ true → formed (f x) ≡ true) → formed x ≡ true
      → formed (change_if f i j x) ≡ true
  change_if-formed i j x keeps e = go (i == j) refl where
    go : (b : Bool) → (i == j) ≡ b → formed (cond b (f x) x) ≡ true
    go true is = keeps (eqb-true i j is) e
    go false is = e

-- ---- statements

module _ (f : Stmt → Stmt) (keeps : (x : Stmt) → stmt_is_formed x ≡ true → stmt_is_formed (f x) ≡ true) where
  arm-changed : (a : Arm) → arm_is_formed a ≡ true → arm_is_formed (change_in_arm f a) ≡ true
  arm-changed a e =
      let x = out-Arm a in
      let old : (some_formed (map constant_is_formed x.constants) && stmt_is_formed x.body) ≡ true =
      sym (arm-formed x) ∙ ap arm_is_formed (roll-out-Arm a) ∙ e in
      let (p, q) = and-parts _ _ old in
      arm-formed (record { constants = x.constants; body = f x.body }) ∙ and-true _ _ p (keeps x.body q)

  rolled : (x : KindLayer) {k : StmtKind} → roll-StmtKind x ≡ k → kind_formed x ≡ true → kind_is_formed k ≡ true
  rolled x is e = ap kind_is_formed (sym is) ∙ kind-formed x ∙ e

  any-changed : (i j : ℕ) (o : Option Stmt) → formed_if_any (option_map stmt_is_formed o) ≡ true
      → formed_if_any (option_map stmt_is_formed (change_any f i j o)) ≡ true
  any-changed i j None e = refl
  any-changed i j (Some x) e = change_if-formed stmt_is_formed f i j x (λ at. keeps x) e

  kind-changed : (i : ℕ) (x : KindLayer) → kind_formed x ≡ true → kind_is_formed (change_in_kind f i x) ≡ true
  kind-changed i StmtKind-F.Empty e = rolled StmtKind-F.Empty rolls-Empty refl
  kind-changed i (StmtKind-F.Assign a x) e = rolled (StmtKind-F.Assign a x) (rolls-Assign a x) e
  kind-changed i (StmtKind-F.Call x args) e = rolled (StmtKind-F.Call x args) (rolls-Call x args) e
  kind-changed i (StmtKind-F.Goto n) e = rolled (StmtKind-F.Goto n) (rolls-Goto n) e
  kind-changed i (StmtKind-F.Compound xs) e =
      rolled (StmtKind-F.Compound (change f i xs)) (rolls-Compound _) (change-some stmt_is_formed f i xs keeps e)
  kind-changed i (StmtKind-F.If c a None) e =
      let (p, q) = and-parts _ _ e in
      let (t, u) = and-parts _ _ p in
      rolled (StmtKind-F.If c (change_if f i 0 a) None) (rolls-If _ _ _)
      (and-true _ _ (and-true _ _ t (change_if-formed stmt_is_formed f i 0 a (λ at. keeps a) u)) refl)
  kind-changed i (StmtKind-F.If c a (Some b)) e =
      let (p, q) = and-parts _ _ e in
      let (t, u) = and-parts _ _ p in
      rolled (StmtKind-F.If c (change_if f i 0 a) (Some (change_if f i 1 b))) (rolls-If _ _ _)
      (and-true _ _ (and-true _ _ t (change_if-formed stmt_is_formed f i 0 a (λ at. keeps a) u))
      (change_if-formed stmt_is_formed f i 1 b (λ at. keeps b) q))
  kind-changed i (StmtKind-F.Case c arms) e =
      let (p, q) = and-parts _ _ e in
      rolled (StmtKind-F.Case c (change (change_in_arm f) i arms)) (rolls-Case _ _)
      (and-true _ _ p (change-some arm_is_formed (change_in_arm f) i arms arm-changed q))
  kind-changed i (StmtKind-F.While c x) e =
      let (p, q) = and-parts _ _ e in
      rolled (StmtKind-F.While c (change_if f i 0 x)) (rolls-While _ _)
      (and-true _ _ p (change_if-formed stmt_is_formed f i 0 x (λ at. keeps x) q))
  kind-changed i (StmtKind-F.Repeat xs c) e =
      let (p, q) = and-parts _ _ e in
      rolled (StmtKind-F.Repeat (change f i xs) c) (rolls-Repeat _ _)
      (and-true _ _ (change-some stmt_is_formed f i xs keeps p) q)
  kind-changed i (StmtKind-F.For x first down last y) e =
      let (p, q) = and-parts _ _ e in
      rolled (StmtKind-F.For x first down last (change_if f i 0 y)) (rolls-For _ _ _ _ _)
      (and-true _ _ p (change_if-formed stmt_is_formed f i 0 y (λ at. keeps y) q))
  kind-changed i (StmtKind-F.With records x) e =
      let (p, q) = and-parts _ _ e in
      rolled (StmtKind-F.With records (change_if f i 0 x)) (rolls-With _ _)
      (and-true _ _ p (change_if-formed stmt_is_formed f i 0 x (λ at. keeps x) q))

  stmt-changed : (i : ℕ) (x : Stmt) → stmt_is_formed x ≡ true → stmt_is_formed (change_in_stmt f i x) ≡ true
  stmt-changed i x e =
      let y = out-Stmt x in
      let old : (formed_label y.label && kind_is_formed y.kind) ≡ true =
      sym (stmt-formed y) ∙ ap stmt_is_formed (roll-out-Stmt x) ∙ e in
      let (p, q) = and-parts _ _ old in
      let k = out-StmtKind y.kind in
      stmt-formed (record y { kind = change_in_kind f i k })
      ∙ and-true _ _ p (kind-changed i k (sym (kind-formed k) ∙ ap kind_is_formed (roll-out-StmtKind y.kind) ∙ q))

-- a formed statement in the place at a path from a formed one
pub put-formed : (path : List ℕ) (new : Stmt) → stmt_is_formed new ≡ true → (old : Stmt) → stmt_is_formed old ≡ true
    → stmt_is_formed (put_at path new old) ≡ true
put-formed [] new e old f = e
put-formed (i ∷ path) new e old f = stmt-changed (put_at path new) (put-formed path new e) i old f

-- ---- a body stays one

compound-changed : (f : Stmt → Stmt) (i : ℕ) (x : KindLayer) → is_compound x ≡ true
    → is_compound (out-StmtKind (change_in_kind f i x)) ≡ true
compound-changed f i (StmtKind-F.Compound xs) e = ap is_compound (outs-Compound (change f i xs))
compound-changed f i StmtKind-F.Empty e = absurd cc
compound-changed f i (StmtKind-F.Assign a x) e = absurd cc
compound-changed f i (StmtKind-F.Call x args) e = absurd cc
compound-changed f i (StmtKind-F.Goto n) e = absurd cc
compound-changed f i (StmtKind-F.If c a b) e = absurd cc
compound-changed f i (StmtKind-F.Case c arms) e = absurd cc
compound-changed f i (StmtKind-F.While c x) e = absurd cc
compound-changed f i (StmtKind-F.Repeat xs c) e = absurd cc
compound-changed f i (StmtKind-F.For x first down last y) e = absurd cc
compound-changed f i (StmtKind-F.With records x) e = absurd cc

abbrev is_body_layer : StmtLayer → Bool
is_body_layer x = is_none x.label && is_compound (out-StmtKind x.kind)

put-body : (path : List ℕ) (new old : Stmt) → is_body old ≡ true → (is_here path ≡ true → is_body new ≡ true)
    → is_body (put_at path new old) ≡ true
put-body [] new old e f = f refl
put-body (i ∷ path) new old e f =
    let y = out-Stmt old in
    let (p, q) = and-parts (is_none y.label) (is_compound (out-StmtKind y.kind)) e in
    ap is_body_layer (out-roll-Stmt (record y { kind = change_in_kind (put_at path new) i (out-StmtKind y.kind) }))
    ∙ and-true _ _ p (compound-changed (put_at path new) i (out-StmtKind y.kind) q)

-- ---- blocks and routines

abbrev decls_formed : BlockLayer → Bool
decls_formed x =
    label_part_is_formed x.labels && part_is_formed const_is_formed x.consts
    && part_is_formed typedef_is_formed x.types && part_is_formed vars_are_formed x.vars

record Parts (b : Block) : Type 0 where
  decls : decls_formed (out-Block b) ≡ true
  routines : all_formed (map routine_is_formed (out-Block b).routines) ≡ true
  body : is_body (out-Block b).body ≡ true
  stmt : stmt_is_formed (out-Block b).body ≡ true

parts_of : (b : Block) → block_is_formed b ≡ true → Parts b
parts_of b e =
    let x = out-Block b in
    let old : (decls_formed x && all_formed (map routine_is_formed x.routines)
    && (is_body x.body && stmt_is_formed x.body)) ≡ true =
    sym (block-formed x) ∙ ap block_is_formed (roll-out-Block b) ∙ e in
    let (p, q) = and-parts _ _ old in
    let (r, t) = and-parts _ _ p in
    let (u, v) = and-parts _ _ q in
    record { decls = r; routines = t; body = u; stmt = v }

routines-formed : (b : Block) (rs : List Routine) → Parts b → all_formed (map routine_is_formed rs) ≡ true
    → block_is_formed (with_routines b rs) ≡ true
routines-formed b rs p e =
    block-formed (record (out-Block b) { routines = rs })
    ∙ and-true _ _ (and-true _ _ p.decls e) (and-true _ _ p.body p.stmt)

body-formed : (b : Block) (x : Stmt) → Parts b → is_body x ≡ true → stmt_is_formed x ≡ true
    → block_is_formed (with_body b x) ≡ true
body-formed b x p e f =
    block-formed (record (out-Block b) { body = x })
    ∙ and-true _ _ (and-true _ _ p.decls p.routines) (and-true _ _ e f)

routine-is : (name : Name) (h : Heading) (o : Option Block)
    → routine_is_formed (roll-Routine (record { name = name; heading = h; block = o })) ≡
    (heading_is_formed h && formed_if_any (option_map block_is_formed o))
routine-is name h None = routine-formed (record { name = name; heading = h; block = None })
routine-is name h (Some b) = routine-formed (record { name = name; heading = h; block = Some b })

-- a block that may be left out, where f of it is formed
any-block : (f : Block → Block) (o : Option Block)
    → ((b : Block) → o ≡ some_of b → block_is_formed b ≡ true → block_is_formed (f b) ≡ true)
    → formed_if_any (option_map block_is_formed o) ≡ true
    → formed_if_any (option_map block_is_formed (option_map f o)) ≡ true
any-block f None keeps e = refl
any-block f (Some b) keeps e = keeps b refl e

routine-changed : (f : Block → Block) (r : Routine)
    → ((b : Block) → (out-Routine r).block ≡ some_of b → block_is_formed b ≡ true → block_is_formed (f b) ≡ true)
    → routine_is_formed r ≡ true → routine_is_formed (change_in_routine f r) ≡ true
routine-changed f r keeps e =
    let x = out-Routine r in
    let old : (heading_is_formed x.heading && formed_if_any (option_map block_is_formed x.block)) ≡ true =
    sym (routine-is x.name x.heading x.block) ∙ ap routine_is_formed (roll-out-Routine r) ∙ e in
    let (p, q) = and-parts _ _ old in
    routine-is x.name x.heading (option_map f x.block) ∙ and-true _ _ p (any-block f x.block keeps q)

-- ---- a statement at a path from a program or a routine

-- where the path leads to the body of the routine's block, if it leads to one
leads-in : (path : List ℕ) (r : Routine) (b : Block) (o : Option Routine) → o ≡ some_of r
    → (out-Routine r).block ≡ some_of b → leads_in (leads_to_body path) o ≡ leads_to_body path b
leads-in path r b o e f = rw (e, f) refl

pub put_block-formed : (path : List ℕ) (new : Stmt) → stmt_is_formed new ≡ true → (b : Block)
    → (leads_to_body path b ≡ true → is_body new ≡ true)
    → block_is_formed b ≡ true → block_is_formed (put_in_block path new b) ≡ true
put_block-formed [] new e b leads f = f
put_block-formed (i ∷ path) new e b leads f = before (put_block-formed path new e) (nat_lt i (declared b)) refl where
  p : Parts b
  p = parts_of b f

  Inner : Type 0
  Inner =
      (c : Block) → (leads_to_body path c ≡ true → is_body new ≡ true) → block_is_formed c ≡ true
      → block_is_formed (put_in_block path new c) ≡ true

  after : Inner → nat_lt i (declared b) ≡ false → (t : Bool)
      → nat_lt (i - declared b) (length (out-Block b).routines) ≡ t
      → block_is_formed
      (cond t (with_routines b
      (change (change_in_routine (put_in_block path new)) (i - declared b) (out-Block b).routines))
      (with_body b (change_if (put_at path new) (i - declared b) (length (out-Block b).routines)
      (out-Block b).body))) ≡ true
  after inner past true is =
      let enters : leads_to_body (i ∷ path) b
      ≡ leads_in (leads_to_body path) (slice_get (out-Block b).routines (i - declared b)) = rw (past, is) refl in
      routines-formed b _ p
      (change-all routine_is_formed (change_in_routine (put_in_block path new)) (i - declared b)
      (out-Block b).routines
      (λ r at h. routine-changed (put_in_block path new) r
      (λ c has g. inner c (λ to. leads (enters ∙ leads-in path r c _ at has ∙ to)) g) h) p.routines)
  after inner past false is =
      let ends : leads_to_body (i ∷ path) b ≡ is_here path = rw (past, is) refl in
      body-formed b _ p
      (change_if-formed is_body (put_at path new) (i - declared b) (length (out-Block b).routines) (out-Block b).body
      (λ at h. put-body path new (out-Block b).body h (λ here. leads (ends ∙ here))) p.body)
      (change_if-formed stmt_is_formed (put_at path new) (i - declared b) (length (out-Block b).routines)
      (out-Block b).body (λ at h. put-formed path new e (out-Block b).body h) p.stmt)

  before : Inner → (t : Bool) → nat_lt i (declared b) ≡ t
      → block_is_formed
      (cond t b (after_decls (put_at path new) (change_in_routine (put_in_block path new)) (i - declared b) b))
      ≡ true
  before inner true is = f
  before inner false is = after inner is (nat_lt (i - declared b) (length (out-Block b).routines)) refl
