-- How a statement ends is the same with other names, and with a part in place of another that ends alike.
use Rattle.std.proofs.Common.{◌≡◌, ℕ, zero, suc, ◌+◌, ◌-◌, ◌&&◌, Bool, true, false, List, [], ◌∷◌, length, map, Option, Some, None, refl, sym, subst, ap, ◌∙◌, eqb, ltb}
use Rattle.std.specs.Prelude.{if◌then◌else◌, option_map}
use Rattle.std.specs.List.{list_all}
use Rattle.pascal_tree.specs.declared.stmt.Stmt.{Stmt, Stmt-F, out-Stmt, out-roll-Stmt}
use Rattle.pascal_tree.specs.declared.stmt.StmtKind.{StmtKind, StmtKind-F, out-StmtKind}
use Rattle.pascal_tree.specs.declared.stmt.StmtKind.TheVariants as s
use Rattle.pascal_tree.specs.declared.stmt.StmtKind.TheFolds.{map-StmtKind, fold_out-StmtKind, fold_out-Stmt}
use Rattle.pascal_tree.specs.declared.stmt.Arm.{Arm}
use Rattle.dice_base.specs.declared.name.Name.{Name}
use Rattle.pascal_tree.specs.declared.decl.Heading.{Heading}
use Rattle.pascal_tree.specs.declared.decl.Block.{Block, Block-F, out-Block, out-roll-Block}
use Rattle.pascal_tree.specs.declared.decl.Block.TheFolds.{map-Routine, fold_out-Block, fold_out-Routine}
use Rattle.pascal_tree.specs.declared.decl.Routine.{Routine, Routine-F, out-Routine, out-roll-Routine}
use Rattle.pascal_tree.specs.declared.program.Tree.{Tree}
use Rattle.pascal_tree.specs.Names.{stmt_renaming}
use Rattle.pascal_tree.specs.Openness.{Ending, closed, are_paired, is_paired_before, ending_of_kind, ending_of_arm, ending_of_stmt, stmt_ending, kind_ending, arm_ending, paired_of_block, paired_of_routine, block_is_paired, routine_is_paired, program_is_paired}
use Rattle.pascal_tree.specs.Paths.{arm_body}
use Rattle.tree_laws.proofs.Renamed.{renamed-ends}
use Rattle.tree_edit.specs.Edited.{can_stand, edited_program, is_right_kind}
use Rattle.tree_edit.specs.Place.{change, change_if, change_in_arm, change_in_kind, change_in_stmt, put_at, declared, with_routines, with_body, after_decls, change_in_block, change_in_routine, put_in_block}
use Rattle.tree_edit.proofs.Endings.{arm_ending-is, arm_put}

-- ---- how a statement ends, from its parts

abbrev ends : StmtKind-F StmtKind Arm Stmt → Ending
ends k = ending_of_kind (map-StmtKind StmtKind Arm Stmt Ending Ending Ending kind_ending arm_ending stmt_ending k)

kind_ending-is : (k : StmtKind) → kind_ending k ≡ ends (out-StmtKind k)
unfolding stmt_ending kind_ending arm_ending
kind_ending-is k = fold_out-StmtKind Ending Ending Ending ending_of_kind ending_of_arm ending_of_stmt k

stmt_ending-is : (x : Stmt) → stmt_ending x ≡ kind_ending (out-Stmt x).kind
unfolding stmt_ending kind_ending arm_ending
stmt_ending-is x = fold_out-Stmt Ending Ending Ending ending_of_kind ending_of_arm ending_of_stmt x

-- ---- a part in place of another that ends alike

module _ (f g : Stmt → Stmt) (alike : (x : Stmt) → stmt_ending (f x) ≡ stmt_ending (g x)) where
  list_alike : (i : ℕ) (xs : List Stmt) → map stmt_ending (change f i xs) ≡ map stmt_ending (change g i xs)
  list_alike i [] = refl
  list_alike zero (x ∷ xs) = ap (λ (e : Ending). e ∷ map stmt_ending xs) (alike x)
  list_alike (suc i) (x ∷ xs) = ap (λ (es : List Ending). stmt_ending x ∷ es) (list_alike i xs)

  arms_alike : (i : ℕ) (arms : List Arm) → map arm_ending (change (change_in_arm f) i arms) ≡ map arm_ending (change (change_in_arm g) i arms)
  arms_alike i [] = refl
  arms_alike zero (a ∷ arms) = ap (λ (e : Ending). e ∷ map arm_ending arms) (arm_put f a ∙ (alike (arm_body a) ∙ sym (arm_put g a)))
  arms_alike (suc i) (a ∷ arms) = ap (λ (es : List Ending). arm_ending a ∷ es) (arms_alike i arms)

  if_alike : (i j : ℕ) (x : Stmt) → stmt_ending (change_if f i j x) ≡ stmt_ending (change_if g i j x)
  if_alike i j x = go (eqb i j)
    where
      go : (t : Bool) → stmt_ending (if t then f x else x) ≡ stmt_ending (if t then g x else x)
      go true = alike x
      go false = refl

  kind_alike : (i : ℕ) (k : StmtKind-F StmtKind Arm Stmt) → ends (out-StmtKind (change_in_kind f i k)) ≡ ends (out-StmtKind (change_in_kind g i k))
  kind_alike i StmtKind-F.Empty = refl
  kind_alike i (StmtKind-F.Assign access value) = refl
  kind_alike i (StmtKind-F.Call x args) = refl
  kind_alike i (StmtKind-F.Goto label) = refl
  kind_alike i (StmtKind-F.Compound stmts) = rw (s.outs-Compound (change f i stmts), s.outs-Compound (change g i stmts)) (ap (λ (es : List Ending). closed (are_paired es)) (list_alike i stmts))
  kind_alike i (StmtKind-F.If e a None) =
      rw (s.outs-If e (change_if f i 0 a) None, s.outs-If e (change_if g i 0 a) None) (ap (λ (x : Ending). record { is_open = true; is_paired = x.is_paired }) (if_alike i 0 a))
  kind_alike i (StmtKind-F.If e a (Some b)) =
      (let both : Ending → Ending → Ending = λ x y. record { is_open = y.is_open; is_paired = is_paired_before true x && y.is_paired } in
      rw (s.outs-If e (change_if f i 0 a) (Some (change_if f i 1 b)), s.outs-If e (change_if g i 0 a) (Some (change_if g i 1 b)))
      (ap (λ (x : Ending). both x (stmt_ending (change_if f i 1 b))) (if_alike i 0 a) ∙ ap (λ (y : Ending). both (stmt_ending (change_if g i 0 a)) y) (if_alike i 1 b)))
  kind_alike i (StmtKind-F.Case e arms) = rw (s.outs-Case e (change (change_in_arm f) i arms), s.outs-Case e (change (change_in_arm g) i arms)) (ap (λ (es : List Ending). closed (are_paired es)) (arms_alike i arms))
  kind_alike i (StmtKind-F.While e a) = rw (s.outs-While e (change_if f i 0 a), s.outs-While e (change_if g i 0 a)) (if_alike i 0 a)
  kind_alike i (StmtKind-F.Repeat stmts e) = rw (s.outs-Repeat (change f i stmts) e, s.outs-Repeat (change g i stmts) e) (ap (λ (es : List Ending). closed (are_paired es)) (list_alike i stmts))
  kind_alike i (StmtKind-F.For x first down last a) = rw (s.outs-For x first down last (change_if f i 0 a), s.outs-For x first down last (change_if g i 0 a)) (if_alike i 0 a)
  kind_alike i (StmtKind-F.With records a) = rw (s.outs-With records (change_if f i 0 a), s.outs-With records (change_if g i 0 a)) (if_alike i 0 a)

changed_ending : (f : Stmt → Stmt) (i : ℕ) (x : Stmt) → stmt_ending (change_in_stmt f i x) ≡ ends (out-StmtKind (change_in_kind f i (out-StmtKind (out-Stmt x).kind)))
changed_ending f i x =
    (let kind = change_in_kind f i (out-StmtKind (out-Stmt x).kind) in
    let outer : Stmt-F StmtKind Arm Stmt = record { name = (out-Stmt x).name; label = (out-Stmt x).label; kind = kind } in
    stmt_ending-is (change_in_stmt f i x) ∙ (ap (λ (y : Stmt-F StmtKind Arm Stmt). kind_ending y.kind) (out-roll-Stmt outer) ∙ kind_ending-is kind))

put_alike : (path : List ℕ) (a b : Stmt) → stmt_ending a ≡ stmt_ending b → (old : Stmt) → stmt_ending (put_at path a old) ≡ stmt_ending (put_at path b old)
put_alike [] a b e old = e
put_alike (i ∷ path) a b e old =
    changed_ending (put_at path a) i old
    ∙ (kind_alike (put_at path a) (put_at path b) (put_alike path a b e) i (out-StmtKind (out-Stmt old).kind) ∙ sym (changed_ending (put_at path b) i old))

-- ---- the same in blocks

abbrev all_paired : List Bool → Bool
all_paired bs = list_all (λ (b : Bool). b) bs

abbrev parts_paired : Block-F Block Routine → Bool
parts_paired b = all_paired (map routine_is_paired b.routines) && (stmt_ending b.body).is_paired

block_paired-is : (b : Block) → block_is_paired b ≡ parts_paired (out-Block b)
unfolding block_is_paired routine_is_paired
block_paired-is b = fold_out-Block Bool Bool paired_of_block paired_of_routine b

-- a routine with the answer for its block
abbrev routine_layer : Routine-F Block Routine → Routine-F Bool Bool
routine_layer = map-Routine Block Routine Bool Bool block_is_paired routine_is_paired

routine_paired-is : (r : Routine) → routine_is_paired r ≡ paired_of_routine (routine_layer (out-Routine r))
unfolding block_is_paired routine_is_paired
routine_paired-is r = fold_out-Routine Bool Bool paired_of_block paired_of_routine r

abbrev routine_with : Name → Heading → Option Block → Routine-F Block Routine
routine_with name heading b = record { name = name; heading = heading; block = b }

module _ (f g : Block → Block) (alike : (b : Block) → block_is_paired (f b) ≡ block_is_paired (g b)) where
  any_alike : (name : Name) (heading : Heading) (b : Option Block)
      → paired_of_routine (routine_layer (routine_with name heading (option_map f b))) ≡ paired_of_routine (routine_layer (routine_with name heading (option_map g b)))
  any_alike name heading None = refl
  any_alike name heading (Some b) = alike b

  routine_alike : (r : Routine) → routine_is_paired (change_in_routine f r) ≡ routine_is_paired (change_in_routine g r)
  routine_alike r =
      (let has : Routine-F Block Routine → Bool = λ x. paired_of_routine (routine_layer x) in
      let name = (out-Routine r).name in
      let heading = (out-Routine r).heading in
      let old = (out-Routine r).block in
      routine_paired-is (change_in_routine f r)
      ∙ ap has (out-roll-Routine (routine_with name heading (option_map f old)))
      ∙ any_alike name heading old
      ∙ sym (routine_paired-is (change_in_routine g r) ∙ ap has (out-roll-Routine (routine_with name heading (option_map g old)))))

  routines_alike : (i : ℕ) (rs : List Routine) → map routine_is_paired (change (change_in_routine f) i rs) ≡ map routine_is_paired (change (change_in_routine g) i rs)
  routines_alike i [] = refl
  routines_alike zero (r ∷ rs) = ap (λ (b : Bool). b ∷ map routine_is_paired rs) (routine_alike r)
  routines_alike (suc i) (r ∷ rs) = ap (λ (bs : List Bool). routine_is_paired r ∷ bs) (routines_alike i rs)

abbrev with_parts : List Routine → Stmt → Block → Block-F Block Routine
with_parts rs x b = record { labels = (out-Block b).labels; consts = (out-Block b).consts; types = (out-Block b).types; vars = (out-Block b).vars; routines = rs; body = x }

routines_put : (rs : List Routine) (b : Block) → block_is_paired (with_routines b rs) ≡ parts_paired (with_parts rs (out-Block b).body b)
routines_put rs b = block_paired-is (with_routines b rs) ∙ ap parts_paired (out-roll-Block (with_parts rs (out-Block b).body b))

body_put : (x : Stmt) (b : Block) → block_is_paired (with_body b x) ≡ parts_paired (with_parts (out-Block b).routines x b)
body_put x b = block_paired-is (with_body b x) ∙ ap parts_paired (out-roll-Block (with_parts (out-Block b).routines x b))

module _ (f g : Stmt → Stmt) (stmts : (x : Stmt) → stmt_ending (f x) ≡ stmt_ending (g x)) (p q : Block → Block) (blocks : (b : Block) → block_is_paired (p b) ≡ block_is_paired (q b)) where
  after_alike : (j : ℕ) (b : Block) → block_is_paired (after_decls f (change_in_routine p) j b) ≡ block_is_paired (after_decls g (change_in_routine q) j b)
  after_alike j b = go (ltb j (length (out-Block b).routines))
    where
      old : List Routine
      old = (out-Block b).routines

      inner : block_is_paired (with_routines b (change (change_in_routine p) j old)) ≡ block_is_paired (with_routines b (change (change_in_routine q) j old))
      inner =
          routines_put (change (change_in_routine p) j old) b
          ∙ (ap (λ (bs : List Bool). all_paired bs && (stmt_ending (out-Block b).body).is_paired) (routines_alike p q blocks j old)
          ∙ sym (routines_put (change (change_in_routine q) j old) b))

      own : block_is_paired (with_body b (change_if f j (length old) (out-Block b).body)) ≡ block_is_paired (with_body b (change_if g j (length old) (out-Block b).body))
      own =
          body_put (change_if f j (length old) (out-Block b).body) b
          ∙ (ap (λ (e : Ending). all_paired (map routine_is_paired old) && e.is_paired) (if_alike f g stmts j (length old) (out-Block b).body)
          ∙ sym (body_put (change_if g j (length old) (out-Block b).body) b))

      go : (t : Bool) → block_is_paired (if t then with_routines b (change (change_in_routine p) j old) else with_body b (change_if f j (length old) (out-Block b).body))
          ≡ block_is_paired (if t then with_routines b (change (change_in_routine q) j old) else with_body b (change_if g j (length old) (out-Block b).body))
      go true = inner
      go false = own

  block_alike : (i : ℕ) (b : Block) → block_is_paired (change_in_block f (change_in_routine p) i b) ≡ block_is_paired (change_in_block g (change_in_routine q) i b)
  block_alike i b = go (ltb i (declared b))
    where
      at : ℕ
      at = i - declared b

      go : (t : Bool) → block_is_paired (if t then b else after_decls f (change_in_routine p) at b) ≡ block_is_paired (if t then b else after_decls g (change_in_routine q) at b)
      go true = refl
      go false = after_alike at b

pub put_in_alike : (path : List ℕ) (a b : Stmt) → stmt_ending a ≡ stmt_ending b → (block : Block) → block_is_paired (put_in_block path a block) ≡ block_is_paired (put_in_block path b block)
put_in_alike [] a b e block = refl
put_in_alike (i ∷ path) a b e block =
    block_alike (put_at path a) (put_at path b) (put_alike path a b e) (put_in_block path a) (put_in_block path b) (put_in_alike path a b e) i block

-- ---- other names

-- new names change nothing of how the edited program ends
edited_paired : (old : Stmt) (path : List ℕ) (x : Stmt) (t : Tree) → program_is_paired (edited_program old path x t) ≡ block_is_paired (put_in_block path x t.block)
edited_paired old path x t =
    (let name = (out-Stmt old).name.0 in
    put_in_alike path (stmt_renaming name x t.next).0 x (renamed-ends name x t.next) t.block)

-- so the statement may be judged without them, in the block b of the program
pub judged : (old : Stmt) (path : List ℕ) (x : Stmt) (t : Tree) (b : Block) (paired : Bool) → b ≡ t.block → true ≡ can_stand path x b → paired ≡ block_is_paired (put_in_block path x b) → paired ≡ is_right_kind old path x t
judged old path x t b paired same stands e =
    (let stands_there : true ≡ can_stand path x t.block = subst (λ (c : Block). true ≡ can_stand path x c) same stands in
    let there : paired ≡ block_is_paired (put_in_block path x t.block) = subst (λ (c : Block). paired ≡ block_is_paired (put_in_block path x c)) same e in
    there ∙ (sym (edited_paired old path x t) ∙ ap (λ (y : Bool). y && program_is_paired (edited_program old path x t)) stands_there))
