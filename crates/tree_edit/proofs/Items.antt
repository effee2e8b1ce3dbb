-- Items, what stands in them, and what an edit at a path does to that.
use Rattle.std.proofs.Common.{◌≡◌, ℕ, zero, suc, ◌+◌, ◌-◌, ◌<◌, ◌≤◌, Bool, true, false, List, [], ◌∷◌, ◌++◌, length, map, Option, Some, None, refl, ap, ◌∙◌, sym, arith, append_assoc, length-append, ltb, subst}
use Rattle.std.specs.Prelude.{option_to_list, option_map}
use Rattle.std.proofs.lemmas.List.{map-append, length-map}
use Rattle.std.proofs.lemmas.Bool.{ltb-true, ltb-false}
use Rattle.pascal_tree.specs.declared.stmt.Stmt.{Stmt, out-Stmt}
use Rattle.pascal_tree.specs.declared.stmt.StmtKind.{StmtKind, StmtKind-F, out-StmtKind}
use Rattle.pascal_tree.specs.declared.stmt.Arm.{Arm}
use Rattle.pascal_tree.specs.declared.stmt.StmtKind.TheVariants as s
use Rattle.pascal_tree.specs.declared.decl.Decl.{Decl}
use Rattle.pascal_tree.specs.declared.decl.Block.{Block, Block-F, out-Block, out-roll-Block}
use Rattle.pascal_tree.specs.declared.decl.Routine.{Routine, Routine-F, out-Routine, out-roll-Routine}
use Rattle.pascal_tree.specs.Paths.{ItemValue, OfProgram, OfDecl, OfRoutine, OfStmt, kind_parts, arm_body, stmt_children, block_children, any_children, item_children, item_name}
use Rattle.tree_edit.specs.Place.{change, change_if, change_in_arm, change_in_kind, change_in_stmt, put_at, label_count, declared, with_routines, with_body, after_decls, change_in_block, change_in_routine, put_in_block}
use Rattle.tree_edit.proofs.Lists.{change_map, change_kept, change_front, change_rest, change_single, change_two, change_if_here, change_if_other}

-- ---- the parts of a statement

pub kind_put : (f : Stmt → Stmt) (i : ℕ) (x : StmtKind-F StmtKind Arm Stmt) → kind_parts arm_body (out-StmtKind (change_in_kind f i x)) ≡ change f i (kind_parts arm_body x)
kind_put f i StmtKind-F.Empty = rw s.outs-Empty refl
kind_put f i (StmtKind-F.Assign a e) = rw (s.outs-Assign a e) refl
kind_put f i (StmtKind-F.Call x args) = rw (s.outs-Call x args) refl
kind_put f i (StmtKind-F.Goto label) = rw (s.outs-Goto label) refl
kind_put f i (StmtKind-F.Compound stmts) = rw (s.outs-Compound (change f i stmts)) refl
kind_put f i (StmtKind-F.If e a None) = rw (s.outs-If e (change_if f i 0 a) None) (change_single f i a)
kind_put f i (StmtKind-F.If e a (Some b)) = rw (s.outs-If e (change_if f i 0 a) (Some (change_if f i 1 b))) (change_two f i a b)
kind_put f i (StmtKind-F.Case e arms) = rw (s.outs-Case e (change (change_in_arm f) i arms)) (change_map arm_body (change_in_arm f) f (λ a. refl) i arms)
kind_put f i (StmtKind-F.While e a) = rw (s.outs-While e (change_if f i 0 a)) (change_single f i a)
kind_put f i (StmtKind-F.Repeat stmts e) = rw (s.outs-Repeat (change f i stmts) e) refl
kind_put f i (StmtKind-F.For x first down last a) = rw (s.outs-For x first down last (change_if f i 0 a)) (change_single f i a)
kind_put f i (StmtKind-F.With records a) = rw (s.outs-With records (change_if f i 0 a)) (change_single f i a)

pub stmt_put : (f : Stmt → Stmt) (i : ℕ) (x : Stmt) → stmt_children (change_in_stmt f i x) ≡ change f i (stmt_children x)
stmt_put f i x = kind_put f i (out-StmtKind (out-Stmt x).kind)

-- ---- the parts of a block

-- an item, with a statement at a path from it
abbrev pub put_item : List ℕ → Stmt → ItemValue → ItemValue
put_item path new (OfProgram p) = OfProgram (record { ident = p.ident; files = p.files; block = put_in_block path new p.block; next = p.next })
put_item path new (OfDecl d) = OfDecl d
put_item path new (OfRoutine r) = OfRoutine (change_in_routine (put_in_block path new) r)
put_item path new (OfStmt x) = OfStmt (put_at path new x)

abbrev decls_in : Block-F Block Routine → List Decl
decls_in x = option_to_list x.labels ++ (x.consts ++ (x.types ++ x.vars))

abbrev after_in : Block-F Block Routine → List ItemValue
after_in x = map OfRoutine x.routines ++ OfStmt x.body ∷ []

abbrev pub all_decls : Block → List Decl
all_decls b = decls_in (out-Block b)

abbrev pub after_children : Block → List ItemValue
after_children b = after_in (out-Block b)

pub children_parts : (b : Block) → block_children b ≡ map OfDecl (all_decls b) ++ after_children b
children_parts b = simp (map-append, append_assoc)

labels_length : (d : Option Decl) → length (option_to_list d) ≡ label_count d
labels_length None = refl
labels_length (Some d) = refl

pub decls_length : (b : Block) → length (map OfDecl (all_decls b)) ≡ declared b
decls_length b = simp (length-map, length-append, labels_length)

-- a block with other routines, and with another body
abbrev routines_layer : Block → List Routine → Block-F Block Routine
routines_layer b routines = record { labels = (out-Block b).labels; consts = (out-Block b).consts; types = (out-Block b).types; vars = (out-Block b).vars; routines = routines; body = (out-Block b).body }

abbrev body_layer : Block → Stmt → Block-F Block Routine
body_layer b body = record { labels = (out-Block b).labels; consts = (out-Block b).consts; types = (out-Block b).types; vars = (out-Block b).vars; routines = (out-Block b).routines; body = body }

after_routines : (b : Block) (routines : List Routine) → after_children (with_routines b routines) ≡ map OfRoutine routines ++ OfStmt (out-Block b).body ∷ []
after_routines b routines = ap after_in (out-roll-Block (routines_layer b routines))

after_body : (b : Block) (body : Stmt) → after_children (with_body b body) ≡ map OfRoutine (out-Block b).routines ++ OfStmt body ∷ []
after_body b body = ap after_in (out-roll-Block (body_layer b body))

decls_routines : (b : Block) (routines : List Routine) → all_decls (with_routines b routines) ≡ all_decls b
decls_routines b routines = ap decls_in (out-roll-Block (routines_layer b routines))

decls_body : (b : Block) (body : Stmt) → all_decls (with_body b body) ≡ all_decls b
decls_body b body = ap decls_in (out-roll-Block (body_layer b body))

-- a block whose parts change as the items do
module _ (f : Stmt → Stmt) (g : Routine → Routine) (h : ItemValue → ItemValue) (decls : (d : Decl) → h (OfDecl d) ≡ OfDecl d)
    (routines : (r : Routine) → OfRoutine (g r) ≡ h (OfRoutine r)) (stmts : (x : Stmt) → OfStmt (f x) ≡ h (OfStmt x)) where
  front_put : (i : ℕ) (b : Block) → i < declared b → change h i (block_children b) ≡ block_children b
  front_put i b lt =
      (let lt2 : i < length (map OfDecl (all_decls b)) = omega (arith, decls_length b) in
      ap (λ (xs : List ItemValue). change h i xs) (children_parts b)
      ∙ change_front h i (map OfDecl (all_decls b)) (after_children b) lt2
      ∙ ap (λ (xs : List ItemValue). xs ++ after_children b) (change_kept OfDecl h decls i (all_decls b))
      ∙ sym (children_parts b))

  routine_put : (j : ℕ) (b : Block) → j < length (out-Block b).routines → after_children (with_routines b (change g j (out-Block b).routines)) ≡ change h j (after_children b)
  routine_put j b lt =
      (let lt2 : j < length (map OfRoutine (out-Block b).routines) = rw length-map lt in
      after_routines b (change g j (out-Block b).routines) ∙ sym (change_front h j (map OfRoutine (out-Block b).routines) (OfStmt (out-Block b).body ∷ []) lt2 ∙ ap (λ (xs : List ItemValue). xs ++ (OfStmt (out-Block b).body ∷ [])) (sym (change_map OfRoutine g h routines j (out-Block b).routines))))

  single_put : (k n : ℕ) (x : Stmt) → OfStmt (change_if f (k + n) n x) ∷ [] ≡ change h k (OfStmt x ∷ [])
  single_put zero n x = ap (λ (y : Stmt). OfStmt y ∷ []) (change_if_here f (zero + n) n x (omega arith)) ∙ ap (λ (y : ItemValue). y ∷ []) (stmts x)
  single_put (suc k) n x = ap (λ (y : Stmt). OfStmt y ∷ []) (change_if_other f (suc k + n) n x (λ e. omega (arith, e)))

  body_put : (k : ℕ) (b : Block) → after_children (with_body b (change_if f (k + length (out-Block b).routines) (length (out-Block b).routines) (out-Block b).body)) ≡ change h (k + length (out-Block b).routines) (after_children b)
  body_put k b =
      after_body b (change_if f (k + length (out-Block b).routines) (length (out-Block b).routines) (out-Block b).body)
      ∙ ap (λ (xs : List ItemValue). map OfRoutine (out-Block b).routines ++ xs) (single_put k (length (out-Block b).routines) (out-Block b).body)
      ∙ sym (change_rest h k (k + length (out-Block b).routines) (map OfRoutine (out-Block b).routines) (OfStmt (out-Block b).body ∷ []) (rw length-map refl))

  after_put : (j : ℕ) (b : Block) → after_children (after_decls f g j b) ≡ change h j (after_children b)
  after_put j b = go (ltb j (length (out-Block b).routines)) refl
    where
      go : (t : Bool) → ltb j (length (out-Block b).routines) ≡ t → after_children (after_decls f g j b) ≡ change h j (after_children b)
      go true e = rw e (routine_put j b (ltb-true _ _ e))
      go false e =
          (let n = length (out-Block b).routines in
          let le : n ≤ j = ltb-false _ _ e in
          let same : (j - n) + n ≡ j = omega arith in
          rw e (subst (λ (m : ℕ). after_children (with_body b (change_if f m n (out-Block b).body)) ≡ change h m (after_children b)) same (body_put (j - n) b)))

  after_decl_parts : (j : ℕ) (b : Block) → all_decls (after_decls f g j b) ≡ all_decls b
  after_decl_parts j b = go (ltb j (length (out-Block b).routines)) refl
    where
      go : (t : Bool) → ltb j (length (out-Block b).routines) ≡ t → all_decls (after_decls f g j b) ≡ all_decls b
      go true e = rw e (decls_routines b (change g j (out-Block b).routines))
      go false e = rw e (decls_body b (change_if f j (length (out-Block b).routines) (out-Block b).body))

  rest_put : (j i : ℕ) (b : Block) → i ≡ j + declared b → block_children (after_decls f g j b) ≡ change h i (block_children b)
  rest_put j i b e =
      children_parts (after_decls f g j b)
      ∙ ap (λ (ds : List Decl). map OfDecl ds ++ after_children (after_decls f g j b)) (after_decl_parts j b)
      ∙ ap (λ (xs : List ItemValue). map OfDecl (all_decls b) ++ xs) (after_put j b)
      ∙ sym (change_rest h j i (map OfDecl (all_decls b)) (after_children b) (omega (arith, e, decls_length b)))
      ∙ ap (λ (xs : List ItemValue). change h i xs) (sym (children_parts b))

  pub block_put : (i : ℕ) (b : Block) → block_children (change_in_block f g i b) ≡ change h i (block_children b)
  block_put i b = go (ltb i (declared b)) refl
    where
      go : (t : Bool) → ltb i (declared b) ≡ t → block_children (change_in_block f g i b) ≡ change h i (block_children b)
      go true e = rw e (sym (front_put i b (ltb-true _ _ e)))
      go false e = (let le : declared b ≤ i = ltb-false _ _ e in rw e (rest_put (i - declared b) i b (omega arith)))

-- ---- any item

any_put : (i : ℕ) (path : List ℕ) (new : Stmt) (b : Option Block) → any_children (option_map (put_in_block (i ∷ path) new) b) ≡ change (put_item path new) i (any_children b)
any_put i path new None = refl
any_put i path new (Some b) = block_put (put_at path new) (change_in_routine (put_in_block path new)) (put_item path new) (λ d. refl) (λ r. refl) (λ x. refl) i b

-- a routine with another block
abbrev pub routine_layer : ℕ → List ℕ → Stmt → Routine → Routine-F Block Routine
routine_layer i path new r = record { name = (out-Routine r).name; heading = (out-Routine r).heading; block = option_map (put_in_block (i ∷ path) new) (out-Routine r).block }

pub routine_opened : (i : ℕ) (path : List ℕ) (new : Stmt) (r : Routine) → out-Routine (change_in_routine (put_in_block (i ∷ path) new) r) ≡ routine_layer i path new r
routine_opened i path new r = out-roll-Routine (routine_layer i path new r)

pub item_put : (i : ℕ) (path : List ℕ) (new : Stmt) (x : ItemValue) → item_children (put_item (i ∷ path) new x) ≡ change (put_item path new) i (item_children x)
item_put i path new (OfProgram p) = block_put (put_at path new) (change_in_routine (put_in_block path new)) (put_item path new) (λ d. refl) (λ r. refl) (λ x. refl) i p.block
item_put i path new (OfDecl d) = refl
item_put i path new (OfRoutine r) = ap (λ (x : Routine-F Block Routine). any_children x.block) (routine_opened i path new r) ∙ any_put i path new (out-Routine r).block
item_put i path new (OfStmt x) = ap (λ (xs : List Stmt). map OfStmt xs) (stmt_put (put_at path new) i x) ∙ change_map OfStmt (put_at path new) (put_item path new) (λ y. refl) i (stmt_children x)

pub name_put : (i : ℕ) (path : List ℕ) (new : Stmt) (x : ItemValue) → item_name (put_item (i ∷ path) new x) ≡ item_name x
name_put i path new (OfProgram p) = refl
name_put i path new (OfDecl d) = refl
name_put i path new (OfRoutine r) = ap (λ (x : Routine-F Block Routine). x.name.0) (routine_opened i path new r)
name_put i path new (OfStmt x) = refl
