-- What does not depend on the names of items is the same with other names.
use Rattle.std.specs.Prelude.{◌≡◌, ℕ, ◌+◌, Bool, true, ◌&&◌, List, [], ◌∷◌, Option, Some, None, map, is_none}
use Rattle.std.proofs.Common.{refl, sym, ap, ◌∙◌}
use Rattle.dice_base.specs.declared.name.Name.{Name}
use Rattle.pascal_tree.specs.declared.stmt.Stmt.{Stmt, Stmt-F, out-Stmt, out-roll-Stmt, roll-out-Stmt, fold-Stmt}
use Rattle.pascal_tree.specs.declared.stmt.StmtKind.{StmtKind, StmtKind-F, out-StmtKind, roll-StmtKind, roll-out-StmtKind, fold-StmtKind}
use Rattle.pascal_tree.specs.declared.stmt.StmtKind.TheVariants.{rolls-Empty, rolls-Assign, rolls-Call, rolls-Goto, rolls-Compound, rolls-If, rolls-Case, rolls-While, rolls-Repeat, rolls-For, rolls-With, outs-Compound}
use Rattle.pascal_tree.specs.declared.stmt.Arm.{Arm, Arm-F, fold-Arm}
use Rattle.pascal_tree.specs.declared.stmt.StmtKind.TheFolds.{map-StmtKind, fold-roll-StmtKind, fold-roll-Arm, fold-roll-Stmt}
use Rattle.pascal_tree.specs.Names.{stmt_renaming}
use Rattle.pascal_tree.specs.Naming.{Numbering, list_numbering, kind_in_turn, arm_in_turn, stmt_in_turn, kind_numbering, arm_numbering, stmt_numbering}
use Rattle.pascal_tree.specs.Formed.{formed_kind, formed_arm, formed_stmt, is_compound, is_body, stmt_is_formed}
use Rattle.pascal_tree.specs.Depth.{depth_of_kind, depth_of_arm, depth_of_stmt, stmt_depth}
use Rattle.pascal_tree.specs.Openness.{ending_of_kind, ending_of_arm, ending_of_stmt, stmt_ending}
use Rattle.expression_laws.proofs.Words.{and-parts, and-true}
use Rattle.tree_laws.proofs.StmtLayers.{KindLayer, StmtLayer}
use Rattle.tree_laws.proofs.Folds.{Agree, agreed, agreed_kind}

-- ---- what is folded by steps of which none reads a name

module _ {L B T : Type 0} (kind : StmtKind-F L B T → L) (arm : Arm-F L B T → B) (stmt : Stmt-F L B T → T) where
  abbrev of_kind : StmtKind → L
  of_kind = fold-StmtKind L B T kind arm stmt

  abbrev of_arm : Arm → B
  of_arm = fold-Arm L B T kind arm stmt

  abbrev of_stmt : Stmt → T
  of_stmt = fold-Stmt L B T kind arm stmt

  -- from whichever number on the names are
  abbrev KindIs : Numbering StmtKind → L → Type 0
  KindIs f l = (n : ℕ) → of_kind (f n).0 ≡ l

  abbrev ArmIs : Numbering Arm → B → Type 0
  ArmIs f b = (n : ℕ) → of_arm (f n).0 ≡ b

  abbrev StmtIs : Numbering Stmt → T → Type 0
  StmtIs f t = (n : ℕ) → of_stmt (f n).0 ≡ t

  abbrev KindPart : Type 0
  KindPart = (f : Numbering StmtKind) × (l : L) × KindIs f l

  abbrev ArmPart : Type 0
  ArmPart = (f : Numbering Arm) × (b : B) × ArmIs f b

  abbrev StmtPart : Type 0
  StmtPart = (f : Numbering Stmt) × (t : T) × StmtIs f t

  stmts-are : (ys : List StmtPart) (n : ℕ) → map of_stmt (list_numbering (map (λ e. e.0) ys) n).0 ≡ map (λ e. e.1) ys
  stmts-are [] n = refl
  stmts-are (y ∷ ys) n = rw (y.2 n, stmts-are ys (y.0 n).1) refl

  arms-are : (ys : List ArmPart) (n : ℕ) → map of_arm (list_numbering (map (λ e. e.0) ys) n).0 ≡ map (λ e. e.1) ys
  arms-are [] n = refl
  arms-are (y ∷ ys) n = rw (y.2 n, arms-are ys (y.0 n).1) refl

  rolled : (x : KindLayer) {k : StmtKind} → roll-StmtKind x ≡ k
      → of_kind k ≡ kind (map-StmtKind StmtKind Arm Stmt L B T of_kind of_arm of_stmt x)
  rolled x is = ap of_kind (sym is) ∙ fold-roll-StmtKind L B T kind arm stmt x

  kind-is : (y : StmtKind-F KindPart ArmPart StmtPart) (n : ℕ)
      → of_kind (kind_in_turn
      (map-StmtKind KindPart ArmPart StmtPart (Numbering StmtKind) (Numbering Arm) (Numbering Stmt) (λ e. e.0)
      (λ e. e.0) (λ e. e.0) y) n).0
      ≡ kind (map-StmtKind KindPart ArmPart StmtPart L B T (λ e. e.1) (λ e. e.1) (λ e. e.1) y)
  kind-is StmtKind-F.Empty n = rolled StmtKind-F.Empty rolls-Empty
  kind-is (StmtKind-F.Assign a e) n = rolled (StmtKind-F.Assign a e) (rolls-Assign a e)
  kind-is (StmtKind-F.Call x args) n = rolled (StmtKind-F.Call x args) (rolls-Call x args)
  kind-is (StmtKind-F.Goto label) n = rolled (StmtKind-F.Goto label) (rolls-Goto label)
  kind-is (StmtKind-F.Compound ys) n =
      rolled (StmtKind-F.Compound _) (rolls-Compound _) ∙ ap (λ zs. kind (StmtKind-F.Compound zs)) (stmts-are ys n)
  kind-is (StmtKind-F.If e y None) n =
      rolled (StmtKind-F.If e _ None) (rolls-If _ _ _) ∙ ap (λ z. kind (StmtKind-F.If e z None)) (y.2 n)
  kind-is (StmtKind-F.If e y (Some z)) n =
      rolled (StmtKind-F.If e _ (Some _)) (rolls-If _ _ _)
      ∙ ap (λ t. kind (StmtKind-F.If e t (Some (of_stmt (z.0 (y.0 n).1).0)))) (y.2 n)
      ∙ ap (λ t. kind (StmtKind-F.If e y.1 (Some t))) (z.2 (y.0 n).1)
  kind-is (StmtKind-F.Case e ys) n =
      rolled (StmtKind-F.Case e _) (rolls-Case _ _) ∙ ap (λ zs. kind (StmtKind-F.Case e zs)) (arms-are ys n)
  kind-is (StmtKind-F.While e y) n =
      rolled (StmtKind-F.While e _) (rolls-While _ _) ∙ ap (λ t. kind (StmtKind-F.While e t)) (y.2 n)
  kind-is (StmtKind-F.Repeat ys e) n =
      rolled (StmtKind-F.Repeat _ e) (rolls-Repeat _ _) ∙ ap (λ zs. kind (StmtKind-F.Repeat zs e)) (stmts-are ys n)
  kind-is (StmtKind-F.For x first down last y) n =
      rolled (StmtKind-F.For x first down last _) (rolls-For _ _ _ _ _)
      ∙ ap (λ t. kind (StmtKind-F.For x first down last t)) (y.2 n)
  kind-is (StmtKind-F.With records y) n =
      rolled (StmtKind-F.With records _) (rolls-With _ _) ∙ ap (λ t. kind (StmtKind-F.With records t)) (y.2 n)

  module _
      (nameless : (name other : Name) (label : Option ℕ) (k : L)
      → stmt (record { name = name; label = label; kind = k }) ≡ stmt
      (record { name = other; label = label; kind = k })) where
    same : Agree kind_in_turn arm_in_turn stmt_in_turn kind arm stmt KindIs ArmIs StmtIs
    same = record {
      kinds = kind-is;
      arms = λ y n. fold-roll-Arm L B T kind arm stmt _
          ∙ ap (λ b. arm (record { constants = y.constants; body = b })) (y.body.2 n);
      stmts = λ y n.
          fold-roll-Stmt L B T kind arm stmt _
          ∙ ap (λ k. stmt (record { name = record { 0 = n }; label = y.label; kind = k })) (y.kind.2 (n + 1))
          ∙ nameless _ y.name y.label y.kind.1;
    }

    pub stmt-numbered : (x : Stmt) (n : ℕ)
        → fold-Stmt L B T kind arm stmt (stmt_numbering x n).0 ≡ fold-Stmt L B T kind arm stmt x
    unfolding stmt_numbering
    stmt-numbered x n = agreed kind_in_turn arm_in_turn stmt_in_turn kind arm stmt KindIs ArmIs StmtIs same x n

    kind-renamed : (k : StmtKind) (n : ℕ) → of_kind (kind_numbering k n).0 ≡ of_kind k
    unfolding kind_numbering
    kind-renamed k n = agreed_kind kind_in_turn arm_in_turn stmt_in_turn kind arm stmt KindIs ArmIs StmtIs same k n

    pub stmt-renamed : (name : ℕ) (x : Stmt) (next : ℕ)
        → fold-Stmt L B T kind arm stmt (stmt_renaming name x next).0 ≡ fold-Stmt L B T kind arm stmt x
    stmt-renamed name x next =
        let y = out-Stmt x in
        fold-roll-Stmt L B T kind arm stmt _
        ∙ ap (λ k. stmt (record { name = record { 0 = name }; label = y.label; kind = k })) (kind-renamed y.kind next)
        ∙ nameless _ y.name y.label (of_kind y.kind)
        ∙ sym (fold-roll-Stmt L B T kind arm stmt y)
        ∙ ap of_stmt (roll-out-Stmt x)

-- ---- that a statement is formed, its levels, how it ends, and that it is a body

pub renamed-formed : (name : ℕ) (x : Stmt) (next : ℕ)
    → stmt_is_formed (stmt_renaming name x next).0 ≡ stmt_is_formed x
unfolding stmt_is_formed
renamed-formed name x next = stmt-renamed formed_kind formed_arm formed_stmt (λ n m label k. refl) name x next

pub renamed-levels : (name : ℕ) (x : Stmt) (next : ℕ) → stmt_depth (stmt_renaming name x next).0 ≡ stmt_depth x
unfolding stmt_depth
renamed-levels name x next = stmt-renamed depth_of_kind depth_of_arm depth_of_stmt (λ n m label k. refl) name x next

pub renamed-ends : (name : ℕ) (x : Stmt) (next : ℕ) → stmt_ending (stmt_renaming name x next).0 ≡ stmt_ending x
unfolding stmt_ending
renamed-ends name x next = stmt-renamed ending_of_kind ending_of_arm ending_of_stmt (λ n m label k. refl) name x next

abbrev layer_in_turn : KindLayer → Numbering StmtKind
layer_in_turn x =
    kind_in_turn (map-StmtKind StmtKind Arm Stmt (Numbering StmtKind) (Numbering Arm)
    (Numbering Stmt) kind_numbering arm_numbering stmt_numbering x)

numbering-is : (x : KindLayer) (n : ℕ) → kind_numbering (roll-StmtKind x) n ≡ layer_in_turn x n
unfolding kind_numbering arm_numbering stmt_numbering
numbering-is x n =
    ap (λ (f : Numbering StmtKind). f n)
    (fold-roll-StmtKind (Numbering StmtKind) (Numbering Arm) (Numbering Stmt) kind_in_turn arm_in_turn stmt_in_turn x)

compound-renamed : (x : KindLayer) (n : ℕ) → is_compound x ≡ true
    → is_compound (out-StmtKind (layer_in_turn x n).0) ≡ true
compound-renamed (StmtKind-F.Compound xs) n e = ap is_compound (outs-Compound _)
compound-renamed StmtKind-F.Empty n e = absurd cc
compound-renamed (StmtKind-F.Assign a x) n e = absurd cc
compound-renamed (StmtKind-F.Call x args) n e = absurd cc
compound-renamed (StmtKind-F.Goto label) n e = absurd cc
compound-renamed (StmtKind-F.If c a b) n e = absurd cc
compound-renamed (StmtKind-F.Case c arms) n e = absurd cc
compound-renamed (StmtKind-F.While c x) n e = absurd cc
compound-renamed (StmtKind-F.Repeat xs c) n e = absurd cc
compound-renamed (StmtKind-F.For x first down last y) n e = absurd cc
compound-renamed (StmtKind-F.With records x) n e = absurd cc

abbrev is_body_layer : StmtLayer → Bool
is_body_layer x = is_none x.label && is_compound (out-StmtKind x.kind)

pub renamed-body : (name : ℕ) (x : Stmt) (next : ℕ) → is_body x ≡ true → is_body (stmt_renaming name x next).0 ≡ true
renamed-body name x next e =
    let y = out-Stmt x in
    let (p, q) = and-parts (is_none y.label) (is_compound (out-StmtKind y.kind)) e in
    ap is_body_layer (out-roll-Stmt
    (record { name = record { 0 = name }; label = y.label; kind = (kind_numbering y.kind next).0 }))
    ∙ and-true _ _ p
    (ap (λ k. is_compound (out-StmtKind (kind_numbering k next).0)) (sym (roll-out-StmtKind y.kind))
    ∙ ap (λ (r : StmtKind × ℕ). is_compound (out-StmtKind r.0)) (numbering-is (out-StmtKind y.kind) next)
    ∙ compound-renamed (out-StmtKind y.kind) next q)
