-- A statement that is formed and in which each `else` belongs to its own `if` is spelled by a text, names aside, with
-- the levels that it takes.
use Rattle.std.specs.Prelude.{◌≡◌, ℕ, ◌≤◌, zero, suc, Bool, true, false, not, List, Option, Some, None, map}
use Rattle.std.proofs.Common.{refl, sym, ap, subst, ◌∙◌, arith}
use Rattle.dice_base.specs.Forms.{Form, one, list_of}
use Rattle.dice_base.specs.Tokens.{operator_of}
use Rattle.dice_base.specs.declared.symbols.words.TheConstants as words
use Rattle.dice_base.specs.declared.symbols.signs.TheConstants as signs
use Rattle.pascal_tree.specs.Classes.{semicolon_class}
use Rattle.pascal_tree.specs.declared.expr.Expr.{Expr}
use Rattle.pascal_tree.specs.declared.stmt.Stmt.{Stmt, out-Stmt, roll-Stmt, roll-out-Stmt}
use Rattle.pascal_tree.specs.declared.stmt.StmtKind.{StmtKind, StmtKind-F, out-StmtKind, roll-StmtKind, roll-out-StmtKind, map-StmtKind}
use Rattle.pascal_tree.specs.declared.stmt.StmtKind.TheVariants as s
use Rattle.pascal_tree.specs.declared.stmt.StmtKind.TheVariants.{rolls-Empty, rolls-Assign, rolls-Call, rolls-Goto, rolls-Compound, rolls-If, rolls-Case, rolls-While, rolls-Repeat, rolls-For, rolls-With}
use Rattle.pascal_tree.specs.declared.stmt.StmtKind.TheFolds.{fold-roll-StmtKind, fold-roll-Arm, fold-roll-Stmt}
use Rattle.pascal_tree.specs.declared.stmt.Arm.{Arm, out-Arm, roll-Arm, roll-out-Arm}
use Rattle.pascal_tree.specs.Expressions.{expr_at}
use Rattle.pascal_tree.specs.Statements.{directions, make_stmt, make_arm, compound_in, else_form, arm_form, kind_form, stmt_form, stmt_at}
use Rattle.pascal_tree.specs.Unnamed as without
use Rattle.pascal_tree.specs.Unnamed.{unnamed_kind, unnamed_arm, unnamed_stmt}
use Rattle.pascal_tree.specs.FormedExprs.{expr_is_formed}
use Rattle.pascal_tree.specs.Formed.{formed_label, arm_is_formed, stmt_is_formed}
use Rattle.pascal_tree.specs.Openness.{Ending, kind_ending, arm_ending, stmt_ending, is_open}
use Rattle.pascal_tree.specs.Depth.{expr_depth, kind_depth, arm_depth, stmt_depth}
use Rattle.expression_laws.specs.Spelled.{Spelled}
use Rattle.expression_laws.proofs.Words.{and-parts, and-true}
use Rattle.expression_laws.proofs.Gives.{Fits, SomeFit}
use Rattle.expression_laws.proofs.Layers.{opened, some_levels}
use Rattle.expression_laws.proofs.Spells.{CoversAs, Spelling, done, left, right, after, identifier, number, word, sign, word_operator, list, list_as, ended_as, flat_list}
use Rattle.expression_laws.proofs.ExprSpells.{access-spelled, args-spelled, expr-spelled, access-some, expr-some}
use Rattle.tree_laws.proofs.TypeSpells.{constant-spelled}
use Rattle.tree_laws.proofs.StmtLayers.{paired, KindLayer, ArmLayer, StmtLayer, kind_is_whole, arm_is_whole, stmt_is_whole, kind_ends, kind_levels, kind-ending, stmt-ending, kind_layer, arm_layer, stmt_layer, some-whole}

-- ---- a layer without names

abbrev without_names : KindLayer → KindLayer
without_names x = map-StmtKind StmtKind Arm Stmt StmtKind Arm Stmt unnamed_kind unnamed_arm unnamed_stmt x

pub kind-unnamed : (x : KindLayer) → unnamed_kind (roll-StmtKind x) ≡ roll-StmtKind (without_names x)
unfolding unnamed_kind unnamed_arm unnamed_stmt
kind-unnamed x = fold-roll-StmtKind StmtKind Arm Stmt roll-StmtKind roll-Arm without.in_stmt x

arm-unnamed : (x : ArmLayer) → unnamed_arm (roll-Arm x) ≡ make_arm x.constants (unnamed_stmt x.body)
unfolding unnamed_kind unnamed_arm unnamed_stmt
arm-unnamed x = fold-roll-Arm StmtKind Arm Stmt roll-StmtKind roll-Arm without.in_stmt x

pub stmt-unnamed : (x : StmtLayer) → unnamed_stmt (roll-Stmt x) ≡ make_stmt x.label (unnamed_kind x.kind)
unfolding unnamed_kind unnamed_arm unnamed_stmt
stmt-unnamed x = fold-roll-Stmt StmtKind Arm Stmt roll-StmtKind roll-Arm without.in_stmt x

-- ---- where it holds of expressions and of inner statements

-- a text spells each statement that is whole and has at most so many levels
abbrev pub StmtSpelling : Form Stmt → ℕ → Type 0
StmtSpelling S d = (x : Stmt) → Fits stmt_is_whole stmt_depth d x → Spelled S (unnamed_stmt x) (is_open x)

direction : (down : Bool) → Spelled (one (operator_of directions)) down false
direction false = word_operator words.TO refl refl
direction true = word_operator words.DOWNTO refl refl

not-true : (b : Bool) → not b ≡ true → b ≡ false
not-true true e = absurd cc
not-true false e = refl

module _ (d : ℕ) (E A : Form Expr) (S : Form Stmt)
    (here : Spelling E expr_is_formed expr_depth (suc d))
    (further : Spelling A expr_is_formed expr_depth d)
    (inner : StmtSpelling S d) where
  stmts : CoversAs S unnamed_stmt stmt_is_whole stmt_depth d
  stmts x f = (is_open x, inner x f)

  abbrev Sequence : Form (List Stmt)
  Sequence = list_of semicolon_class S

  -- ---- `if`

  else-none : (c : Expr) (a : Stmt) (w : Bool) {k : StmtKind} → k ≡ s.If c a None
      → Spelled (else_form E A S Sequence c a w) k true
  else-none c a true is = done is
  else-none c a false is = right (done is)

  else-some : (c : Expr) (a b : Stmt) (w v : Bool) {k : StmtKind} → w ≡ false → k ≡ s.If c a (Some b) → Spelled S b v
      → Spelled (else_form E A S Sequence c a w) k v
  else-some c a b true v shut is r = absurd cc
  else-some c a b false v shut is r = left (word words.ELSE refl (after r (done is)))

  -- ---- `case`

  arm-spelled : (a : Arm) → Fits arm_is_whole arm_depth d a
      → Spelled (arm_form E A S Sequence) (unnamed_arm a) (is_open (out-Arm a).body)
  arm-spelled a f =
      let x = out-Arm a in
      let (e, n) = opened arm_layer x (subst (λ b. Fits arm_is_whole arm_depth d b) (sym (roll-out-Arm a)) f) in
      let (p, q) = and-parts _ _ e in
      let (cs, body) = and-parts _ _ p in
      after (flat_list signs.COMMA refl constant-spelled x.constants cs)
      (sign signs.COLON refl (after (inner x.body (record { is_formed = and-true _ _ body q; levels = n }))
      (done (ap unnamed_arm (sym (roll-out-Arm a)) ∙ arm-unnamed x))))

  arms : CoversAs (arm_form E A S Sequence) unnamed_arm arm_is_whole arm_depth d
  arms a f = (is_open (out-Arm a).body, arm-spelled a f)

  -- ---- kinds

  pub compound-spelled : (xs : List Stmt) → SomeFit stmt_is_whole stmt_depth d xs
      → Spelled (compound_in E A S Sequence) (s.Compound (map unnamed_stmt xs)) false
  compound-spelled xs f = after (list_as signs.SEMICOLON refl stmts xs f) (word words.END refl (done refl))

  kind-layer : (x : KindLayer) → Fits kind_is_whole kind_depth (suc d) (roll-StmtKind x)
      → Spelled (kind_form E A S Sequence) (roll-StmtKind (without_names x)) (kind_ends x).is_open
  kind-layer (StmtKind-F.Compound xs) h =
      let (e, n) = opened kind_layer (StmtKind-F.Compound xs) h in
      let (p, q) = and-parts _ _ e in
      subst (λ k. Spelled (kind_form E A S Sequence) k false) (sym (rolls-Compound (map unnamed_stmt xs)))
      (left (word words.BEGIN refl
      (compound-spelled xs
      (record { is_formed = some-whole stmt_is_formed stmt_ending paired xs p q; levels = omega (arith, n) }))))
  kind-layer (StmtKind-F.If c a None) h =
      let (e, n) = opened kind_layer (StmtKind-F.If c a None) h in
      let (p, q) = and-parts _ _ e in
      let (t, u) = and-parts _ _ (and-parts _ _ p).0 in
      right (left (word words.IF refl (after (here c (record { is_formed = t; levels = omega (arith, n) }))
      (word words.THEN refl (after (inner a (record { is_formed = and-true _ _ u q; levels = omega (arith, n) }))
      (else-none c (unnamed_stmt a) (is_open a) (rolls-If c (unnamed_stmt a) None)))))))
  kind-layer (StmtKind-F.If c a (Some b)) h =
      let (e, n) = opened kind_layer (StmtKind-F.If c a (Some b)) h in
      let (p, q) = and-parts _ _ e in
      let (t, v) = and-parts _ _ p in
      let (first, second) = and-parts _ _ t in
      let (closed, matched) = and-parts _ _ q in
      let (r, shut) = and-parts _ _ closed in
      right (left (word words.IF refl (after (here c (record { is_formed = first; levels = omega (arith, n) }))
      (word words.THEN refl (after (inner a (record { is_formed = and-true _ _ second r; levels = omega (arith, n) }))
      (else-some c (unnamed_stmt a) (unnamed_stmt b) (is_open a) (is_open b) (not-true (is_open a) shut)
      (rolls-If c (unnamed_stmt a) (Some (unnamed_stmt b)))
      (inner b (record { is_formed = and-true _ _ v matched; levels = omega (arith, n) }))))))))
  kind-layer (StmtKind-F.Case c xs) h =
      let (e, n) = opened kind_layer (StmtKind-F.Case c xs) h in
      let (p, q) = and-parts _ _ e in
      let (t, u) = and-parts _ _ p in
      right (right (left (word words.CASE refl (after (here c (record { is_formed = t; levels = omega (arith, n) }))
      (word words.OF refl (after
      (ended_as signs.SEMICOLON refl arms xs
      (record { is_formed = some-whole arm_is_formed arm_ending paired xs u q; levels = omega (arith, n) }))
      (word words.END refl (done (rolls-Case c (map unnamed_arm xs))))))))))
  kind-layer (StmtKind-F.While c x) h =
      let (e, n) = opened kind_layer (StmtKind-F.While c x) h in
      let (p, q) = and-parts _ _ e in
      let (t, u) = and-parts _ _ p in
      right (right (right (left
      (word words.WHILE refl (after (here c (record { is_formed = t; levels = omega (arith, n) }))
      (word words.DO refl (after (inner x (record { is_formed = and-true _ _ u q; levels = omega (arith, n) }))
      (done (rolls-While c (unnamed_stmt x))))))))))
  kind-layer (StmtKind-F.Repeat xs c) h =
      let (e, n) = opened kind_layer (StmtKind-F.Repeat xs c) h in
      let (p, q) = and-parts _ _ e in
      let (t, u) = and-parts _ _ p in
      right (right (right (right (left (word words.REPEAT refl
      (after (list_as signs.SEMICOLON refl stmts xs
      (record { is_formed = some-whole stmt_is_formed stmt_ending paired xs t q; levels = omega (arith, n) }))
      (word words.UNTIL refl
      (after (here c (record { is_formed = u; levels = omega (arith, n) }))
      (done (rolls-Repeat (map unnamed_stmt xs) c))))))))))
  kind-layer (StmtKind-F.For x first down last y) h =
      let (e, n) = opened kind_layer (StmtKind-F.For x first down last y) h in
      let (p, q) = and-parts _ _ e in
      let (t, body) = and-parts _ _ p in
      let (u, end) = and-parts _ _ t in
      let (name, begin) = and-parts _ _ u in
      right (right (right (right (right (left (word words.FOR refl (after (identifier x name)
      (sign signs.BECOMES refl (after (here first (record { is_formed = begin; levels = omega (arith, n) }))
      (after (direction down) (after (here last (record { is_formed = end; levels = omega (arith, n) }))
      (word words.DO refl (after (inner y (record { is_formed = and-true _ _ body q; levels = omega (arith, n) }))
      (done (rolls-For x first down last (unnamed_stmt y))))))))))))))))
  kind-layer (StmtKind-F.With records x) h =
      let (e, n) = opened kind_layer (StmtKind-F.With records x) h in
      let (p, q) = and-parts _ _ e in
      let (t, u) = and-parts _ _ p in
      right (right (right (right (right (right (left (word words.WITH refl
      (after (list signs.COMMA refl (access-spelled d A further) records
      (record { is_formed = t; levels = omega (arith, n) }))
      (word words.DO refl (after (inner x (record { is_formed = and-true _ _ u q; levels = omega (arith, n) }))
      (done (rolls-With records (unnamed_stmt x)))))))))))))
  kind-layer (StmtKind-F.Goto label) h =
      let (e, n) = opened kind_layer (StmtKind-F.Goto label) h in
      right (right (right (right
      (right (right (right
      (left (word words.GOTO refl (after (number label (and-parts _ _ e).0) (done (rolls-Goto label)))))))))))
  kind-layer (StmtKind-F.Assign a x) h =
      let (e, n) = opened kind_layer (StmtKind-F.Assign a x) h in
      let (t, u) = and-parts _ _ (and-parts _ _ e).0 in
      right (right (right (right
      (right (right (right
      (right (left (left (after (access-spelled d A further a (record { is_formed = t; levels = omega (arith, n) }))
      (sign signs.BECOMES refl
      (after (here x (record { is_formed = u; levels = omega (arith, n) })) (done (rolls-Assign a x))))))))))))))
  kind-layer (StmtKind-F.Call x args) h =
      let (e, n) = opened kind_layer (StmtKind-F.Call x args) h in
      let (t, u) = and-parts _ _ (and-parts _ _ e).0 in
      right (right (right (right (right (right (right (right (left (right (after (identifier x t)
      (after (args-spelled d A further args (record { is_formed = u; levels = omega (arith, n) }))
      (done (rolls-Call x args)))))))))))))
  kind-layer StmtKind-F.Empty h =
      right (right (right (right (right (right (right (right (right (done rolls-Empty)))))))))

  kind-spelled : (k : StmtKind) → Fits kind_is_whole kind_depth (suc d) k
      → Spelled (kind_form E A S Sequence) (unnamed_kind k) (kind_ending k).is_open
  kind-spelled k f =
      let x = out-StmtKind k in
      let is : roll-StmtKind x ≡ k = roll-out-StmtKind k in
      let r = kind-layer x (subst (λ l. Fits kind_is_whole kind_depth (suc d) l) (sym is) f) in
      subst (λ l. Spelled (kind_form E A S Sequence) l (kind_ending k).is_open)
      (sym (kind-unnamed x) ∙ ap unnamed_kind is)
      (subst (λ w. Spelled (kind_form E A S Sequence) (roll-StmtKind (without_names x)) w)
      (ap (λ (y : Ending). y.is_open) (sym (kind-ending x) ∙ ap kind_ending is)) r)

  -- ---- statements with their labels

  labelled : (label : Option ℕ) (k : StmtKind) (w : Bool) → formed_label label ≡ true
      → Spelled (kind_form E A S Sequence) k w → Spelled (stmt_form E A S Sequence) (make_stmt label k) w
  labelled (Some n) k w e r = left (after (number n e) (sign signs.COLON refl (after r (done refl))))
  labelled None k w e r = right (after r (done refl))

  stmt-spelled_in : StmtSpelling (stmt_form E A S Sequence) (suc d)
  stmt-spelled_in y f =
      let x = out-Stmt y in
      let is : roll-Stmt x ≡ y = roll-out-Stmt y in
      let (e, n) = opened stmt_layer x (subst (λ z. Fits stmt_is_whole stmt_depth (suc d) z) (sym is) f) in
      let (p, q) = and-parts _ _ e in
      let (label, kind) = and-parts _ _ p in
      let r =
      labelled x.label (unnamed_kind x.kind) (kind_ending x.kind).is_open label
      (kind-spelled x.kind (record { is_formed = and-true _ _ kind q; levels = n })) in
      subst (λ z. Spelled (stmt_form E A S Sequence) z (is_open y)) (sym (stmt-unnamed x) ∙ ap unnamed_stmt is)
      (subst (λ w. Spelled (stmt_form E A S Sequence) (make_stmt x.label (unnamed_kind x.kind)) w)
      (ap (λ (z : Ending). z.is_open) (sym (stmt-ending x) ∙ ap stmt_ending is)) r)

-- ---- each takes a level at least

kind-some : (k : StmtKind) → 1 ≤ kind_depth k
kind-some = some_levels kind_layer out-StmtKind roll-out-StmtKind go where
  go : (x : KindLayer) → 1 ≤ kind_levels x
  go StmtKind-F.Empty = omega arith
  go (StmtKind-F.Assign a e) = omega (arith, access-some a)
  go (StmtKind-F.Call x args) = omega arith
  go (StmtKind-F.Goto n) = omega arith
  go (StmtKind-F.Compound xs) = omega arith
  go (StmtKind-F.If c a b) = omega (arith, expr-some c)
  go (StmtKind-F.Case c xs) = omega arith
  go (StmtKind-F.While c x) = omega arith
  go (StmtKind-F.Repeat xs c) = omega arith
  go (StmtKind-F.For x first down last y) = omega arith
  go (StmtKind-F.With records x) = omega arith

pub stmt-some : (x : Stmt) → 1 ≤ stmt_depth x
stmt-some = some_levels stmt_layer out-Stmt roll-out-Stmt (λ x. kind-some x.kind)

-- ---- with any number of levels

pub stmt-spelled : (d : ℕ) → StmtSpelling (stmt_at d) d
unfolding stmt_at
stmt-spelled zero = λ x f. absurd (omega (arith, stmt-some x, f.levels))
stmt-spelled (suc d) =
    stmt-spelled_in d (expr_at (suc d)) (expr_at d) (stmt_at d) (expr-spelled (suc d)) (expr-spelled d)
    (stmt-spelled d)
