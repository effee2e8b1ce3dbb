-- A statement that a text spells is formed, has no more levels than it is spelled with, and is open as its flag says.
use Rattle.std.specs.Prelude.{◌≡◌, ℕ, ◌≤◌, zero, suc, Bool, true, false, not, List, Option, Some, None}
use Rattle.std.proofs.Common.{refl, sym, ap, ◌∙◌, arith}
use Rattle.dice_base.specs.Forms.{Form, list_of}
use Rattle.pascal_tree.specs.Classes.{comma_class, semicolon_class}
use Rattle.pascal_tree.specs.declared.expr.Expr.{Expr}
use Rattle.pascal_tree.specs.declared.stmt.Stmt.{Stmt}
use Rattle.pascal_tree.specs.declared.stmt.StmtKind.{StmtKind, StmtKind-F, roll-StmtKind}
use Rattle.pascal_tree.specs.declared.stmt.StmtKind.TheVariants as s
use Rattle.pascal_tree.specs.declared.stmt.StmtKind.TheVariants.{rolls-Empty, rolls-Assign, rolls-Call, rolls-Goto, rolls-Compound, rolls-If, rolls-Case, rolls-While, rolls-Repeat, rolls-For, rolls-With}
use Rattle.pascal_tree.specs.Expressions.{expr_at}
use Rattle.pascal_tree.specs.Declarations.{no_name}
use Rattle.pascal_tree.specs.Statements.{make_stmt, assign_form, call_form, compound_in, else_form, if_in, arm_form, case_in, while_in, repeat_in, for_in, with_in, kind_form, stmt_form, stmt_at}
use Rattle.pascal_tree.specs.FormedExprs.{expr_is_formed}
use Rattle.pascal_tree.specs.Formed.{formed_label, arm_is_formed, stmt_is_formed}
use Rattle.pascal_tree.specs.Openness.{Ending, kind_ending, arm_ending, stmt_ending}
use Rattle.pascal_tree.specs.Depth.{expr_depth, kind_depth, arm_depth, stmt_depth}
use Rattle.expression_laws.proofs.Words.{and-parts, and-true}
use Rattle.expression_laws.proofs.Gives.{Fits, SomeFit, Gives, Fitting, give, refused, choice, behind, weaken, operator, mark, identifier, number, list, ended, flat_list}
use Rattle.expression_laws.proofs.Layers.{made, variant}
use Rattle.expression_laws.proofs.ExprGives.{access-gives, args-gives, expr-gives}
use Rattle.tree_laws.proofs.TypeGives.{constant-gives}
use Rattle.tree_laws.proofs.StmtLayers.{paired, KindLayer, kind_is_whole, arm_is_whole, stmt_is_whole, kind_formed, kind_ends, kind_levels, kind-ending, stmt-ending, kind_layer, arm_layer, stmt_layer, some-parts}

-- ---- a kind, and a statement, that is whole, has at most so many levels, and is open or not

pub record KindGiven (d : ℕ) (k : StmtKind) (w : Bool) : Type 0 where
  pub fits : Fits kind_is_whole kind_depth d k
  pub flag : w ≡ (kind_ending k).is_open

pub record StmtGiven (d : ℕ) (x : Stmt) (w : Bool) : Type 0 where
  pub fits : Fits stmt_is_whole stmt_depth d x
  pub flag : w ≡ (stmt_ending x).is_open

given : {d : ℕ} {k : StmtKind} {w : Bool} (x : KindLayer) → roll-StmtKind x ≡ k → kind_formed x ≡ true
    → (kind_ends x).is_paired ≡ true → kind_levels x ≤ d → w ≡ (kind_ends x).is_open → KindGiven d k w
given {d} {k} {w} x is e f n flag = record {
  fits = variant kind_layer x is (and-true _ _ e f) n;
  flag = flag ∙ ap (λ (y : Ending). y.is_open) (sym (kind-ending x) ∙ ap kind_ending is);
}

pub stmt-given : {d : ℕ} (label : Option ℕ) (k : StmtKind) (w : Bool) → formed_label label ≡ true → KindGiven d k w
    → StmtGiven d (make_stmt label k) w
stmt-given label k w e g =
    let (p, q) = and-parts _ _ g.fits.is_formed in
    record {
      fits = made stmt_layer (record { name = no_name; label = label; kind = k })
          (and-true _ _ (and-true _ _ e p) q) g.fits.levels;
      flag = g.flag ∙ ap (λ (y : Ending). y.is_open)
          (sym (stmt-ending (record { name = no_name; label = label; kind = k })));
    }

-- ---- where it holds of expressions and of inner statements

module _ (d : ℕ) (E A : Form Expr) (S : Form Stmt)
    (here : Gives E (Fitting expr_is_formed expr_depth (suc d)))
    (further : Gives A (Fitting expr_is_formed expr_depth d))
    (inner : Gives S (StmtGiven d)) where
  stmts : Gives S (Fitting stmt_is_whole stmt_depth d)
  stmts = weaken inner (λ x w g. g.fits)

  abbrev Sequence : Form (List Stmt)
  Sequence = list_of semicolon_class S

  sequence : Gives Sequence (λ xs w. SomeFit stmt_is_whole stmt_depth d xs)
  sequence = list semicolon_class stmts

  pub compound-of : (xs : List Stmt) → SomeFit stmt_is_whole stmt_depth d xs → KindGiven (suc d) (s.Compound xs) false
  compound-of xs f =
      let (p, q) = some-parts stmt_is_formed stmt_ending paired xs f.is_formed in
      given (StmtKind-F.Compound xs) (rolls-Compound xs) p q (omega (arith, f.levels)) refl

  pub sequence-gives : {Q : StmtKind → Bool → Type 0}
      → ((xs : List Stmt) → SomeFit stmt_is_whole stmt_depth d xs → Q (s.Compound xs) false)
      → Gives (compound_in E A S Sequence) Q
  sequence-gives f = behind sequence (λ xs w g. mark (give (f xs g)))

  assign-gives : Gives (assign_form E A) (KindGiven (suc d))
  assign-gives =
      behind (access-gives d A further) (λ a w f. mark (behind here (λ e v g.
      give (given (StmtKind-F.Assign a e) (rolls-Assign a e) (and-true _ _ f.is_formed g.is_formed) refl
      (omega (arith, f.levels, g.levels)) refl))))

  call-gives : Gives (call_form A) (KindGiven (suc d))
  call-gives =
      behind identifier (λ x w e. behind (args-gives d A further) (λ args v f.
      give (given (StmtKind-F.Call x args) (rolls-Call x args) (and-true _ _ e f.is_formed) refl
      (omega (arith, f.levels)) refl)))

  -- ---- `if`

  if-none : (c : Expr) (a : Stmt) (w : Bool) → Fits expr_is_formed expr_depth (suc d) c → StmtGiven d a w
      → KindGiven (suc d) (s.If c a None) true
  if-none c a w f g =
      let (p, q) = and-parts _ _ g.fits.is_formed in
      given (StmtKind-F.If c a None) (rolls-If c a None) (and-true _ _ (and-true _ _ f.is_formed p) refl) q
      (omega (arith, f.levels, g.fits.levels)) refl

  if-some : (c : Expr) (a b : Stmt) (v : Bool) → Fits expr_is_formed expr_depth (suc d) c → StmtGiven d a false
      → StmtGiven d b v → KindGiven (suc d) (s.If c a (Some b)) v
  if-some c a b v f g h =
      let (p, q) = and-parts _ _ g.fits.is_formed in
      let (r, t) = and-parts _ _ h.fits.is_formed in
      given (StmtKind-F.If c a (Some b)) (rolls-If c a (Some b)) (and-true _ _ (and-true _ _ f.is_formed p) r)
      (and-true _ _ (and-true _ _ q (ap not (sym g.flag))) t)
      (omega (arith, f.levels, g.fits.levels, h.fits.levels)) h.flag

  else-gives : (c : Expr) (a : Stmt) (w : Bool) → Fits expr_is_formed expr_depth (suc d) c → StmtGiven d a w
      → Gives (else_form E A S Sequence c a w) (KindGiven (suc d))
  else-gives c a true f g = give (if-none c a true f g)
  else-gives c a false f g =
      choice (mark (behind inner (λ b v h. give (if-some c a b v f g h)))) (give (if-none c a false f g))

  if-gives : Gives (if_in E A S Sequence) (KindGiven (suc d))
  if-gives = behind here (λ c w f. mark (behind inner (λ a v g. else-gives c a v f g)))

  -- ---- `case`

  arm-gives : Gives (arm_form E A S Sequence) (Fitting arm_is_whole arm_depth d)
  arm-gives =
      behind (flat_list comma_class constant-gives) (λ constants w e. mark (behind stmts (λ x v f.
      give
      (let (p, q) = and-parts _ _ f.is_formed in
      made arm_layer (record { constants = constants; body = x }) (and-true _ _ (and-true _ _ e p) q) f.levels))))

  case-gives : Gives (case_in E A S Sequence) (KindGiven (suc d))
  case-gives =
      behind here (λ e w f. mark (behind (ended semicolon_class arm-gives) (λ arms v g. mark (give
      (let (p, q) = some-parts arm_is_formed arm_ending paired arms g.is_formed in
      given (StmtKind-F.Case e arms) (rolls-Case e arms) (and-true _ _ f.is_formed p) q
      (omega (arith, f.levels, g.levels)) refl)))))

  -- ---- loops and `with`

  while-gives : Gives (while_in E A S Sequence) (KindGiven (suc d))
  while-gives =
      behind here (λ c w f. mark (behind inner (λ x v g. give
      (let (p, q) = and-parts _ _ g.fits.is_formed in
      given (StmtKind-F.While c x) (rolls-While c x) (and-true _ _ f.is_formed p) q
      (omega (arith, f.levels, g.fits.levels)) g.flag))))

  repeat-gives : Gives (repeat_in E A S Sequence) (KindGiven (suc d))
  repeat-gives =
      behind sequence (λ xs w f. mark (behind here (λ c v g. give
      (let (p, q) = some-parts stmt_is_formed stmt_ending paired xs f.is_formed in
      given (StmtKind-F.Repeat xs c) (rolls-Repeat xs c) (and-true _ _ p g.is_formed) q
      (omega (arith, f.levels, g.levels)) refl))))

  for-gives : Gives (for_in E A S Sequence) (KindGiven (suc d))
  for-gives =
      behind identifier (λ x w e. mark
      (behind here (λ first v f. behind operator
      (λ down u any. behind here (λ last t g. mark (behind inner (λ y r h. give
      (let (p, q) = and-parts _ _ h.fits.is_formed in
      given (StmtKind-F.For x first down last y) (rolls-For x first down last y)
      (and-true _ _ (and-true _ _ (and-true _ _ e f.is_formed) g.is_formed) p) q
      (omega (arith, f.levels, g.levels, h.fits.levels)) h.flag))))))))

  with-gives : Gives (with_in E A S Sequence) (KindGiven (suc d))
  with-gives =
      behind (list comma_class (access-gives d A further)) (λ records w f. mark (behind inner (λ x v g. give
      (let (p, q) = and-parts _ _ g.fits.is_formed in
      given (StmtKind-F.With records x) (rolls-With records x) (and-true _ _ f.is_formed p) q
      (omega (arith, f.levels, g.fits.levels)) g.flag))))

  -- ---- kinds, and statements with their labels

  kind-gives : Gives (kind_form E A S Sequence) (KindGiven (suc d))
  kind-gives =
      choice (mark (sequence-gives compound-of))
      (choice (mark if-gives)
      (choice (mark case-gives)
      (choice (mark while-gives)
      (choice (mark repeat-gives)
      (choice (mark for-gives)
      (choice (mark with-gives)
      (choice (mark (behind number
      (λ n w e. give (given (StmtKind-F.Goto n) (rolls-Goto n) e refl (omega arith) refl))))
      (choice (choice assign-gives call-gives)
      (give (given StmtKind-F.Empty rolls-Empty refl refl (omega arith) refl))))))))))

  stmt-gives_in : Gives (stmt_form E A S Sequence) (StmtGiven (suc d))
  stmt-gives_in =
      choice (behind number (λ n w e. mark (behind kind-gives (λ k v g. give (stmt-given (Some n) k v e g)))))
      (behind kind-gives (λ k v g. give (stmt-given None k v refl g)))

-- ---- with any number of levels

pub stmt-gives : (d : ℕ) → Gives (stmt_at d) (StmtGiven d)
unfolding stmt_at
stmt-gives zero = refused
stmt-gives (suc d) =
    stmt-gives_in d (expr_at (suc d)) (expr_at d) (stmt_at d) (expr-gives (suc d)) (expr-gives d) (stmt-gives d)
