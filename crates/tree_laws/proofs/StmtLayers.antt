-- Whether a statement is formed, how many levels it takes and how it ends, by the same of its parts.
use Rattle.std.specs.Prelude.{◌≡◌, ℕ, Bool, true, ◌&&◌, List, [], ◌∷◌, map}
use Rattle.std.proofs.Common.{refl, ap}
use Rattle.std.specs.List.{list_all}
use Rattle.pascal_tree.specs.declared.stmt.Stmt.{Stmt, Stmt-F, roll-Stmt, map-Stmt}
use Rattle.pascal_tree.specs.declared.stmt.StmtKind.{StmtKind, StmtKind-F, roll-StmtKind, map-StmtKind}
use Rattle.pascal_tree.specs.declared.stmt.Arm.{Arm, Arm-F, roll-Arm, map-Arm}
use Rattle.pascal_tree.specs.declared.stmt.StmtKind.TheFolds.{fold-roll-StmtKind, fold-roll-Arm, fold-roll-Stmt}
use Rattle.pascal_tree.specs.FormedExprs.{all_formed, some_formed}
use Rattle.pascal_tree.specs.Formed.{formed_kind, formed_arm, formed_stmt, kind_is_formed, arm_is_formed, stmt_is_formed}
use Rattle.pascal_tree.specs.Openness.{Ending, ending_of_kind, ending_of_arm, ending_of_stmt, kind_ending, arm_ending, stmt_ending}
use Rattle.pascal_tree.specs.Depth.{depth_of_kind, depth_of_arm, depth_of_stmt, kind_depth, arm_depth, stmt_depth}
use Rattle.expression_laws.proofs.Words.{and-parts, and-true}
use Rattle.expression_laws.proofs.Layers.{Layer}

-- ---- a layer of each, with trees in the places of its parts

abbrev pub KindLayer : Type 0
KindLayer = StmtKind-F StmtKind Arm Stmt

abbrev pub ArmLayer : Type 0
ArmLayer = Arm-F StmtKind Arm Stmt

abbrev pub StmtLayer : Type 0
StmtLayer = Stmt-F StmtKind Arm Stmt

-- ---- it is formed, and each `else` in it belongs to its own `if`

-- how it ends
abbrev pub paired : Ending → Bool
paired e = e.is_paired

abbrev pub kind_is_whole : StmtKind → Bool
kind_is_whole k = kind_is_formed k && (kind_ending k).is_paired

abbrev pub arm_is_whole : Arm → Bool
arm_is_whole a = arm_is_formed a && (arm_ending a).is_paired

abbrev pub stmt_is_whole : Stmt → Bool
stmt_is_whole x = stmt_is_formed x && (stmt_ending x).is_paired

-- ---- what a layer says

abbrev pub kind_formed : KindLayer → Bool
kind_formed x =
    formed_kind (map-StmtKind StmtKind Arm Stmt Bool Bool Bool kind_is_formed arm_is_formed stmt_is_formed x)

abbrev pub kind_ends : KindLayer → Ending
kind_ends x =
    ending_of_kind (map-StmtKind StmtKind Arm Stmt Ending Ending Ending kind_ending arm_ending stmt_ending x)

abbrev pub kind_levels : KindLayer → ℕ
kind_levels x = depth_of_kind (map-StmtKind StmtKind Arm Stmt ℕ ℕ ℕ kind_depth arm_depth stmt_depth x)

abbrev pub arm_formed : ArmLayer → Bool
arm_formed x = formed_arm (map-Arm StmtKind Arm Stmt Bool Bool Bool kind_is_formed arm_is_formed stmt_is_formed x)

abbrev pub stmt_formed : StmtLayer → Bool
stmt_formed x = formed_stmt (map-Stmt StmtKind Arm Stmt Bool Bool Bool kind_is_formed arm_is_formed stmt_is_formed x)

pub both : {a b c d : Bool} → a ≡ c → b ≡ d → (a && b) ≡ (c && d)
both e f = rw (e, f) refl

pub kind-ending : (x : KindLayer) → kind_ending (roll-StmtKind x) ≡ kind_ends x
unfolding kind_ending arm_ending stmt_ending
kind-ending x = fold-roll-StmtKind Ending Ending Ending ending_of_kind ending_of_arm ending_of_stmt x

pub arm-ending : (x : ArmLayer) → arm_ending (roll-Arm x) ≡ stmt_ending x.body
unfolding kind_ending arm_ending stmt_ending
arm-ending x = fold-roll-Arm Ending Ending Ending ending_of_kind ending_of_arm ending_of_stmt x

pub stmt-ending : (x : StmtLayer) → stmt_ending (roll-Stmt x) ≡ kind_ending x.kind
unfolding kind_ending arm_ending stmt_ending
stmt-ending x = fold-roll-Stmt Ending Ending Ending ending_of_kind ending_of_arm ending_of_stmt x

pub kind-formed : (x : KindLayer) → kind_is_formed (roll-StmtKind x) ≡ kind_formed x
unfolding kind_is_formed arm_is_formed stmt_is_formed
kind-formed x = fold-roll-StmtKind Bool Bool Bool formed_kind formed_arm formed_stmt x

pub arm-formed : (x : ArmLayer) → arm_is_formed (roll-Arm x) ≡ arm_formed x
unfolding kind_is_formed arm_is_formed stmt_is_formed
arm-formed x = fold-roll-Arm Bool Bool Bool formed_kind formed_arm formed_stmt x

pub stmt-formed : (x : StmtLayer) → stmt_is_formed (roll-Stmt x) ≡ stmt_formed x
unfolding kind_is_formed arm_is_formed stmt_is_formed
stmt-formed x = fold-roll-Stmt Bool Bool Bool formed_kind formed_arm formed_stmt x

pub kind-depth : (x : KindLayer) → kind_depth (roll-StmtKind x) ≡ kind_levels x
unfolding kind_depth arm_depth stmt_depth
kind-depth x = fold-roll-StmtKind ℕ ℕ ℕ depth_of_kind depth_of_arm depth_of_stmt x

pub arm-depth : (x : ArmLayer) → arm_depth (roll-Arm x) ≡ stmt_depth x.body
unfolding kind_depth arm_depth stmt_depth
arm-depth x = fold-roll-Arm ℕ ℕ ℕ depth_of_kind depth_of_arm depth_of_stmt x

pub stmt-depth : (x : StmtLayer) → stmt_depth (roll-Stmt x) ≡ kind_depth x.kind
unfolding kind_depth arm_depth stmt_depth
stmt-depth x = fold-roll-Stmt ℕ ℕ ℕ depth_of_kind depth_of_arm depth_of_stmt x

pub kind_layer : Layer kind_is_whole kind_depth roll-StmtKind (λ x. kind_formed x && (kind_ends x).is_paired)
    kind_levels
kind_layer = record {
  formed_is = λ x. both (kind-formed x) (ap (λ (e : Ending). e.is_paired) (kind-ending x));
  depth_is = kind-depth;
}

pub arm_layer : Layer arm_is_whole arm_depth roll-Arm (λ x. arm_formed x && (stmt_ending x.body).is_paired)
    (λ x. stmt_depth x.body)
arm_layer = record {
  formed_is = λ x. both (arm-formed x) (ap (λ (e : Ending). e.is_paired) (arm-ending x));
  depth_is = arm-depth;
}

pub stmt_layer : Layer stmt_is_whole stmt_depth roll-Stmt (λ x. stmt_formed x && (kind_ending x.kind).is_paired)
    (λ x. kind_depth x.kind)
stmt_layer = record {
  formed_is = λ x. both (stmt-formed x) (ap (λ (e : Ending). e.is_paired) (stmt-ending x));
  depth_is = stmt-depth;
}

-- ---- each of a list is formed, and each is such as the test says, where each is both

module _ {A B : Type 0} (formed : A → Bool) (part : A → B) (test : B → Bool) where
  abbrev pub is_both : A → Bool
  is_both a = formed a && test (part a)

  pub all-parts : (xs : List A) → all_formed (map is_both xs) ≡ true
      → (all_formed (map formed xs) ≡ true) × (list_all test (map part xs) ≡ true)
  all-parts [] e = (refl, refl)
  all-parts (x ∷ xs) e =
      let (p, q) = and-parts _ _ e in
      let (f, g) = and-parts _ _ p in
      let r = all-parts xs q in
      (and-true _ _ f r.0, and-true _ _ g r.1)

  pub some-parts : (xs : List A) → some_formed (map is_both xs) ≡ true
      → (some_formed (map formed xs) ≡ true) × (list_all test (map part xs) ≡ true)
  some-parts [] e = absurd cc
  some-parts (x ∷ xs) e = all-parts (x ∷ xs) e

  pub all-whole : (xs : List A) → all_formed (map formed xs) ≡ true → list_all test (map part xs) ≡ true
      → all_formed (map is_both xs) ≡ true
  all-whole [] e f = refl
  all-whole (x ∷ xs) e f =
      let (p, q) = and-parts _ _ e in
      let (r, s) = and-parts _ _ f in
      and-true _ _ (and-true _ _ p r) (all-whole xs q s)

  pub some-whole : (xs : List A) → some_formed (map formed xs) ≡ true → list_all test (map part xs) ≡ true
      → some_formed (map is_both xs) ≡ true
  some-whole [] e f = absurd cc
  some-whole (x ∷ xs) e f = all-whole (x ∷ xs) e f
