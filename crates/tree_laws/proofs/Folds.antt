-- Two folds over one tree agree where they agree on each layer whose parts do.
use Rattle.std.proofs.Common.{◌≡◌, List, Option, Some, None, refl, sym, ap, subst, ◌∙◌}
use Rattle.std.proofs.lemmas.Simd.{map-map}
use Rattle.pascal_tree.specs.declared.stmt.Stmt.{Stmt, Stmt-F, roll-Stmt, fold-Stmt}
use Rattle.pascal_tree.specs.declared.stmt.StmtKind.{StmtKind, StmtKind-F, roll-StmtKind, fold-StmtKind}
use Rattle.pascal_tree.specs.declared.stmt.Arm.{Arm, Arm-F, roll-Arm, fold-Arm}
use Rattle.pascal_tree.specs.declared.stmt.StmtKind.TheFolds.{map-StmtKind, map-Arm, map-Stmt, fold-roll-StmtKind, fold-roll-Arm, fold-roll-Stmt, ind-StmtKind, ind-Stmt}
use Rattle.dice_base.specs.declared.name.Name.{Name}
use Rattle.pascal_tree.specs.declared.decl.Decl.{Decl}
use Rattle.pascal_tree.specs.declared.decl.Heading.{Heading}
use Rattle.pascal_tree.specs.declared.decl.Block.{Block, Block-F, roll-Block, fold-Block}
use Rattle.pascal_tree.specs.declared.decl.Routine.{Routine, Routine-F, roll-Routine, fold-Routine}
use Rattle.pascal_tree.specs.declared.decl.Block.TheFolds.{map-Block, map-Routine, fold-roll-Block, fold-roll-Routine, ind-Block}

-- ---- one map after another

module _ {K A S L B T M C U : Type 0} (kind : K → L) (arm : A → B) (stmt : S → T) (kind' : L → M) (arm' : B → C)
    (stmt' : T → U) where
  map-kind : (y : StmtKind-F K A S) → map-StmtKind L B T M C U kind' arm' stmt'
      (map-StmtKind K A S L B T kind arm stmt y)
      ≡ map-StmtKind K A S M C U (λ k. kind' (kind k)) (λ a. arm' (arm a)) (λ s. stmt' (stmt s)) y
  map-kind StmtKind-F.Empty = refl
  map-kind (StmtKind-F.Assign a e) = refl
  map-kind (StmtKind-F.Call x args) = refl
  map-kind (StmtKind-F.Goto n) = refl
  map-kind (StmtKind-F.Compound xs) = ap StmtKind-F.Compound (map-map stmt' stmt xs)
  map-kind (StmtKind-F.If e x None) = refl
  map-kind (StmtKind-F.If e x (Some y)) = refl
  map-kind (StmtKind-F.Case e arms) = ap (λ (as' : List C). StmtKind-F.Case e as') (map-map arm' arm arms)
  map-kind (StmtKind-F.While e x) = refl
  map-kind (StmtKind-F.Repeat xs e) = ap (λ (ys : List U). StmtKind-F.Repeat ys e) (map-map stmt' stmt xs)
  map-kind (StmtKind-F.For x first down end body) = refl
  map-kind (StmtKind-F.With records body) = refl

-- ---- statements

moved : {X Y : Type 0} (R : X → Y → Type 0) {a b : X} {c d : Y} → a ≡ b → c ≡ d → R b d → R a c
moved R {a} {b} {c} {d} e f r = subst (λ x. R x c) (sym e) (subst (λ y. R b y) (sym f) r)

module _ {K A S L B T : Type 0}
    (kind : StmtKind-F K A S → K) (arm : Arm-F K A S → A) (stmt : Stmt-F K A S → S)
    (kind' : StmtKind-F L B T → L) (arm' : Arm-F L B T → B) (stmt' : Stmt-F L B T → T)
    (OfKinds : K → L → Type 0) (OfArms : A → B → Type 0) (OfStmts : S → T → Type 0) where
  -- what both make of one part, and that these agree
  abbrev pub Kinds : Type 0
  Kinds = (k : K) × (l : L) × OfKinds k l

  abbrev pub Arms : Type 0
  Arms = (a : A) × (b : B) × OfArms a b

  abbrev pub Stmts : Type 0
  Stmts = (s : S) × (t : T) × OfStmts s t

  -- both agree on each layer whose parts do
  pub record Agree : Type 0 where
    pub kinds : (y : StmtKind-F Kinds Arms Stmts)
        → OfKinds (kind (map-StmtKind Kinds Arms Stmts K A S (λ e. e.0) (λ e. e.0) (λ e. e.0) y))
        (kind' (map-StmtKind Kinds Arms Stmts L B T (λ e. e.1) (λ e. e.1) (λ e. e.1) y))
    pub arms : (y : Arm-F Kinds Arms Stmts)
        → OfArms (arm (map-Arm Kinds Arms Stmts K A S (λ e. e.0) (λ e. e.0) (λ e. e.0) y))
        (arm' (map-Arm Kinds Arms Stmts L B T (λ e. e.1) (λ e. e.1) (λ e. e.1) y))
    pub stmts : (y : Stmt-F Kinds Arms Stmts)
        → OfStmts (stmt (map-Stmt Kinds Arms Stmts K A S (λ e. e.0) (λ e. e.0) (λ e. e.0) y))
        (stmt' (map-Stmt Kinds Arms Stmts L B T (λ e. e.1) (λ e. e.1) (λ e. e.1) y))

  abbrev first_kind : StmtKind → K
  first_kind = fold-StmtKind K A S kind arm stmt

  abbrev first_arm : Arm → A
  first_arm = fold-Arm K A S kind arm stmt

  abbrev first_stmt : Stmt → S
  first_stmt = fold-Stmt K A S kind arm stmt

  abbrev other_kind : StmtKind → L
  other_kind = fold-StmtKind L B T kind' arm' stmt'

  abbrev other_arm : Arm → B
  other_arm = fold-Arm L B T kind' arm' stmt'

  abbrev other_stmt : Stmt → T
  other_stmt = fold-Stmt L B T kind' arm' stmt'

  abbrev KindAgrees : StmtKind → Type 0
  KindAgrees k = OfKinds (first_kind k) (other_kind k)

  abbrev ArmAgrees : Arm → Type 0
  ArmAgrees a = OfArms (first_arm a) (other_arm a)

  abbrev StmtAgrees : Stmt → Type 0
  StmtAgrees s = OfStmts (first_stmt s) (other_stmt s)

  abbrev KindSuch : Type 0
  KindSuch = (k : StmtKind) × KindAgrees k

  abbrev ArmSuch : Type 0
  ArmSuch = (a : Arm) × ArmAgrees a

  abbrev StmtSuch : Type 0
  StmtSuch = (s : Stmt) × StmtAgrees s

  abbrev kind_both : KindSuch → Kinds
  kind_both e = (first_kind e.0, other_kind e.0, e.1)

  abbrev arm_both : ArmSuch → Arms
  arm_both e = (first_arm e.0, other_arm e.0, e.1)

  abbrev stmt_both : StmtSuch → Stmts
  stmt_both e = (first_stmt e.0, other_stmt e.0, e.1)

  module _ (agree : Agree) where
    kind-agrees : (x : StmtKind-F StmtKind Arm Stmt) (y : StmtKind-F KindSuch ArmSuch StmtSuch)
        → map-StmtKind KindSuch ArmSuch StmtSuch StmtKind Arm Stmt (λ e. e.0) (λ e. e.0) (λ e. e.0) y ≡ x
        → KindAgrees (roll-StmtKind x)
    kind-agrees x y is =
        subst (λ z. KindAgrees (roll-StmtKind z)) is
        (moved OfKinds
        (fold-roll-StmtKind K A S kind arm stmt _
        ∙ ap kind (map-kind (λ e. e.0) (λ e. e.0) (λ e. e.0) first_kind first_arm first_stmt y
        ∙ sym (map-kind kind_both arm_both stmt_both (λ e. e.0) (λ e. e.0) (λ e. e.0) y)))
        (fold-roll-StmtKind L B T kind' arm' stmt' _
        ∙ ap kind' (map-kind (λ e. e.0) (λ e. e.0) (λ e. e.0) other_kind other_arm other_stmt y
        ∙ sym (map-kind kind_both arm_both stmt_both (λ e. e.1) (λ e. e.1) (λ e. e.1) y)))
        (agree.kinds (map-StmtKind KindSuch ArmSuch StmtSuch Kinds Arms Stmts kind_both arm_both stmt_both y)))

    arm-agrees : (x : Arm-F StmtKind Arm Stmt) (y : Arm-F KindSuch ArmSuch StmtSuch)
        → map-Arm KindSuch ArmSuch StmtSuch StmtKind Arm Stmt (λ e. e.0) (λ e. e.0) (λ e. e.0) y ≡ x
        → ArmAgrees (roll-Arm x)
    arm-agrees x y is =
        subst (λ z. ArmAgrees (roll-Arm z)) is
        (moved OfArms (fold-roll-Arm K A S kind arm stmt _) (fold-roll-Arm L B T kind' arm' stmt' _)
        (agree.arms (map-Arm KindSuch ArmSuch StmtSuch Kinds Arms Stmts kind_both arm_both stmt_both y)))

    stmt-agrees : (x : Stmt-F StmtKind Arm Stmt) (y : Stmt-F KindSuch ArmSuch StmtSuch)
        → map-Stmt KindSuch ArmSuch StmtSuch StmtKind Arm Stmt (λ e. e.0) (λ e. e.0) (λ e. e.0) y ≡ x
        → StmtAgrees (roll-Stmt x)
    stmt-agrees x y is =
        subst (λ z. StmtAgrees (roll-Stmt z)) is
        (moved OfStmts (fold-roll-Stmt K A S kind arm stmt _) (fold-roll-Stmt L B T kind' arm' stmt' _)
        (agree.stmts (map-Stmt KindSuch ArmSuch StmtSuch Kinds Arms Stmts kind_both arm_both stmt_both y)))

    pub agreed : (s : Stmt) → OfStmts (fold-Stmt K A S kind arm stmt s) (fold-Stmt L B T kind' arm' stmt' s)
    agreed = ind-Stmt KindAgrees ArmAgrees StmtAgrees kind-agrees arm-agrees stmt-agrees

    pub agreed_kind : (k : StmtKind) → OfKinds (fold-StmtKind K A S kind arm stmt k)
        (fold-StmtKind L B T kind' arm' stmt' k)
    agreed_kind = ind-StmtKind KindAgrees ArmAgrees StmtAgrees kind-agrees arm-agrees stmt-agrees

-- ---- blocks and routines

abbrev with_routines : {A R : Type 0} → Option Decl → List Decl → List Decl → List Decl → List R → Stmt → Block-F A R
with_routines labels consts types vars routines body =
    record { labels = labels; consts = consts; types = types; vars = vars; routines = routines; body = body }

abbrev routine_with : {A R : Type 0} → Name → Heading → Option A → Routine-F A R
routine_with name heading block = record { name = name; heading = heading; block = block }

module _ {A R B S C T : Type 0} (block : A → B) (routine : R → S) (block' : B → C) (routine' : S → T) where
  map-block : (y : Block-F A R) → map-Block B S C T block' routine' (map-Block A R B S block routine y)
      ≡ map-Block A R C T (λ b. block' (block b)) (λ r. routine' (routine r)) y
  map-block y =
      ap (λ (rs : List T). with_routines y.labels y.consts y.types y.vars rs y.body)
      (map-map routine' routine y.routines)

  routine-map : (name : Name) (heading : Heading) (block_of : Option A)
      → map-Routine B S C T block' routine' (map-Routine A R B S block routine (routine_with name heading block_of))
      ≡ map-Routine A R C T (λ b. block' (block b)) (λ r. routine' (routine r)) (routine_with name heading block_of)
  routine-map name heading None = refl
  routine-map name heading (Some b) = refl

  map-routine : (y : Routine-F A R) → map-Routine B S C T block' routine' (map-Routine A R B S block routine y)
      ≡ map-Routine A R C T (λ b. block' (block b)) (λ r. routine' (routine r)) y
  map-routine y = routine-map y.name y.heading y.block

module _ {A R B S : Type 0}
    (block : Block-F A R → A) (routine : Routine-F A R → R) (block' : Block-F B S → B) (routine' : Routine-F B S → S)
    (OfBlocks : A → B → Type 0) (OfRoutines : R → S → Type 0) where
  abbrev pub Blocks : Type 0
  Blocks = (a : A) × (b : B) × OfBlocks a b

  abbrev pub Routines : Type 0
  Routines = (r : R) × (s : S) × OfRoutines r s

  pub record AgreeOnBlocks : Type 0 where
    pub blocks : (y : Block-F Blocks Routines)
        → OfBlocks (block (map-Block Blocks Routines A R (λ e. e.0) (λ e. e.0) y))
        (block' (map-Block Blocks Routines B S (λ e. e.1) (λ e. e.1) y))
    pub routines : (y : Routine-F Blocks Routines)
        → OfRoutines (routine (map-Routine Blocks Routines A R (λ e. e.0) (λ e. e.0) y))
        (routine' (map-Routine Blocks Routines B S (λ e. e.1) (λ e. e.1) y))

  abbrev first_block : Block → A
  first_block = fold-Block A R block routine

  abbrev first_routine : Routine → R
  first_routine = fold-Routine A R block routine

  abbrev other_block : Block → B
  other_block = fold-Block B S block' routine'

  abbrev other_routine : Routine → S
  other_routine = fold-Routine B S block' routine'

  abbrev BlockAgrees : Block → Type 0
  BlockAgrees b = OfBlocks (first_block b) (other_block b)

  abbrev RoutineAgrees : Routine → Type 0
  RoutineAgrees r = OfRoutines (first_routine r) (other_routine r)

  abbrev BlockSuch : Type 0
  BlockSuch = (b : Block) × BlockAgrees b

  abbrev RoutineSuch : Type 0
  RoutineSuch = (r : Routine) × RoutineAgrees r

  abbrev block_both : BlockSuch → Blocks
  block_both e = (first_block e.0, other_block e.0, e.1)

  abbrev routine_both : RoutineSuch → Routines
  routine_both e = (first_routine e.0, other_routine e.0, e.1)

  module _ (agree : AgreeOnBlocks) where
    block-agrees : (x : Block-F Block Routine) (y : Block-F BlockSuch RoutineSuch)
        → map-Block BlockSuch RoutineSuch Block Routine (λ e. e.0) (λ e. e.0) y ≡ x → BlockAgrees (roll-Block x)
    block-agrees x y is =
        subst (λ z. BlockAgrees (roll-Block z)) is
        (moved OfBlocks
        (fold-roll-Block A R block routine _
        ∙ ap block
        (map-block (λ e. e.0) (λ e. e.0) first_block first_routine y
        ∙ sym (map-block block_both routine_both (λ e. e.0) (λ e. e.0) y)))
        (fold-roll-Block B S block' routine' _
        ∙ ap block'
        (map-block (λ e. e.0) (λ e. e.0) other_block other_routine y
        ∙ sym (map-block block_both routine_both (λ e. e.1) (λ e. e.1) y)))
        (agree.blocks (map-Block BlockSuch RoutineSuch Blocks Routines block_both routine_both y)))

    routine-agrees : (x : Routine-F Block Routine) (y : Routine-F BlockSuch RoutineSuch)
        → map-Routine BlockSuch RoutineSuch Block Routine (λ e. e.0) (λ e. e.0) y ≡ x → RoutineAgrees (roll-Routine x)
    routine-agrees x y is =
        subst (λ z. RoutineAgrees (roll-Routine z)) is
        (moved OfRoutines
        (fold-roll-Routine A R block routine _
        ∙ ap routine
        (map-routine (λ e. e.0) (λ e. e.0) first_block first_routine y
        ∙ sym (map-routine block_both routine_both (λ e. e.0) (λ e. e.0) y)))
        (fold-roll-Routine B S block' routine' _
        ∙ ap routine'
        (map-routine (λ e. e.0) (λ e. e.0) other_block other_routine y
        ∙ sym (map-routine block_both routine_both (λ e. e.1) (λ e. e.1) y)))
        (agree.routines (map-Routine BlockSuch RoutineSuch Blocks Routines block_both routine_both y)))

    pub agreed_block : (b : Block) → OfBlocks (fold-Block A R block routine b) (fold-Block B S block' routine' b)
    agreed_block = ind-Block BlockAgrees RoutineAgrees block-agrees routine-agrees
