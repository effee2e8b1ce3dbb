-- What does not depend on the names of items is the same without them.
use Rattle.std.proofs.Common.{◌≡◌, ℕ, Bool, ◌&&◌, List, [], ◌∷◌, Option, Some, None, map, refl, sym, ap, ◌∙◌}
use Rattle.std.specs.Option.{option_map}
use Rattle.std.specs.Prelude.{is_none}
use Rattle.std.proofs.lemmas.Simd.{map-map}
use Rattle.dice_base.specs.declared.name.Name.{Name}
use Rattle.pascal_tree.specs.declared.stmt.Stmt.{Stmt, Stmt-F, out-Stmt, out-roll-Stmt, roll-out-Stmt, fold-Stmt}
use Rattle.pascal_tree.specs.declared.stmt.StmtKind.{StmtKind, StmtKind-F, out-StmtKind, roll-StmtKind, out-roll-StmtKind, roll-out-StmtKind, fold-StmtKind}
use Rattle.pascal_tree.specs.declared.stmt.Arm.{Arm, Arm-F, roll-Arm, fold-Arm}
use Rattle.pascal_tree.specs.declared.stmt.StmtKind.TheFolds.{map-StmtKind, fold-roll-StmtKind, fold-roll-Arm, fold-roll-Stmt}
use Rattle.pascal_tree.specs.Declarations.{no_name}
use Rattle.pascal_tree.specs.Unnamed as without
use Rattle.pascal_tree.specs.Unnamed.{unnamed_decl, unnamed_kind, unnamed_arm, unnamed_stmt, unnamed_block, unnamed_routine}
use Rattle.std.specs.List.{list_all}
use Rattle.pascal_tree.specs.declared.decl.Decl.{Decl}
use Rattle.pascal_tree.specs.declared.decl.DeclKind.{DeclKind}
use Rattle.pascal_tree.specs.declared.decl.Heading.{Heading}
use Rattle.pascal_tree.specs.declared.decl.Block.{Block, Block-F, fold-Block}
use Rattle.pascal_tree.specs.declared.decl.Routine.{Routine, Routine-F, out-Routine, roll-Routine, roll-out-Routine, fold-Routine}
use Rattle.pascal_tree.specs.declared.decl.Block.TheFolds.{map-Routine, fold-roll-Block, fold-roll-Routine}
use Rattle.pascal_tree.specs.Statements.{make_stmt}
use Rattle.pascal_tree.specs.Programs.{make_routine}
use Rattle.pascal_tree.specs.FormedExprs.{all_formed}
use Rattle.pascal_tree.specs.Formed.{formed_kind, formed_arm, formed_stmt, formed_block, formed_routine, part_is_formed, label_part_is_formed, const_is_formed, typedef_is_formed, vars_are_formed, is_compound, is_body, stmt_is_formed, block_is_formed, routine_is_formed}
use Rattle.pascal_tree.specs.Depth.{most, depth_of_kind, depth_of_arm, depth_of_stmt, stmt_depth, depth_of_block, depth_of_routine, decl_depth, decls_depth, block_depth, routine_depth}
use Rattle.pascal_tree.specs.Openness.{Ending, ending_of_kind, ending_of_arm, ending_of_stmt, stmt_ending, paired_of_block, paired_of_routine, block_is_paired, routine_is_paired}
use Rattle.tree_laws.proofs.StmtLayers.{KindLayer, StmtLayer}
use Rattle.tree_laws.proofs.StmtSpells.{kind-unnamed, stmt-unnamed}
use Rattle.tree_laws.proofs.BlockSpells.{routine-unnamed}
use Rattle.tree_laws.proofs.Folds.{Agree, agreed, AgreeOnBlocks, agreed_block}

-- ---- statements: what is folded by steps of which none reads a name

-- each part, and what is made of it
parts-are : {A B : Type 0} (f : A → B) (ys : List ((a : A) × (b : B) × (f a ≡ b)))
    → map f (map (λ e. e.0) ys) ≡ map (λ e. e.1) ys
parts-are f [] = refl
parts-are f (y ∷ ys) = rw (y.2, parts-are f ys) refl

module _ {K A S : Type 0} (kind : StmtKind-F K A S → K) (arm : Arm-F K A S → A) (stmt : Stmt-F K A S → S) where
  abbrev of_kind : StmtKind → K
  of_kind = fold-StmtKind K A S kind arm stmt

  abbrev of_arm : Arm → A
  of_arm = fold-Arm K A S kind arm stmt

  abbrev of_stmt : Stmt → S
  of_stmt = fold-Stmt K A S kind arm stmt

  abbrev KindIs : StmtKind → K → Type 0
  KindIs k l = of_kind k ≡ l

  abbrev ArmIs : Arm → A → Type 0
  ArmIs a b = of_arm a ≡ b

  abbrev StmtIs : Stmt → S → Type 0
  StmtIs s t = of_stmt s ≡ t

  abbrev KindPart : Type 0
  KindPart = (k : StmtKind) × (l : K) × KindIs k l

  abbrev ArmPart : Type 0
  ArmPart = (a : Arm) × (b : A) × ArmIs a b

  abbrev StmtPart : Type 0
  StmtPart = (s : Stmt) × (t : S) × StmtIs s t

  kind-is : (y : StmtKind-F KindPart ArmPart StmtPart)
      → kind (map-StmtKind StmtKind Arm Stmt K A S of_kind of_arm of_stmt
      (map-StmtKind KindPart ArmPart StmtPart StmtKind Arm Stmt (λ e. e.0) (λ e. e.0) (λ e. e.0) y))
      ≡ kind (map-StmtKind KindPart ArmPart StmtPart K A S (λ e. e.1) (λ e. e.1) (λ e. e.1) y)
  kind-is StmtKind-F.Empty = refl
  kind-is (StmtKind-F.Assign a e) = refl
  kind-is (StmtKind-F.Call x args) = refl
  kind-is (StmtKind-F.Goto n) = refl
  kind-is (StmtKind-F.Compound ys) = ap (λ zs. kind (StmtKind-F.Compound zs)) (parts-are of_stmt ys)
  kind-is (StmtKind-F.If e y None) = rw y.2 refl
  kind-is (StmtKind-F.If e y (Some z)) = rw (y.2, z.2) refl
  kind-is (StmtKind-F.Case e ys) = ap (λ zs. kind (StmtKind-F.Case e zs)) (parts-are of_arm ys)
  kind-is (StmtKind-F.While e y) = rw y.2 refl
  kind-is (StmtKind-F.Repeat ys e) = ap (λ zs. kind (StmtKind-F.Repeat zs e)) (parts-are of_stmt ys)
  kind-is (StmtKind-F.For x first down last y) = rw y.2 refl
  kind-is (StmtKind-F.With records y) = rw y.2 refl

  module _
      (nameless : (name other : Name) (label : Option ℕ) (k : K)
      → stmt (record { name = name; label = label; kind = k }) ≡ stmt
      (record { name = other; label = label; kind = k })) where
    same : Agree roll-StmtKind roll-Arm without.in_stmt kind arm stmt KindIs ArmIs StmtIs
    same = record {
      kinds = λ y. fold-roll-StmtKind K A S kind arm stmt _ ∙ kind-is y;
      arms = λ y. fold-roll-Arm K A S kind arm stmt _
          ∙ ap (λ b. arm (record { constants = y.constants; body = b })) y.body.2;
      stmts = λ y.
          fold-roll-Stmt K A S kind arm stmt _
          ∙ ap (λ k. stmt (record { name = no_name; label = y.label; kind = k })) y.kind.2
          ∙ nameless no_name y.name y.label y.kind.1;
    }

    pub stmt-nameless : (s : Stmt) → fold-Stmt K A S kind arm stmt (unnamed_stmt s) ≡ fold-Stmt K A S kind arm stmt s
    unfolding unnamed_stmt
    stmt-nameless s = agreed roll-StmtKind roll-Arm without.in_stmt kind arm stmt KindIs ArmIs StmtIs same s

-- ---- blocks and routines: what is folded by steps of which none reads a name

abbrev block_layer : {B R : Type 0} → Option Decl → List Decl → List Decl → List Decl → List R → Stmt → Block-F B R
block_layer labels consts types vars routines body =
    record { labels = labels; consts = consts; types = types; vars = vars; routines = routines; body = body }

module _ {B R : Type 0} (block : Block-F B R → B) (routine : Routine-F B R → R) where
  abbrev of_block : Block → B
  of_block = fold-Block B R block routine

  abbrev of_routine : Routine → R
  of_routine = fold-Routine B R block routine

  abbrev BlockIs : Block → B → Type 0
  BlockIs b c = of_block b ≡ c

  abbrev RoutineIs : Routine → R → Type 0
  RoutineIs r s = of_routine r ≡ s

  -- none reads the names of declarations, of the statements of a body, and of a routine
  pub record ReadsNoName : Type 0 where
    pub blocks : (labels : Option Decl) (consts types vars : List Decl) (routines : List R) (body : Stmt)
        → block (block_layer (option_map unnamed_decl labels) (map unnamed_decl consts) (map unnamed_decl types)
        (map unnamed_decl vars) routines (unnamed_stmt body))
        ≡ block (block_layer labels consts types vars routines body)
    pub routines : (name other : Name) (heading : Heading) (b : Option B)
        → routine (record { name = name; heading = heading; block = b }) ≡ routine
        (record { name = other; heading = heading; block = b })

  module _ (nameless : ReadsNoName) where
    routine-same : (name : Name) (heading : Heading) (block_of : Option ((b : Block) × (c : B) × BlockIs b c))
        → RoutineIs (without.in_routine
        (map-Routine _ ((r : Routine) × (s : R) × RoutineIs r s) Block Routine (λ e. e.0) (λ e. e.0)
        (record { name = name; heading = heading; block = block_of })))
        (routine (map-Routine _ ((r : Routine) × (s : R) × RoutineIs r s) B R (λ e. e.1) (λ e. e.1)
        (record { name = name; heading = heading; block = block_of })))
    routine-same name heading None =
        fold-roll-Routine B R block routine _ ∙ nameless.routines no_name name heading None
    routine-same name heading (Some y) =
        fold-roll-Routine B R block routine _
        ∙ ap (λ b. routine (record { name = no_name; heading = heading; block = Some b })) y.2
        ∙ nameless.routines no_name name heading (Some y.1)

    same_blocks : AgreeOnBlocks without.in_block without.in_routine block routine BlockIs RoutineIs
    same_blocks = record {
      blocks = λ y.
          fold-roll-Block B R block routine _
          ∙ ap (λ rs. block (block_layer (option_map unnamed_decl y.labels) (map unnamed_decl y.consts)
          (map unnamed_decl y.types) (map unnamed_decl y.vars) rs (unnamed_stmt y.body)))
          (parts-are of_routine y.routines)
          ∙ nameless.blocks y.labels y.consts y.types y.vars (map (λ e. e.1) y.routines) y.body;
      routines = λ y. routine-same y.name y.heading y.block;
    }

    pub block-nameless : (b : Block) → fold-Block B R block routine (unnamed_block b) ≡ fold-Block B R block routine b
    unfolding unnamed_block
    block-nameless b = agreed_block without.in_block without.in_routine block routine BlockIs RoutineIs same_blocks b

    routine-at : (name : Name) (heading : Heading) (o : Option Block)
        → of_routine (make_routine heading (option_map unnamed_block o)) ≡ of_routine
        (roll-Routine (record { name = name; heading = heading; block = o }))
    routine-at name heading None =
        fold-roll-Routine B R block routine _ ∙ nameless.routines no_name name heading None
        ∙ sym (fold-roll-Routine B R block routine _)
    routine-at name heading (Some b) =
        fold-roll-Routine B R block routine _
        ∙ ap (λ c. routine (record { name = no_name; heading = heading; block = Some c })) (block-nameless b)
        ∙ nameless.routines no_name name heading (Some (of_block b))
        ∙ sym (fold-roll-Routine B R block routine _)

    pub routine-nameless : (r : Routine)
        → fold-Routine B R block routine (unnamed_routine r) ≡ fold-Routine B R block routine r
    routine-nameless r =
        let x = out-Routine r in
        ap (λ s. of_routine (unnamed_routine s)) (sym (roll-out-Routine r))
        ∙ ap of_routine (routine-unnamed x.name x.heading x.block)
        ∙ routine-at x.name x.heading x.block
        ∙ ap of_routine (roll-out-Routine r)

-- ---- that a statement is formed, its levels, and how it ends

pub stmt-formed : (x : Stmt) → stmt_is_formed (unnamed_stmt x) ≡ stmt_is_formed x
unfolding stmt_is_formed
stmt-formed x = stmt-nameless formed_kind formed_arm formed_stmt (λ n m label k. refl) x

pub stmt-levels : (x : Stmt) → stmt_depth (unnamed_stmt x) ≡ stmt_depth x
unfolding stmt_depth
stmt-levels x = stmt-nameless depth_of_kind depth_of_arm depth_of_stmt (λ n m label k. refl) x

pub stmt-ends : (x : Stmt) → stmt_ending (unnamed_stmt x) ≡ stmt_ending x
unfolding stmt_ending
stmt-ends x = stmt-nameless ending_of_kind ending_of_arm ending_of_stmt (λ n m label k. refl) x

-- ---- the same of a block and a program

part-formed : (formed : DeclKind → Bool) (ds : List Decl)
    → part_is_formed formed (map unnamed_decl ds) ≡ part_is_formed formed ds
part-formed formed ds = ap all_formed (map-map (λ (d : Decl). formed d.kind) unnamed_decl ds)

decls-levels : (ds : List Decl) → decls_depth (map unnamed_decl ds) ≡ decls_depth ds
decls-levels ds = ap most (map-map (λ (d : Decl). decl_depth d.kind) unnamed_decl ds)

labels-formed : (o : Option Decl) → label_part_is_formed (option_map unnamed_decl o) ≡ label_part_is_formed o
labels-formed None = refl
labels-formed (Some d) = refl

compound-same : (x : KindLayer) → is_compound (out-StmtKind (unnamed_kind (roll-StmtKind x))) ≡ is_compound x
compound-same x =
    ap (λ k. is_compound (out-StmtKind k)) (kind-unnamed x) ∙ ap is_compound (out-roll-StmtKind _) ∙ go x where
      go : (x : KindLayer)
          → is_compound (map-StmtKind StmtKind Arm Stmt StmtKind Arm Stmt unnamed_kind unnamed_arm unnamed_stmt x) ≡
          is_compound x
      go StmtKind-F.Empty = refl
      go (StmtKind-F.Assign a e) = refl
      go (StmtKind-F.Call y args) = refl
      go (StmtKind-F.Goto n) = refl
      go (StmtKind-F.Compound ys) = refl
      go (StmtKind-F.If e y z) = refl
      go (StmtKind-F.Case e ys) = refl
      go (StmtKind-F.While e y) = refl
      go (StmtKind-F.Repeat ys e) = refl
      go (StmtKind-F.For v first down last y) = refl
      go (StmtKind-F.With records y) = refl

abbrev is_body_layer : StmtLayer → Bool
is_body_layer x = is_none x.label && is_compound (out-StmtKind x.kind)

body-same : (x : Stmt) → is_body (unnamed_stmt x) ≡ is_body x
body-same x =
    let y = out-Stmt x in
    let is : unnamed_stmt x ≡ make_stmt y.label (unnamed_kind y.kind) =
    ap unnamed_stmt (sym (roll-out-Stmt x)) ∙ stmt-unnamed y in
    ap is_body is
    ∙ ap is_body_layer (out-roll-Stmt (record { name = no_name; label = y.label; kind = unnamed_kind y.kind }))
    ∙ ap (λ b. is_none y.label && b)
    (ap (λ k. is_compound (out-StmtKind (unnamed_kind k))) (sym (roll-out-StmtKind y.kind))
    ∙ compound-same (out-StmtKind y.kind))

formed_reads : ReadsNoName formed_block formed_routine
formed_reads = record {
  blocks = λ labels consts types vars routines body.
      rw (
        labels-formed labels,
        part-formed const_is_formed consts,
        part-formed typedef_is_formed types,
        part-formed
            vars_are_formed vars,
        body-same body,
        stmt-formed body,
      ) refl;
  routines = λ n m heading o. refl;
}

depth_reads : ReadsNoName depth_of_block depth_of_routine
depth_reads = record {
  blocks = λ labels consts types vars routines body. rw
      (decls-levels types, decls-levels vars, stmt-levels body) refl;
  routines = λ n m heading o. refl;
}

paired_reads : ReadsNoName paired_of_block paired_of_routine
paired_reads = record {
  blocks = λ labels consts types vars routines body. ap (λ (e : Ending). list_all (λ p. p) routines && e.is_paired)
      (stmt-ends body);
  routines = λ n m heading o. refl;
}

pub block-formed : (b : Block) → block_is_formed (unnamed_block b) ≡ block_is_formed b
unfolding block_is_formed
block-formed b = block-nameless formed_block formed_routine formed_reads b

pub block-levels : (b : Block) → block_depth (unnamed_block b) ≡ block_depth b
unfolding block_depth
block-levels b = block-nameless depth_of_block depth_of_routine depth_reads b

pub block-paired : (b : Block) → block_is_paired (unnamed_block b) ≡ block_is_paired b
unfolding block_is_paired
block-paired b = block-nameless paired_of_block paired_of_routine paired_reads b

pub routine-formed : (r : Routine) → routine_is_formed (unnamed_routine r) ≡ routine_is_formed r
unfolding block_is_formed routine_is_formed
routine-formed r = routine-nameless formed_block formed_routine formed_reads r

pub routine-levels : (r : Routine) → routine_depth (unnamed_routine r) ≡ routine_depth r
unfolding block_depth routine_depth
routine-levels r = routine-nameless depth_of_block depth_of_routine depth_reads r

pub routine-paired : (r : Routine) → routine_is_paired (unnamed_routine r) ≡ routine_is_paired r
unfolding block_is_paired routine_is_paired
routine-paired r = routine-nameless paired_of_block paired_of_routine paired_reads r
