-- What each item has from its parts, every item has.
use Rattle.std.proofs.Common.{List, [], ◌∷◌, ◌++◌, Option, Some, None, map, sym, subst, option_to_list}
use Rattle.std.specs.List.{AllByRecursion}
use Rattle.pascal_tree.specs.declared.stmt.Stmt.{Stmt, Stmt-F, roll-Stmt, out-roll-Stmt}
use Rattle.pascal_tree.specs.declared.stmt.StmtKind.{StmtKind, StmtKind-F, out-StmtKind, roll-StmtKind, out-roll-StmtKind}
use Rattle.pascal_tree.specs.declared.stmt.Arm.{Arm, Arm-F, roll-Arm, out-roll-Arm}
use Rattle.pascal_tree.specs.declared.stmt.StmtKind.TheFolds.{map-StmtKind, map-Arm, map-Stmt, ind-Stmt}
use Rattle.dice_base.specs.declared.name.Name.{Name}
use Rattle.pascal_tree.specs.declared.decl.Heading.{Heading}
use Rattle.pascal_tree.specs.declared.decl.Decl.{Decl}
use Rattle.pascal_tree.specs.declared.decl.Block.{Block, Block-F, roll-Block, out-roll-Block}
use Rattle.pascal_tree.specs.declared.decl.Routine.{Routine, Routine-F, roll-Routine, out-roll-Routine}
use Rattle.pascal_tree.specs.declared.decl.Block.TheFolds.{map-Block, map-Routine, ind-Block}
use Rattle.pascal_tree.specs.declared.program.Tree.{Tree}
use Rattle.pascal_tree.specs.Paths.{ItemValue, OfProgram, OfDecl, OfRoutine, OfStmt, kind_parts, arm_body, stmt_children, block_children, any_children, item_children}

-- an item has it where its parts do
abbrev pub FromParts : (ItemValue → Type 0) → Type 0
FromParts P = (x : ItemValue) → AllByRecursion P (item_children x) → P x

all_images : {A B : Type 0} → (P : B → Type 0) (f : A → B) (xs : List A) → AllByRecursion (λ x. P (f x)) xs → AllByRecursion P (map f xs)
all_images P f [] h = tt
all_images P f (x ∷ xs) h = (h.0, all_images P f xs h.1)

-- ---- each statement

abbrev StmtHas : (ItemValue → Type 0) → Stmt → Type 0
StmtHas P s = P (OfStmt s)

abbrev KindHas : (ItemValue → Type 0) → StmtKind → Type 0
KindHas P k = AllByRecursion (StmtHas P) (kind_parts arm_body (out-StmtKind k))

abbrev ArmHas : (ItemValue → Type 0) → Arm → Type 0
ArmHas P a = StmtHas P (arm_body a)

abbrev Kinds : (ItemValue → Type 0) → Type 0
Kinds P = (k : StmtKind) × KindHas P k

abbrev Arms : (ItemValue → Type 0) → Type 0
Arms P = (a : Arm) × ArmHas P a

abbrev Stmts : (ItemValue → Type 0) → Type 0
Stmts P = (s : Stmt) × StmtHas P s

stmts_have : (P : ItemValue → Type 0) (es : List (Stmts P)) → AllByRecursion (StmtHas P) (map (λ e. e.0) es)
stmts_have P [] = tt
stmts_have P (e ∷ es) = (e.1, stmts_have P es)

arms_have : (P : ItemValue → Type 0) (es : List (Arms P)) → AllByRecursion (StmtHas P) (map arm_body (map (λ e. e.0) es))
arms_have P [] = tt
arms_have P (e ∷ es) = (e.1, arms_have P es)

abbrev kind_of : (P : ItemValue → Type 0) → StmtKind-F (Kinds P) (Arms P) (Stmts P) → StmtKind-F StmtKind Arm Stmt
kind_of P = map-StmtKind (Kinds P) (Arms P) (Stmts P) StmtKind Arm Stmt (λ e. e.0) (λ e. e.0) (λ e. e.0)

abbrev arm_of : (P : ItemValue → Type 0) → Arm-F (Kinds P) (Arms P) (Stmts P) → Arm-F StmtKind Arm Stmt
arm_of P = map-Arm (Kinds P) (Arms P) (Stmts P) StmtKind Arm Stmt (λ e. e.0) (λ e. e.0) (λ e. e.0)

abbrev stmt_of : (P : ItemValue → Type 0) → Stmt-F (Kinds P) (Arms P) (Stmts P) → Stmt-F StmtKind Arm Stmt
stmt_of P = map-Stmt (Kinds P) (Arms P) (Stmts P) StmtKind Arm Stmt (λ e. e.0) (λ e. e.0) (λ e. e.0)

parts_have : (P : ItemValue → Type 0) (y : StmtKind-F (Kinds P) (Arms P) (Stmts P)) → AllByRecursion (StmtHas P) (kind_parts arm_body (kind_of P y))
parts_have P StmtKind-F.Empty = tt
parts_have P (StmtKind-F.Assign a e) = tt
parts_have P (StmtKind-F.Call x args) = tt
parts_have P (StmtKind-F.Goto label) = tt
parts_have P (StmtKind-F.Compound es) = stmts_have P es
parts_have P (StmtKind-F.If e x None) = (x.1, tt)
parts_have P (StmtKind-F.If e x (Some y)) = (x.1, (y.1, tt))
parts_have P (StmtKind-F.Case e es) = arms_have P es
parts_have P (StmtKind-F.While e x) = (x.1, tt)
parts_have P (StmtKind-F.Repeat es e) = stmts_have P es
parts_have P (StmtKind-F.For v first down last x) = (x.1, tt)
parts_have P (StmtKind-F.With records x) = (x.1, tt)

kind_step : (P : ItemValue → Type 0) (y : StmtKind-F (Kinds P) (Arms P) (Stmts P)) → KindHas P (roll-StmtKind (kind_of P y))
kind_step P y = subst (λ (x : StmtKind-F StmtKind Arm Stmt). AllByRecursion (StmtHas P) (kind_parts arm_body x)) (sym (out-roll-StmtKind (kind_of P y))) (parts_have P y)

arm_step : (P : ItemValue → Type 0) (y : Arm-F (Kinds P) (Arms P) (Stmts P)) → ArmHas P (roll-Arm (arm_of P y))
arm_step P y = subst (λ (x : Arm-F StmtKind Arm Stmt). StmtHas P x.body) (sym (out-roll-Arm (arm_of P y))) y.body.1

stmt_step : (P : ItemValue → Type 0) → FromParts P → (y : Stmt-F (Kinds P) (Arms P) (Stmts P)) → StmtHas P (roll-Stmt (stmt_of P y))
stmt_step P from y =
    (let parts = subst (λ (x : Stmt-F StmtKind Arm Stmt). KindHas P x.kind) (sym (out-roll-Stmt (stmt_of P y))) y.kind.1 in
    from (OfStmt (roll-Stmt (stmt_of P y))) (all_images P OfStmt (stmt_children (roll-Stmt (stmt_of P y))) parts))

pub stmt_has : (P : ItemValue → Type 0) → FromParts P → (s : Stmt) → StmtHas P s
stmt_has P from = ind-Stmt (KindHas P) (ArmHas P) (StmtHas P)
    (λ x y is. subst (λ z. KindHas P (roll-StmtKind z)) is (kind_step P y))
    (λ x y is. subst (λ z. ArmHas P (roll-Arm z)) is (arm_step P y))
    (λ x y is. subst (λ z. StmtHas P (roll-Stmt z)) is (stmt_step P from y))

-- ---- each block

abbrev BlockHas : (ItemValue → Type 0) → Block → Type 0
BlockHas P b = AllByRecursion P (block_children b)

abbrev RoutineHas : (ItemValue → Type 0) → Routine → Type 0
RoutineHas P r = P (OfRoutine r)

abbrev Blocks : (ItemValue → Type 0) → Type 0
Blocks P = (b : Block) × BlockHas P b

abbrev Routines : (ItemValue → Type 0) → Type 0
Routines P = (r : Routine) × RoutineHas P r

decl_has : (P : ItemValue → Type 0) → FromParts P → (d : Decl) → P (OfDecl d)
decl_has P from d = from (OfDecl d) tt

abbrev block_of : (P : ItemValue → Type 0) → Block-F (Blocks P) (Routines P) → Block-F Block Routine
block_of P = map-Block (Blocks P) (Routines P) Block Routine (λ e. e.0) (λ e. e.0)

abbrev layer_children : Block-F Block Routine → List ItemValue
layer_children b = map OfDecl (option_to_list b.labels) ++ (map OfDecl b.consts ++ (map OfDecl b.types ++ (map OfDecl b.vars ++ (map OfRoutine b.routines ++ (OfStmt b.body ∷ [])))))

items_have : (P : ItemValue → Type 0) → FromParts P → (labels consts types vars : List Decl) (routines : List (Routines P)) (body : Stmt)
    → AllByRecursion P (map OfDecl labels ++ (map OfDecl consts ++ (map OfDecl types ++ (map OfDecl vars ++ (map OfRoutine (map (λ e. e.0) routines) ++ (OfStmt body ∷ []))))))
items_have P from (d ∷ ls) cs ts vs rs body = (decl_has P from d, items_have P from ls cs ts vs rs body)
items_have P from [] (d ∷ cs) ts vs rs body = (decl_has P from d, items_have P from [] cs ts vs rs body)
items_have P from [] [] (d ∷ ts) vs rs body = (decl_has P from d, items_have P from [] [] ts vs rs body)
items_have P from [] [] [] (d ∷ vs) rs body = (decl_has P from d, items_have P from [] [] [] vs rs body)
items_have P from [] [] [] [] (r ∷ rs) body = (r.1, items_have P from [] [] [] [] rs body)
items_have P from [] [] [] [] [] body = (stmt_has P from body, tt)

block_step : (P : ItemValue → Type 0) → FromParts P → (y : Block-F (Blocks P) (Routines P)) → BlockHas P (roll-Block (block_of P y))
block_step P from y =
    subst (λ (x : Block-F Block Routine). AllByRecursion P (layer_children x)) (sym (out-roll-Block (block_of P y)))
    (items_have P from (option_to_list y.labels) y.consts y.types y.vars y.routines y.body)

abbrev routine_of : (P : ItemValue → Type 0) → Name → Heading → Option (Blocks P) → Routine-F Block Routine
routine_of P name heading b = map-Routine (Blocks P) (Routines P) Block Routine (λ e. e.0) (λ e. e.0) (record { name = name; heading = heading; block = b })

any_have : (P : ItemValue → Type 0) (name : Name) (heading : Heading) (b : Option (Blocks P)) → AllByRecursion P (any_children (routine_of P name heading b).block)
any_have P name heading None = tt
any_have P name heading (Some e) = e.1

routine_step : (P : ItemValue → Type 0) → FromParts P → (name : Name) (heading : Heading) (b : Option (Blocks P)) → RoutineHas P (roll-Routine (routine_of P name heading b))
routine_step P from name heading b =
    from (OfRoutine (roll-Routine (routine_of P name heading b)))
    (subst (λ (x : Routine-F Block Routine). AllByRecursion P (any_children x.block)) (sym (out-roll-Routine (routine_of P name heading b))) (any_have P name heading b))

block_has : (P : ItemValue → Type 0) → FromParts P → (b : Block) → BlockHas P b
block_has P from = ind-Block (BlockHas P) (RoutineHas P)
    (λ x y is. subst (λ z. BlockHas P (roll-Block z)) is (block_step P from y))
    (λ x y is. subst (λ z. RoutineHas P (roll-Routine z)) is (routine_step P from y.name y.heading y.block))

-- ---- programs

pub tree_has : (P : ItemValue → Type 0) → FromParts P → (t : Tree) → P (OfProgram t)
tree_has P from t = from (OfProgram t) (block_has P from t.block)
