-- A block, a routine and a program that is formed and in which each `else` belongs to its own `if` is spelled by a
-- text, names aside, with the levels that it takes.
use Rattle.std.specs.Prelude.{◌≡◌, ℕ, ◌≤◌, zero, suc, true, false, List, [], ◌∷◌, Option, Some, None, map, option_map, is_none}
use Rattle.std.proofs.Common.{refl, sym, ap, subst, ◌∙◌, arith}
use Rattle.dice_base.specs.declared.name.Name.{Name}
use Rattle.dice_base.specs.declared.token.TokenKind.TheVariants.{Ident}
use Rattle.dice_base.specs.declared.symbols.words.TheConstants as words
use Rattle.dice_base.specs.declared.symbols.signs.TheConstants as signs
use Rattle.dice_base.specs.Lexemes.{word_symbol}
use Rattle.dice_base.specs.Forms.{Form, one}
use Rattle.pascal_tree.specs.declared.typing.TypeText.{TypeText}
use Rattle.pascal_tree.specs.declared.stmt.Stmt.{Stmt, out-Stmt, roll-Stmt, roll-out-Stmt}
use Rattle.pascal_tree.specs.declared.stmt.StmtKind.{StmtKind, StmtKind-F, out-StmtKind, roll-StmtKind, roll-out-StmtKind}
use Rattle.pascal_tree.specs.declared.stmt.StmtKind.TheVariants.{rolls-Compound}
use Rattle.pascal_tree.specs.declared.decl.Heading.{Heading}
use Rattle.pascal_tree.specs.declared.decl.Block.{Block, out-Block, roll-Block, roll-out-Block}
use Rattle.pascal_tree.specs.declared.decl.Routine.{Routine, out-Routine, roll-Routine, roll-out-Routine}
use Rattle.pascal_tree.specs.declared.decl.Block.TheFolds.{fold-roll-Block, fold-roll-Routine}
use Rattle.pascal_tree.specs.declared.program.Tree.{Tree}
use Rattle.pascal_tree.specs.Expressions.{expr_at}
use Rattle.pascal_tree.specs.Declarations.{type_at}
use Rattle.pascal_tree.specs.Statements.{make_stmt, stmt_at}
use Rattle.pascal_tree.specs.Programs.{make_block, make_routine, forward_of, block_form, routine_form, files_form, body_at, routine_at, block_at, program_at}
use Rattle.pascal_tree.specs.Unnamed as without
use Rattle.pascal_tree.specs.Unnamed.{unnamed_decl, unnamed_kind, unnamed_stmt, unnamed_block, unnamed_routine, unnamed_program}
use Rattle.pascal_tree.specs.FormedExprs.{is_identifier, all_formed}
use Rattle.pascal_tree.specs.Formed.{formed_label, kind_is_formed, type_is_formed, is_compound, is_body, stmt_is_formed, routine_is_formed}
use Rattle.pascal_tree.specs.Openness.{kind_ending, stmt_ending, routine_is_paired}
use Rattle.pascal_tree.specs.Depth.{stmt_depth, kind_depth, decls_depth, type_depth, block_depth, routine_depth}
use Rattle.expression_laws.specs.Spelled.{Spelled}
use Rattle.expression_laws.proofs.Words.{and-parts, and-true, ident_lexeme}
use Rattle.expression_laws.proofs.Gives.{Fits}
use Rattle.expression_laws.proofs.Layers.{opened, some_levels}
use Rattle.expression_laws.proofs.Spells.{Spelling, done, left, right, after, single, identifier, word, sign, items_as, flat_list}
use Rattle.expression_laws.proofs.ExprSpells.{expr-spelled}
use Rattle.tree_laws.proofs.TypeSpells.{type-spelled}
use Rattle.tree_laws.proofs.DeclSpells.{constdef-spelled, typedef-spelled, vardef-spelled, part-spelled, label-part-spelled, heading-spelled}
use Rattle.tree_laws.proofs.StmtLayers.{paired, stmt_formed, KindLayer, kind_is_whole, stmt_is_whole, kind_layer, stmt_layer, some-whole, all-whole}
use Rattle.tree_laws.proofs.StmtSpells.{kind-unnamed, stmt-unnamed, compound-spelled, stmt-spelled}
use Rattle.tree_laws.proofs.BlockLayers.{BlockLayer, block_is_whole, routine_is_whole, block_layer, routine_layer}
use Rattle.tree_laws.proofs.BlockGives.{ProgramFits}

-- ---- bodies

-- a compound is spelled as the body of a block
body-kind : (d : ℕ) (x : KindLayer) → is_compound x ≡ true → Fits kind_is_whole kind_depth d (roll-StmtKind x)
    → Spelled (body_at d) (unnamed_kind (roll-StmtKind x)) false
unfolding body_at
body-kind zero (StmtKind-F.Compound xs) e f =
    let (p, n) = opened kind_layer (StmtKind-F.Compound xs) f in absurd (omega (arith, n))
body-kind (suc d) (StmtKind-F.Compound xs) e f =
    let (p, n) = opened kind_layer (StmtKind-F.Compound xs) f in
    let (q, r) = and-parts _ _ p in
    subst (λ k. Spelled (body_at (suc d)) k false)
    (sym (kind-unnamed (StmtKind-F.Compound xs) ∙ rolls-Compound (map unnamed_stmt xs)))
    (word words.BEGIN refl
    (compound-spelled d (expr_at (suc d)) (expr_at d) (stmt_at d) (expr-spelled (suc d)) (expr-spelled d)
    (stmt-spelled d) xs
    (record { is_formed = some-whole stmt_is_formed stmt_ending paired xs q r; levels = omega (arith, n) })))
body-kind d StmtKind-F.Empty e f = absurd cc
body-kind d (StmtKind-F.Assign a x) e f = absurd cc
body-kind d (StmtKind-F.Call x args) e f = absurd cc
body-kind d (StmtKind-F.Goto n) e f = absurd cc
body-kind d (StmtKind-F.If c a b) e f = absurd cc
body-kind d (StmtKind-F.Case c xs) e f = absurd cc
body-kind d (StmtKind-F.While c x) e f = absurd cc
body-kind d (StmtKind-F.Repeat xs c) e f = absurd cc
body-kind d (StmtKind-F.For x first down last y) e f = absurd cc
body-kind d (StmtKind-F.With records x) e f = absurd cc

-- the body of a block without names has this kind, and no label
abbrev pub body_kind : Stmt → StmtKind
body_kind x = unnamed_kind (out-Stmt x).kind

pub record IsBodyOf (d : ℕ) (x : Stmt) : Type 0 where
  pub spelled : Spelled (body_at d) (body_kind x) false
  pub is : unnamed_stmt x ≡ make_stmt None (body_kind x)

none-is : (o : Option ℕ) → is_none o ≡ true → o ≡ None
none-is None e = refl
none-is (Some n) e = absurd cc

body-spelled : (d : ℕ) (x : Stmt) → is_body x ≡ true → Fits stmt_is_whole stmt_depth d x → IsBodyOf d x
body-spelled d x e f =
    let y = out-Stmt x in
    let is : roll-Stmt y ≡ x = roll-out-Stmt x in
    let (p, q) = and-parts _ _ e in
    let (g, n) = opened stmt_layer y (subst (λ z. Fits stmt_is_whole stmt_depth d z) (sym is) f) in
    let (r, t) = and-parts (stmt_formed y) (kind_ending y.kind).is_paired g in
    let (label, kind) = and-parts (formed_label y.label) (kind_is_formed y.kind) r in
    let k = y.kind in
    let same : roll-StmtKind (out-StmtKind k) ≡ k = roll-out-StmtKind k in
    let fits : Fits kind_is_whole kind_depth d k =
    record { is_formed = and-true (kind_is_formed y.kind) (kind_ending y.kind).is_paired kind t; levels = n } in
    record {
      spelled = subst (λ l. Spelled (body_at d) (unnamed_kind l) false) same
          (body-kind d (out-StmtKind k) q (subst (λ l. Fits kind_is_whole kind_depth d l) (sym same) fits));
      is = ap unnamed_stmt (sym is) ∙ stmt-unnamed y ∙ ap (λ o. make_stmt o (body_kind x)) (none-is y.label p);
    }

-- ---- layers without names

block-unnamed : (x : BlockLayer) → unnamed_block (roll-Block x) ≡ roll-Block (record {
  labels = option_map unnamed_decl x.labels;
  consts = map unnamed_decl x.consts;
  types = map unnamed_decl x.types;
  vars = map unnamed_decl x.vars;
  routines = map unnamed_routine x.routines;
  body = unnamed_stmt x.body;
})
unfolding unnamed_block unnamed_routine
block-unnamed x = fold-roll-Block Block Routine without.in_block without.in_routine x

pub routine-unnamed : (name : Name) (h : Heading) (o : Option Block)
    → unnamed_routine (roll-Routine (record { name = name; heading = h; block = o })) ≡ make_routine h
    (option_map unnamed_block o)
unfolding unnamed_block unnamed_routine
routine-unnamed name h None =
    fold-roll-Routine Block Routine without.in_block without.in_routine
    (record { name = name; heading = h; block = None })
routine-unnamed name h (Some b) =
    fold-roll-Routine Block Routine without.in_block without.in_routine
    (record { name = name; heading = h; block = Some b })

-- ---- blocks and routines, where it holds of types, inner routines and bodies

forward : Spelled (one forward_of) tt false
unfolding word_symbol
forward =
    single (Ident (102 ∷ 111 ∷ 114 ∷ 119 ∷ 97 ∷ 114 ∷ 100 ∷ [])) refl
    (ident_lexeme (102 ∷ 111 ∷ 114 ∷ 119 ∷ 97 ∷ 114 ∷ 100 ∷ []) refl)

-- a text spells each routine that is whole and has at most so many levels
abbrev RoutineSpelling : Form Routine → ℕ → Type 0
RoutineSpelling P d = (r : Routine) → Fits routine_is_whole routine_depth d r → Spelled P (unnamed_routine r) false

module _ (d : ℕ) (T : Form TypeText) (P : Form Routine)
    (types : Spelling T type_is_formed type_depth (suc d))
    (routines : RoutineSpelling P d) where
  block-layer : (x : BlockLayer) → Fits block_is_whole block_depth (suc d) (roll-Block x)
      → Spelled (block_form T P (body_at d))
      (make_block (option_map unnamed_decl x.labels) (map unnamed_decl x.consts) (map unnamed_decl x.types)
      (map unnamed_decl x.vars) (map unnamed_routine x.routines) (body_kind x.body)) false
  block-layer x h =
      let (e, n) = opened block_layer x h in
      let (formed, match) = and-parts _ _ e in
      let (f, body) = and-parts _ _ formed in
      let (is, whole) = and-parts _ _ body in
      let (g, rs) = and-parts _ _ f in
      let (i, vars) = and-parts _ _ g in
      let (j, ts) = and-parts _ _ i in
      let (labels, consts) = and-parts _ _ j in
      let (inner, last) = and-parts _ _ match in
      after (label-part-spelled x.labels labels)
      (after (part-spelled words.CONST refl (constdef-spelled (decls_depth x.consts)) x.consts
      (record { is_formed = consts; levels = omega arith }))
      (after (part-spelled words.TYPE refl (typedef-spelled (suc d) T types) x.types
      (record { is_formed = ts; levels = omega (arith, n) }))
      (after (part-spelled words.VAR refl (vardef-spelled (suc d) T types) x.vars
      (record { is_formed = vars; levels = omega (arith, n) }))
      (after (items_as (λ r k. (false, after (routines r k) (sign signs.SEMICOLON refl (done refl)))) x.routines
      (record {
        is_formed = all-whole routine_is_formed routine_is_paired
            (λ b. b) x.routines rs inner;
        levels = omega (arith, n);
      }))
      (after (body-spelled d x.body is
      (record { is_formed = and-true _ _ whole last; levels = omega (arith, n) })).spelled (done refl))))))

  block-whole : (x : BlockLayer) → Fits block_is_whole block_depth (suc d) (roll-Block x)
      → Spelled (block_form T P (body_at d)) (unnamed_block (roll-Block x)) false
  block-whole x h =
      let (e, n) = opened block_layer x h in
      let (formed, match) = and-parts _ _ e in
      let (f, body) = and-parts _ _ formed in
      let (is, whole) = and-parts _ _ body in
      let (inner, last) = and-parts _ _ match in
      let fits : Fits stmt_is_whole stmt_depth d x.body = record {
        is_formed = and-true _ _ whole last;
        levels = omega (arith, n);
      } in
      let b = body-spelled d x.body is fits in
      subst (λ z. Spelled (block_form T P (body_at d)) z false)
      (sym (block-unnamed x ∙ ap (λ y. roll-Block (record {
        labels = option_map unnamed_decl x.labels;
        consts = map unnamed_decl x.consts;
        types = map unnamed_decl x.types;
        vars = map unnamed_decl x.vars;
        routines = map unnamed_routine x.routines;
        body = y;
      })) b.is))
      (block-layer x h)

  block-spelled_in : (b : Block) → Fits block_is_whole block_depth (suc d) b
      → Spelled (block_form T P (body_at d)) (unnamed_block b) false
  block-spelled_in b f =
      let is : roll-Block (out-Block b) ≡ b = roll-out-Block b in
      subst (λ z. Spelled (block_form T P (body_at d)) (unnamed_block z) false) is
      (block-whole (out-Block b) (subst (λ z. Fits block_is_whole block_depth (suc d) z) (sym is) f))

  routine-of : (name : Name) (h : Heading) (o : Option Block)
      → Fits routine_is_whole routine_depth (suc d) (roll-Routine (record { name = name; heading = h; block = o }))
      → Spelled (routine_form T P (body_at d)) (make_routine h (option_map unnamed_block o)) false
  routine-of name h None f =
      let (e, n) = opened routine_layer (record { name = name; heading = h; block = None }) f in
      after (heading-spelled h (and-parts _ _ (and-parts _ _ e).0).0)
      (sign signs.SEMICOLON refl (left (after forward (done refl))))
  routine-of name h (Some b) f =
      let (e, n) = opened routine_layer (record { name = name; heading = h; block = Some b }) f in
      let (p, q) = and-parts _ _ e in
      let (r, t) = and-parts _ _ p in
      after (heading-spelled h r)
      (sign signs.SEMICOLON refl
      (right (after (block-spelled_in b (record { is_formed = and-true _ _ t q; levels = omega (arith, n) }))
      (done refl))))

  routine-spelled_in : RoutineSpelling (routine_form T P (body_at d)) (suc d)
  routine-spelled_in r f =
      let x = out-Routine r in
      let is : roll-Routine x ≡ r = roll-out-Routine r in
      subst (λ z. Spelled (routine_form T P (body_at d)) z false)
      (sym (routine-unnamed x.name x.heading x.block) ∙ ap unnamed_routine is)
      (routine-of x.name x.heading x.block (subst (λ z. Fits routine_is_whole routine_depth (suc d) z) (sym is) f))

-- ---- with any number of levels

routine-some : (r : Routine) → 1 ≤ routine_depth r
routine-some = some_levels routine_layer out-Routine roll-out-Routine (λ x. omega arith)

pub routine-spelled : (d : ℕ) → RoutineSpelling (routine_at d) d
unfolding routine_at
routine-spelled zero = λ r f. absurd (omega (arith, routine-some r, f.levels))
routine-spelled (suc d) =
    routine-spelled_in d (type_at (suc d)) (routine_at d) (type-spelled (suc d)) (routine-spelled d)

pub block-spelled : (d : ℕ) (b : Block) → Fits block_is_whole block_depth (suc d) b
    → Spelled (block_at d) (unnamed_block b) false
unfolding block_at
block-spelled d = block-spelled_in d (type_at (suc d)) (routine_at d) (type-spelled (suc d)) (routine-spelled d)

-- ---- programs

files-spelled : (xs : List (List ℕ)) → all_formed (map is_identifier xs) ≡ true → Spelled files_form xs false
files-spelled [] e = right (done refl)
files-spelled (x ∷ xs) e =
    left (sign signs.OPEN refl
    (after (flat_list signs.COMMA refl identifier (x ∷ xs) e) (sign signs.CLOSE refl (done refl))))

pub program-spelled : (d : ℕ) (p : Tree) → ProgramFits (suc d) p → Spelled (program_at d) (unnamed_program p) false
unfolding program_at
program-spelled d p f =
    let (e, b) = and-parts _ _ f.is_formed in
    let (x, files) = and-parts _ _ e in
    word words.PROGRAM refl
    (after (identifier p.ident x) (after (files-spelled p.files files) (sign signs.SEMICOLON refl
    (after (block-spelled d p.block (record { is_formed = and-true _ _ b f.is_paired; levels = f.levels }))
    (sign signs.PERIOD refl (done refl))))))
