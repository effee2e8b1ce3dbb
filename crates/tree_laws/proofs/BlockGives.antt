-- A block, a routine and a program that a text spells is formed, and has no more levels than it is spelled with.
use Rattle.std.specs.Prelude.{◌≡◌, ℕ, ◌≤◌, zero, suc, Bool, true, false, ◌&&◌, List, [], ◌∷◌, Option, Some, None, map, is_none}
use Rattle.std.proofs.Common.{refl, ap, ◌∙◌, arith}
use Rattle.dice_base.specs.Forms.{Form}
use Rattle.pascal_tree.specs.Classes.{const_class, type_class, var_class, comma_class}
use Rattle.pascal_tree.specs.declared.typing.TypeText.{TypeText}
use Rattle.pascal_tree.specs.declared.stmt.Stmt.{Stmt, Stmt-F, out-roll-Stmt}
use Rattle.pascal_tree.specs.declared.stmt.StmtKind.{StmtKind, out-StmtKind}
use Rattle.pascal_tree.specs.declared.stmt.StmtKind.TheVariants as s
use Rattle.pascal_tree.specs.declared.stmt.StmtKind.TheVariants.{outs-Compound}
use Rattle.pascal_tree.specs.declared.stmt.Arm.{Arm}
use Rattle.pascal_tree.specs.declared.decl.Decl.{Decl}
use Rattle.pascal_tree.specs.declared.decl.Heading.{Heading}
use Rattle.pascal_tree.specs.declared.decl.Block.{Block}
use Rattle.pascal_tree.specs.declared.decl.Routine.{Routine}
use Rattle.pascal_tree.specs.declared.program.Tree.{Tree}
use Rattle.pascal_tree.specs.Expressions.{expr_at}
use Rattle.pascal_tree.specs.Declarations.{no_name, type_at}
use Rattle.pascal_tree.specs.Statements.{make_stmt, stmt_at}
use Rattle.pascal_tree.specs.Programs.{make_block, make_routine, block_form, routine_form, files_form, body_at, routine_at, block_at, program_at}
use Rattle.pascal_tree.specs.FormedExprs.{is_identifier, all_formed}
use Rattle.pascal_tree.specs.Formed.{type_is_formed, is_compound, is_body, heading_is_formed, label_part_is_formed, const_is_formed, typedef_is_formed, vars_are_formed, routine_is_formed, program_is_formed}
use Rattle.pascal_tree.specs.Openness.{routine_is_paired, program_is_paired}
use Rattle.pascal_tree.specs.Depth.{stmt_depth, type_depth, decl_depth, block_depth, routine_depth, tree_levels}
use Rattle.expression_laws.proofs.Words.{and-parts, and-true}
use Rattle.expression_laws.proofs.Gives.{Fits, AllFit, Gives, Fitting, AreFormed, give, refused, choice, behind, mark, identifier, items, flat_list}
use Rattle.expression_laws.proofs.Layers.{made}
use Rattle.expression_laws.proofs.ExprGives.{expr-gives}
use Rattle.tree_laws.proofs.TypeGives.{type-gives}
use Rattle.tree_laws.proofs.DeclGives.{of_kind, constdef-gives, typedef-gives, vardef-gives, part-gives, label-part-gives, heading-gives}
use Rattle.tree_laws.proofs.StmtLayers.{stmt_is_whole, all-parts}
use Rattle.tree_laws.proofs.StmtGives.{compound-of, sequence-gives, stmt-given, stmt-gives}
use Rattle.tree_laws.proofs.BlockLayers.{block_is_whole, routine_is_whole, block_layer, routine_layer}

-- ---- bodies

-- as the body of a block
pub record BodyFits (d : ℕ) (k : StmtKind) : Type 0 where
  pub is_body : is_body (make_stmt None k) ≡ true
  pub fits : Fits stmt_is_whole stmt_depth d (make_stmt None k)

compound-body : (xs : List Stmt) → is_body (make_stmt None (s.Compound xs)) ≡ true
compound-body xs =
    ap (λ (x : Stmt-F StmtKind Arm Stmt). is_none x.label && is_compound (out-StmtKind x.kind))
    (out-roll-Stmt (record { name = no_name; label = None; kind = s.Compound xs }))
    ∙ ap is_compound (outs-Compound xs)

pub body-gives : (d : ℕ) → Gives (body_at d) (λ k w. BodyFits d k)
unfolding body_at
body-gives zero = refused
body-gives (suc d) =
    mark (sequence-gives d (expr_at (suc d)) (expr_at d) (stmt_at d) (expr-gives (suc d)) (expr-gives d)
    (stmt-gives d) (λ xs f.
    (let k = compound-of d (expr_at (suc d)) (expr_at d) (stmt_at d) (expr-gives (suc d)) (expr-gives d)
    (stmt-gives d) xs f in
    record { is_body = compound-body xs; fits = (stmt-given None (s.Compound xs) false refl k).fits })))

-- ---- blocks and routines, where it holds of types, inner routines and bodies

module _ (d : ℕ) (T : Form TypeText) (P : Form Routine) (B : Form StmtKind)
    (types : Gives T (Fitting type_is_formed type_depth (suc d)))
    (routines : Gives P (Fitting routine_is_whole routine_depth d))
    (bodies : Gives B (λ k w. BodyFits d k)) where
  block-fits : (labels : Option Decl) (consts types vars : List Decl) (rs : List Routine) (body : StmtKind)
      → label_part_is_formed labels ≡ true
      → AllFit (of_kind const_is_formed) (of_kind decl_depth) 0 consts
      → AllFit (of_kind typedef_is_formed) (of_kind decl_depth) (suc d) types
      → AllFit (of_kind vars_are_formed) (of_kind decl_depth) (suc d) vars
      → AllFit routine_is_whole routine_depth d rs → BodyFits d body
      → Fits block_is_whole block_depth (suc d) (make_block labels consts types vars rs body)
  block-fits labels consts types vars rs body l c t v r b =
      let (p, q) = all-parts routine_is_formed routine_is_paired (λ e. e) rs r.is_formed in
      let (f, g) = and-parts _ _ b.fits.is_formed in
      made block_layer (record {
        labels = labels;
        consts = consts;
        types = types;
        vars = vars;
        routines = rs;
        body = make_stmt None body;
      })
      (and-true _ _ (and-true _ _
      (and-true _ _ (and-true _ _ (and-true _ _ (and-true _ _ l c.is_formed) t.is_formed) v.is_formed) p)
      (and-true _ _ b.is_body f)) (and-true _ _ q g))
      (omega (arith, t.levels, v.levels, r.levels, b.fits.levels))

  block-gives_in : Gives (block_form T P B) (Fitting block_is_whole block_depth (suc d))
  block-gives_in =
      behind label-part-gives (λ labels w l.
      behind (part-gives const_class (constdef-gives 0)) (λ consts w c.
      behind (part-gives type_class (typedef-gives (suc d) T types)) (λ ts w t.
      behind (part-gives var_class (vardef-gives (suc d) T types)) (λ vars w v.
      behind (items (behind routines (λ p w f. mark (give f)))) (λ rs w r.
      behind bodies (λ body w b. give (block-fits labels consts ts vars rs body l c t v r b)))))))

  without-block : (h : Heading) → heading_is_formed h ≡ true
      → Fits routine_is_whole routine_depth (suc d) (make_routine h None)
  without-block h e =
      made routine_layer (record { name = no_name; heading = h; block = None })
      (and-true _ _ (and-true _ _ e refl) refl) (omega arith)

  with-block : (h : Heading) (b : Block) → heading_is_formed h ≡ true → Fits block_is_whole block_depth (suc d) b
      → Fits routine_is_whole routine_depth (suc d) (make_routine h (Some b))
  with-block h b e f =
      let (p, q) = and-parts _ _ f.is_formed in
      made routine_layer (record { name = no_name; heading = h; block = Some b }) (and-true _ _ (and-true _ _ e p) q)
      (omega (arith, f.levels))

  routine-gives_in : Gives (routine_form T P B) (Fitting routine_is_whole routine_depth (suc d))
  routine-gives_in =
      behind heading-gives (λ h w e. mark
      (choice (mark (give (without-block h e)))
      (behind block-gives_in (λ b v f. give (with-block h b e f)))))

-- ---- with any number of levels

pub routine-gives : (d : ℕ) → Gives (routine_at d) (Fitting routine_is_whole routine_depth d)
unfolding routine_at
routine-gives zero = refused
routine-gives (suc d) =
    routine-gives_in d (type_at (suc d)) (routine_at d) (body_at d) (type-gives (suc d)) (routine-gives d)
    (body-gives d)

pub block-gives : (d : ℕ) → Gives (block_at d) (Fitting block_is_whole block_depth (suc d))
unfolding block_at
block-gives d =
    block-gives_in d (type_at (suc d)) (routine_at d) (body_at d) (type-gives (suc d)) (routine-gives d)
    (body-gives d)

-- ---- programs

pub record ProgramFits (d : ℕ) (p : Tree) : Type 0 where
  pub is_formed : program_is_formed p ≡ true
  pub is_paired : program_is_paired p ≡ true
  pub levels : tree_levels p ≤ d

all-identifiers : (xs : List (List ℕ)) (w : Bool) → AreFormed is_identifier xs w
    → all_formed (map is_identifier xs) ≡ true
all-identifiers [] w e = absurd cc
all-identifiers (x ∷ xs) w e = e

files-gives : Gives files_form (λ xs w. all_formed (map is_identifier xs) ≡ true)
files-gives =
    choice (mark (behind (flat_list comma_class identifier) (λ xs w e. mark (give (all-identifiers xs w e)))))
    (give refl)

pub program-gives : (d : ℕ) → Gives (program_at d) (λ p w. ProgramFits (suc d) p)
unfolding program_at
program-gives d =
    mark (behind identifier (λ x w e. behind files-gives (λ files w f. mark
    (behind (block-gives d) (λ b w g. mark (give
    (let (p, q) = and-parts _ _ g.is_formed in
    record { is_formed = and-true _ _ (and-true _ _ e f) p; is_paired = q; levels = g.levels })))))))
