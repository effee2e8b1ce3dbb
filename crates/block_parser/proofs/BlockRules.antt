-- The rules of blocks, routines and programs: all laws of each.
use Rattle.std.specs.Prelude.{◌≡◌, ℕ, true, false, ◌&&◌, [], ◌∷◌, Some, None}
use Rattle.std.proofs.Common.{refl}
use Rattle.dice_base.specs.declared.token.TokenKind.{TokenKind}
use Rattle.dice_base.specs.declared.token.TokenKind.TheVariants.{Word, Ident, Number, Str, Sign, Hole}
use Rattle.dice_base.specs.Tokens.{Classes, end_of_tokens, class_of, is_in}
use Rattle.dice_base.specs.Forms.{Form}
use Rattle.pascal_tree.specs.declared.typing.TypeText.{TypeText}
use Rattle.pascal_tree.specs.declared.decl.DeclKind.{DeclKind}
use Rattle.pascal_tree.specs.declared.decl.Block.{Block}
use Rattle.pascal_tree.specs.declared.decl.Routine.{Routine}
use Rattle.pascal_tree.specs.declared.stmt.StmtKind.{StmtKind}
use Rattle.pascal_tree.specs.Classes.{ident_class, begin_class, const_class, label_class, program_class, type_class, var_class, open_class, close_class, period_class, semicolon_class}
use Rattle.pascal_tree.specs.Declarations.{make_decl}
use Rattle.pascal_tree.specs.Programs as form
use Rattle.pascal_tree.specs.Programs.{forward_of, make_block, make_routine, make_program}
use Rattle.token_reader.specs.Readers.{Parser}
use Rattle.token_reader.specs.Tables.{within, clear}
use Rattle.token_reader.proofs.Rules.{Rule, Nothing, fits, give, seq, tok, choose, single, narrow, ident_rule}
use Rattle.token_reader.proofs.Loops.{many_rule, some_rule}
use Rattle.declaration_parser.specs.Follows.{Any, type_ends, type_first, decl_ends}
use Rattle.declaration_parser.proofs.DeclRules.{labels_rule, constdef_rule, typedef_rule, vardef_rule, heading_rule, idents_rule}
use Rattle.block_parser.specs.Readers as read
use Rattle.block_parser.specs.Readers.{routine_first}
use Rattle.block_parser.specs.Follows.{routine_ends, block_ends, routines_first, vars_first, types_first, consts_first, block_first, decl_follows}

forward_sees : (t : TokenKind) (x : Unit {0}) → forward_of t ≡ Some x → is_in (ident_class ∷ []) (class_of t) ≡ true
forward_sees (Ident y) x e = refl
forward_sees (Word k) x e = absurd cc
forward_sees (Number n) x e = absurd cc
forward_sees (Str y) x e = absurd cc
forward_sees (Sign k) x e = absurd cc
forward_sees Hole x e = absurd cc

module _ {I : Type 0} {R : I → I → Type 0} where
  -- ---- the declarations of a block

  ended_decl_rule : {kind : I → Parser DeclKind} {K : I → Form DeclKind} {L : Classes}
      → Rule R true [] L kind K Nothing (Any decl_ends)
      → Rule R true [] L (λ i. read.ended_decl (kind i)) (λ i. form.ended_form (K i)) Nothing (Any decl_follows)
  unfolding read.ended_decl
  ended_decl_rule one_kind =
      seq one_kind (λ k _. tok semicolon_class (give (make_decl k) false (Any decl_follows))) (λ w. refl)

  labels_part_rule : Rule R true [] block_first (λ i. read.labels_part) (λ i. form.labels_part) Nothing
      (Any consts_first)
  unfolding read.labels_part
  labels_part_rule =
      choose (label_class ∷ [])
      (tok label_class
      (seq (ended_decl_rule labels_rule) (λ d _. give (Some d) false (Any consts_first)) (λ w. refl)))
      (give None false (Any consts_first)) refl

  -- what comes next may be F where there are none
  decls_part_rule : {kind : I → Parser DeclKind} {K : I → Form DeclKind} (word : ℕ) (F : Classes)
      → Rule R true [] (ident_class ∷ []) kind K Nothing (Any decl_ends)
      → (within F decl_follows && clear F (ident_class ∷ [])) ≡ true → fits (word ∷ []) (word ∷ []) F ≡ true
      → Rule R true [] (word ∷ F) (λ i. read.decls_part word (kind i)) (λ i. form.decls_part word (K i)) Nothing (Any F)
  unfolding read.decls_part
  decls_part_rule word F one_kind follow fit =
      choose (word ∷ []) (tok word (some_rule (ended_decl_rule one_kind) F (λ w. follow)))
      (give [] false (Any F)) fit

  -- ---- blocks and routines

  module _ (typ : I → Parser TypeText) (routine : I → Parser Routine) (body : I → Parser StmtKind)
      (T : I → Form TypeText) (P : I → Form Routine) (B : I → Form StmtKind)
      (types : Rule R false [] type_first typ T Nothing (Any type_ends))
      (routines : Rule R false [] routine_first routine P Nothing (Any routine_ends))
      (bodies : Rule R false [] (begin_class ∷ []) body B Nothing (Any block_ends))
    where
      pub block_rule : Rule R false [] block_first (λ i. read.block (typ i) (routine i) (body i))
          (λ i. form.block_form (T i) (P i) (B i)) Nothing (Any block_ends)
      unfolding read.block read.ended_routine
      block_rule =
          seq labels_part_rule (λ ls _.
          seq (decls_part_rule const_class types_first constdef_rule refl refl) (λ cs _.
          seq (decls_part_rule type_class vars_first (typedef_rule typ T types) refl refl) (λ ts _.
          seq (decls_part_rule var_class routines_first (vardef_rule typ T types) refl refl) (λ vs _.
          seq (many_rule
          (seq routines (λ p _. tok semicolon_class (give p false (Any decl_follows))) (λ w. refl))
          (begin_class ∷ []) (λ w. refl) []) (λ ps _.
          seq bodies (λ b _. give (make_block ls cs ts vs ps b) false (Any block_ends)) (λ w. refl))
          (λ w. refl)) (λ w. refl)) (λ w. refl)) (λ w. refl)) (λ w. refl)

      pub routine_rule : Rule R true [] routine_first
          (λ i. read.whole_routine (read.block (typ i) (routine i) (body i)))
          (λ i. form.routine_form (T i) (P i) (B i)) Nothing (Any routine_ends)
      unfolding read.whole_routine read.routine_rest
      routine_rule =
          seq heading_rule (λ h _. tok semicolon_class
          (choose (ident_class ∷ [])
          (seq (single forward_of (ident_class ∷ []) forward_sees (Any routine_ends))
          (λ _ _. give (make_routine h None) false (Any routine_ends)) (λ w. refl))
          (seq (narrow (Any routine_ends) (λ w. refl) block_rule)
          (λ b _. give (make_routine h (Some b)) false (Any routine_ends)) (λ w. refl)) refl)) (λ w. refl)

  -- ---- programs

  files_rule : Rule R true [] (open_class ∷ semicolon_class ∷ []) (λ i. read.files)
      (λ i. form.files_form) Nothing (Any (semicolon_class ∷ []))
  unfolding read.files
  files_rule =
      choose (open_class ∷ [])
      (tok open_class
      (seq idents_rule (λ xs _. tok close_class (give xs false (Any (semicolon_class ∷ []))))
      (λ w. refl)))
      (give [] false (Any (semicolon_class ∷ []))) refl

  module _ (block : I → Parser Block) (G : I → Form Block)
      (blocks : Rule R false [] block_first block G Nothing (Any block_ends)) where
    pub program_rule : Rule R true [] (program_class ∷ []) (λ i. read.whole_program (block i))
        (λ i. form.program_form (G i)) Nothing (Any (end_of_tokens ∷ []))
    unfolding read.whole_program
    program_rule =
        tok program_class (seq (ident_rule (Any (open_class ∷ semicolon_class ∷ []))) (λ x _.
        seq files_rule (λ fs _. tok semicolon_class
        (seq blocks (λ b _. tok period_class (give (make_program x fs b) false (Any (end_of_tokens ∷ []))))
        (λ w. refl)))
        (λ w. refl)) (λ w. refl))
