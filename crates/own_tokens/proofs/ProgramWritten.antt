-- Statements, blocks and programs are spelled by their own tokens.
use Rattle.std.specs.Prelude.{◌≡◌, ℕ, zero, suc, ◌+◌, ◌*◌, ◌-◌, Bool, true, false, cond, List, [], ◌∷◌, ◌++◌, Some, None, map, codes, bytes_eq}
use Rattle.std.proofs.Common.{refl, sym, ap, ◌∙◌, append-nil}
use Rattle.std.specs.Cmp.Lexicographic.{same_text}
use Rattle.std.specs.List.{AllByRecursion}
use Rattle.dice_base.specs.declared.token.TokenKind.{TokenKind}
use Rattle.dice_base.specs.declared.token.TokenKind.TheVariants.{Word, Ident, Number, Str, Sign, Hole}
use Rattle.dice_base.specs.declared.symbols.words.TheConstants as words
use Rattle.dice_base.specs.declared.symbols.signs.TheConstants as signs
use Rattle.dice_base.specs.Tokens.{Toks}
use Rattle.dice_base.specs.Forms.{Form, just, one, chain, token}
use Rattle.dice_base.specs.Symbols.{downto_word, if_word, then_word, to_word, comma_sign, semicolon_sign}
use Rattle.pascal_tree.specs.declared.levels.TheConstants.{LEVELS}
use Rattle.pascal_tree.specs.declared.expr.Expr.{Expr}
use Rattle.pascal_tree.specs.declared.stmt.Stmt.{Stmt}
use Rattle.pascal_tree.specs.declared.stmt.StmtKind.{StmtKind}
use Rattle.pascal_tree.specs.declared.stmt.StmtKind.TheVariants as s
use Rattle.pascal_tree.specs.declared.typing.TypeText.{TypeText}
use Rattle.pascal_tree.specs.declared.decl.DeclKind.{DeclKind}
use Rattle.pascal_tree.specs.declared.decl.Routine.{Routine}
use Rattle.pascal_tree.specs.declared.decl.Block.{Block}
use Rattle.pascal_tree.specs.declared.program.Tree.{Tree}
use Rattle.pascal_tree.specs.Classes.{semicolon_class}
use Rattle.pascal_tree.specs.Statements.{directions, compound_in, else_form, if_in, arm_form, case_in, while_in, repeat_in, for_in, with_in, kind_form, stmt_form, stmt_at}
use Rattle.pascal_tree.specs.Programs.{ended_form, labels_part, decls_part, forward_of, block_form, routine_form, files_form, program_form, body_at, routine_at, block_at, program_at, Derives}
use Rattle.pascal_tree.specs.Joined.{join}
use Rattle.pascal_tree.specs.ExprTokens.{in_parens, expr_tokens}
use Rattle.pascal_tree.specs.DeclTokens.{ident_tokens, type_tokens, decl_tokens}
use Rattle.tree_listing.specs.Events.{direction, program_tokens}
use Rattle.own_tokens.proofs.Written.{some_of, word_is, AreClasses, Writes, Written, own-spell, own-among, done, refused, choice, behind, last, single, word, sign, operators, identifier, number, items, some_items, list, ended, parens}
use Rattle.own_tokens.proofs.ExprWritten.{comma_is, access-written, accesses-written, args-written, expr-written}
use Rattle.own_tokens.proofs.DeclWritten.{semicolon_is, constants-written, type-written, labels-written, constdef-written, typedef-written, vardef-written, heading-written}
use Rattle.own_tokens.proofs.EventTokens.{stmt_tokens, kind_tokens, arm_tokens, stmt-made, arm-made, empty-made, assign-made, call-made, goto-made, compound-made, repeat-made, while-made, if-made, if_else-made, case-made, for-made, with-made, ended_tokens, part_tokens, labels_tokens, block_tokens, routine_tokens, routine_ended, block-made, forward-made, routine-made, program-made}

direction_classes : AreClasses (λ down. direction down ∷ []) directions
direction_classes = (to_word, refl, word_is words.TO, (downto_word, refl, word_is words.DOWNTO, tt))

-- ---- statements, where it holds of the expressions in them, and of statements one level further in, and E is an
-- expression of the statement, and A one that is one level further in

module _ {P : TokenKind → Type 0} {E A : Form Expr} {S : Form Stmt} {Q : Form (List Stmt)}
    (here : Written P E expr_tokens) (further : Written P A expr_tokens)
    (inner : (level : ℕ) → Written P S (stmt_tokens level))
    (sequence : (level : ℕ) → Written P Q (λ xs. join (semicolon_sign ∷ []) (map (stmt_tokens level) xs))) where
  pub compound-written : (level : ℕ) → Writes P (λ z. Word words.BEGIN ∷ z) (compound_in E A S Q) (kind_tokens level)
  compound-written level =
      behind (list semicolon_is (inner (level + 1))) (λ body w. word words.END (done (compound-made level body)))

  -- an `if` that ends with its first branch
  if-ended : (level : ℕ) (c : Expr) (x : Stmt)
      → Writes P (λ z. if_word ∷ (expr_tokens c ++ then_word ∷ (stmt_tokens (level + 1) x ++ z)))
      (just (s.If c x None) true) (kind_tokens level)
  if-ended level c x =
      done (if-made level c x ∙ ap (λ (ts : Toks). if_word ∷ (expr_tokens c ++ then_word ∷ ts))
      (sym (append-nil (stmt_tokens (level + 1) x))))

  else-written : (level : ℕ) (c : Expr) (x : Stmt) (w : Bool)
      → Writes P (λ z. if_word ∷ (expr_tokens c ++ then_word ∷ (stmt_tokens (level + 1) x ++ z)))
      (else_form E A S Q c x w) (kind_tokens level)
  else-written level c x true = if-ended level c x
  else-written level c x false =
      choice (word words.ELSE (last (inner (level + 1)) (λ y w. if_else-made level c x y))) (if-ended level c x)

  if-written : (level : ℕ) → Writes P (λ z. Word words.IF ∷ z) (if_in E A S Q) (kind_tokens level)
  if-written level =
      behind here (λ c w. word words.THEN (behind (inner (level + 1)) (λ x w. else-written level c x w)))

  arm-written : (level : ℕ) → Written P (arm_form E A S Q) (arm_tokens level)
  arm-written level =
      behind constants-written
      (λ constants w. sign signs.COLON (last (inner (level + 1)) (λ body w. arm-made level constants body)))

  case-written : (level : ℕ) → Writes P (λ z. Word words.CASE ∷ z) (case_in E A S Q) (kind_tokens level)
  case-written level =
      behind here
      (λ e w. word words.OF
      (behind (ended semicolon_is (arm-written level))
      (λ arms w. word words.END (done (case-made level e arms)))))

  while-written : (level : ℕ) → Writes P (λ z. Word words.WHILE ∷ z) (while_in E A S Q) (kind_tokens level)
  while-written level =
      behind here (λ c w. word words.DO (last (inner (level + 1)) (λ body w. while-made level c body)))

  repeat-written : (level : ℕ) → Writes P (λ z. Word words.REPEAT ∷ z) (repeat_in E A S Q) (kind_tokens level)
  repeat-written level =
      behind (sequence (level + 1)) (λ body w. word words.UNTIL (last here (λ c w. repeat-made level body c)))

  for-written : (level : ℕ) → Writes P (λ z. Word words.FOR ∷ z) (for_in E A S Q) (kind_tokens level)
  for-written level =
      behind identifier (λ x w. sign signs.BECOMES (behind here (λ first w.
      behind (operators (λ down. direction down ∷ []) directions direction_classes) (λ down w. behind here (λ end w.
      word words.DO (last (inner (level + 1)) (λ body w. for-made level x first down end body)))))))

  with-written : (level : ℕ) → Writes P (λ z. Word words.WITH ∷ z) (with_in E A S Q) (kind_tokens level)
  with-written level =
      behind (accesses-written further) (λ records w.
      word words.DO (last (inner (level + 1)) (λ body w. with-made level records body)))

  kind-written : (level : ℕ) → Written P (kind_form E A S Q) (kind_tokens level)
  kind-written level =
      choice (word words.BEGIN (compound-written level))
      (choice (word words.IF (if-written level))
      (choice (word words.CASE (case-written level))
      (choice (word words.WHILE (while-written level))
      (choice (word words.REPEAT (repeat-written level))
      (choice (word words.FOR (for-written level))
      (choice (word words.WITH (with-written level))
      (choice (word words.GOTO (last number (λ n w. goto-made level n)))
      (choice (choice
      (behind (access-written further) (λ a w. sign signs.BECOMES (last here (λ e w. assign-made level a e))))
      (behind identifier (λ x w. last (args-written further) (λ args w. call-made level x args))))
      (done (empty-made level))))))))))

  stmt-written_in : (level : ℕ) → Written P (stmt_form E A S Q) (stmt_tokens level)
  stmt-written_in level =
      choice (behind number (λ n w. sign signs.COLON (last (kind-written level) (λ k w. stmt-made level (Some n) k))))
      (last (kind-written level) (λ k w. stmt-made level None k))

module _ {P : TokenKind → Type 0} where
  -- with any number of levels
  pub stmt-written : (d level : ℕ) → Written P (stmt_at d) (stmt_tokens level)
  unfolding stmt_at
  stmt-written zero level = refused
  stmt-written (suc d) level =
      stmt-written_in (expr-written (suc d)) (expr-written d) (stmt-written d)
      (λ level. list semicolon_is (stmt-written d level)) level

-- ---- the declarations of a block

module _ {P : TokenKind → Type 0} where
  ended-written : {K : Form DeclKind} → Written P K decl_tokens → Written P (ended_form K) ended_tokens
  ended-written inner = behind inner (λ kind w. sign signs.SEMICOLON (done refl))

  labels-part-written : Written P labels_part labels_tokens
  labels-part-written = choice (word words.LABEL (last (ended-written labels-written) (λ d w. refl))) (done refl)

  decls-part-written : {K : Form DeclKind} (k : ℕ) → Written P K decl_tokens → Written P (decls_part (6 * k) K)
      (part_tokens (Word k))
  decls-part-written k inner = choice (word k (some_items (ended-written inner) (λ d ds. refl))) (done refl)

  -- the directive is an identifier
  forward-written : Written P (one forward_of) (λ x. Ident (codes "forward") ∷ [])
  forward-written = single gives where
    settled : (x : List ℕ) (y : Unit {0}) (b : Bool) → bytes_eq x (codes "forward") ≡ b
        → cond b (some_of tt) None ≡ some_of y → Ident (codes "forward") ∷ [] ≡ Ident x ∷ []
    settled x y true is known = ap (λ (z : List ℕ). Ident z ∷ []) (sym (same_text x (codes "forward") (sym is)))
    settled x y false is known = absurd cc

    gives : (t : TokenKind) (y : Unit {0}) → forward_of t ≡ some_of y → Ident (codes "forward") ∷ [] ≡ t ∷ []
    gives (Ident x) y e = settled x y (bytes_eq x (codes "forward")) refl e
    gives (Word k) y e = absurd cc
    gives (Number n) y e = absurd cc
    gives (Str x) y e = absurd cc
    gives (Sign k) y e = absurd cc
    gives Hole y e = absurd cc

-- ---- blocks and routines, where it holds of types, and of a routine and a body one level further in

module _ {P : TokenKind → Type 0} {T : Form TypeText} {R : Form Routine} {B : Form StmtKind}
    (types : Written P T type_tokens) (routine : (level : ℕ) → Written P R (routine_tokens level))
    (body : (level : ℕ) → Written P B (kind_tokens level)) where
  ended-routine : (level : ℕ) → Written P (chain R (λ r _. token semicolon_class (just r false))) (routine_ended level)
  ended-routine level = behind (routine (level + 1)) (λ r w. sign signs.SEMICOLON (done refl))

  block-written_in : (level : ℕ) → Written P (block_form T R B) (block_tokens level)
  block-written_in level =
      behind labels-part-written (λ ls w.
      behind (decls-part-written words.CONST constdef-written) (λ cs w.
      behind (decls-part-written words.TYPE (typedef-written types)) (λ ts w.
      behind (decls-part-written words.VAR (vardef-written types)) (λ vs w.
      behind (items (ended-routine level)) (λ rs w.
      last (body (level + 1)) (λ k w. block-made level ls cs ts vs rs k))))))

  routine-written_in : (level : ℕ) → Written P (routine_form T R B) (routine_tokens level)
  routine-written_in level =
      behind heading-written (λ h w. sign signs.SEMICOLON
      (choice (last forward-written (λ x w. forward-made level h))
      (last (block-written_in level) (λ b w. routine-made level h b))))

module _ {P : TokenKind → Type 0} where
  files-written : Written P files_form (λ files. in_parens comma_sign (map ident_tokens files))
  files-written = parens comma_is identifier

  program-written_in : {G : Form Block} → Written P G (block_tokens 0) → Written P (program_form G) program_tokens
  program-written_in block =
      word words.PROGRAM (behind identifier (λ x w. behind files-written (λ files w. sign signs.SEMICOLON
      (behind block (λ b w. sign signs.PERIOD (done (program-made x files b)))))))

  -- ---- with any number of levels

  body-written : (d level : ℕ) → Written P (body_at d) (kind_tokens level)
  unfolding body_at
  body-written zero level = refused
  body-written (suc d) level =
      word words.BEGIN
      (compound-written (expr-written (suc d)) (expr-written d) (stmt-written d)
      (λ level. list semicolon_is (stmt-written d level)) level)

  routine-written : (d level : ℕ) → Written P (routine_at d) (routine_tokens level)
  unfolding routine_at
  routine-written zero level = refused
  routine-written (suc d) level = routine-written_in (type-written (suc d)) (routine-written d) (body-written d) level

  block-written : (d level : ℕ) → Written P (block_at d) (block_tokens level)
  unfolding block_at
  block-written d level = block-written_in (type-written (suc d)) (routine-written d) (body-written d) level

  pub program-written : (d : ℕ) → Written P (program_at d) program_tokens
  unfolding program_at
  program-written d = program-written_in (block-written d 0)

-- a program that some tokens spell is spelled by its own tokens
pub program-derives : (p : Tree) (ts : Toks) → Derives p ts → Derives p (program_tokens p)
program-derives p ts h = own-spell (program-written {P = λ t. Unit {0}} (LEVELS - 1)) p false ts h

-- and each of these is one of those
pub program-among : (P : TokenKind → Type 0) (p : Tree) (ts : Toks) → Derives p ts → AllByRecursion P ts
    → AllByRecursion P (program_tokens p)
program-among P p ts h = own-among (program-written {P = P} (LEVELS - 1)) p false ts h
