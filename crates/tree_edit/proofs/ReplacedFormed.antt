-- A formed program with a formed statement in the place of another is formed, unless that edit is refused.
use Rattle.std.specs.Prelude.{◌≡◌, ℕ, ◌+◌, ◌≤◌, ltb, leb, Bool, true, false, not, ◌&&◌, ◌||◌, List, length, map}
use Rattle.std.proofs.Common.{sym, ◌∙◌, arith, leb-true, le-leb}
use Rattle.std.proofs.lemmas.Bool.Decides.{nat_tests}
use Rattle.pascal_tree.specs.declared.levels.TheConstants.{LEVELS}
use Rattle.pascal_tree.specs.declared.stmt.Stmt.{Stmt, out-Stmt}
use Rattle.pascal_tree.specs.declared.program.Tree.{Tree}
use Rattle.pascal_tree.specs.Names.{stmt_renaming}
use Rattle.pascal_tree.specs.FormedExprs.{is_identifier, all_formed}
use Rattle.pascal_tree.specs.Formed.{is_body, stmt_is_formed, block_is_formed, program_is_formed, is_formed, is_formed_stmt}
use Rattle.pascal_tree.specs.Openness.{is_paired, program_is_paired}
use Rattle.pascal_tree.specs.Depth.{stmt_depth, tree_levels}
use Rattle.tree_edit.specs.Edited.{can_stand, last_level, edited_program, is_right_kind}
use Rattle.tree_edit.specs.Place.{put_in_block, leads_to_body}
use Rattle.expression_laws.proofs.Words.{and-parts, and-true}
use Rattle.tree_laws.proofs.Renamed.{renamed-formed, renamed-levels, renamed-body}
use Rattle.tree_edit.proofs.FormedAfter.{put_block-formed}
use Rattle.tree_edit.proofs.LevelsAfter.{put_block-levels}

stands : (a b : Bool) → (not a || b) ≡ true → a ≡ true → b ≡ true
stands true b e f = e
stands false b e f = absurd cc

-- ---- the edited program

module _ (t : Tree) (x : Stmt) (formed : is_formed t ≡ true) (stmt_formed : is_formed_stmt x ≡ true) where
  record Program : Type 0 where
    is : program_is_formed t ≡ true
    levels : tree_levels t ≤ LEVELS
    stmt : stmt_is_formed x ≡ true

  parts : Program
  parts =
      let (p, n) = and-parts (program_is_formed t && program_is_paired t) (leb (tree_levels t) LEVELS) formed in
      let (f, q) = and-parts (program_is_formed t) (program_is_paired t) p in
      let (r, m) = and-parts (stmt_is_formed x && is_paired x) (leb (stmt_depth x) LEVELS) stmt_formed in
      let (g, u) = and-parts (stmt_is_formed x) (is_paired x) r in
      record { is = f; levels = leb-true (tree_levels t) LEVELS n; stmt = g }

  edited-formed : (old : Stmt) (path : List ℕ) → can_stand path x t.block ≡ true
      → program_is_paired (edited_program old path x t) ≡ true → last_level path x ≤ LEVELS
      → is_formed (edited_program old path x t) ≡ true
  edited-formed old path stand paired levels =
      let new = (stmt_renaming (out-Stmt old).name.0 x t.next).0 in
      let (p, b) =
      and-parts (is_identifier t.ident && all_formed (map is_identifier t.files))
      (block_is_formed t.block) parts.is in
      let new_formed : stmt_is_formed new ≡ true = renamed-formed (out-Stmt old).name.0 x t.next ∙ parts.stmt in
      let block : block_is_formed (put_in_block path new t.block) ≡ true =
      put_block-formed path new new_formed t.block
      (λ to. renamed-body (out-Stmt old).name.0 x t.next
      (stands (leads_to_body path t.block) (is_body x) stand to)) b in
      let bound = put_block-levels path new t.block in
      let same : stmt_depth new ≡ stmt_depth x = renamed-levels (out-Stmt old).name.0 x t.next in
      let low : tree_levels (edited_program old path x t) ≤ LEVELS =
      omega (arith, bound, same, parts.levels, levels) in
      and-true (program_is_formed (edited_program old path x t) && program_is_paired (edited_program old path x t))
      (leb (tree_levels (edited_program old path x t)) LEVELS)
      (and-true (program_is_formed (edited_program old path x t)) (program_is_paired (edited_program old path x t))
      (and-true _ _ p block) paired)
      (le-leb (tree_levels (edited_program old path x t)) LEVELS low)

  -- where the edit is of the right kind, and not too deep
  pub replaced-formed : (old : Stmt) (path : List ℕ) (levels : ℕ) → levels ≡ stmt_depth x
      → true ≡ is_right_kind old path x t → false ≡ ltb 64 (length path + levels)
      → is_formed (edited_program old path x t) ≡ true
  replaced-formed old path levels same right low =
      let (stand, paired) = and-parts (can_stand path x t.block) (program_is_paired (edited_program old path x t)) (sym right) in
      let deep : length path + levels ≤ LEVELS = grind (arith, nat_tests) in
      edited-formed old path stand paired (omega (arith, same, deep))
