-- Tokens of which each is one of some text are those of one text, and so a formed tree is one that a text spells.
use Rattle.std.specs.Prelude.{ℕ, List, [], ◌∷◌, ◌++◌}
use Rattle.std.proofs.Common.{refl}
use Rattle.std.specs.Bool.{Decides}
use Rattle.std.specs.List.{AllByRecursion}
use Rattle.dice_base.specs.Tokens.{Toks}
use Rattle.pascal_tree.specs.declared.levels.TheConstants.{LEVELS}
use Rattle.pascal_tree.specs.declared.stmt.Stmt.{Stmt}
use Rattle.pascal_tree.specs.declared.program.Tree.{Tree}
use Rattle.pascal_tree.specs.Formed.{is_formed, is_formed_stmt}
use Rattle.pascal_tree.specs.Sources.{HasSource, HasStatementSource, HasLexeme}
use Rattle.expression_laws.proofs.Words.{lexes_each}
use Rattle.tree_laws.proofs.Formed.{programs, statements}
use Rattle.token_texts.proofs.Gaps.{Spaced, nothing, gap, puts, spaced-lexes}

-- a blank behind each
record OneText (ts : Toks) : Type 0 where
  text : List ℕ
  spaced : Spaced text ts

one-text : (ts : Toks) → AllByRecursion HasLexeme ts → OneText ts
one-text [] each = record { text = []; spaced = nothing }
one-text (t ∷ ts) each =
    let r = one-text ts each.1 in
    record {
      text = each.0.text ++ 32 ∷ r.text;
      spaced = puts each.0.text (32 ∷ r.text) t ts each.0.is refl (gap 32 r.text ts refl r.spaced);
    }

pub program-sources : (p : Tree) → Decides (is_formed p) (HasSource p)
program-sources p = (
  λ e.
      (let s = (programs p).0 e in
      let r = one-text s.tokens s.each in
      record { source = r.text; tokens = s.tokens; lexes = spaced-lexes r.text s.tokens r.spaced; derives = s.holds }),
  λ h. (programs p).1 (record { tokens = h.tokens; holds = h.derives; each = lexes_each [] h.source h.tokens h.lexes }),
)

pub statement-sources : (x : Stmt) → Decides (is_formed_stmt x) (HasStatementSource LEVELS x)
statement-sources x = (
  λ e.
      (let s = (statements x).0 e in
      let r = one-text s.tokens s.each in
      record {
        source = r.text;
        tokens = s.tokens;
        flag = s.holds.0;
        lexes = spaced-lexes r.text s.tokens r.spaced;
        derives = s.holds.1;
      }),
  λ h.
      (statements x).1 (record {
        tokens = h.tokens;
        holds = (h.flag, h.derives);
        each = lexes_each [] h.source h.tokens h.lexes;
      }),
)
