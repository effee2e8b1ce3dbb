-- Values that a text can spell: by a form, from tokens of which each is one of some text.
use Rattle.std.specs.Prelude.{Bool}
use Rattle.std.specs.List.{AllByRecursion}
use Rattle.dice_base.specs.Tokens.{Toks}
use Rattle.dice_base.specs.Forms.{Form}
use Rattle.pascal_tree.specs.Sources.{HasLexeme}

-- some such tokens spell the value by the form, and it is open or not
pub record Spelled {A : Type 0} (g : Form A) (a : A) (w : Bool) : Type 0 where
  pub tokens : Toks
  pub spell : g.full a w tokens
  pub each : AllByRecursion HasLexeme tokens
