-- Programs whose items have names, and which a text can spell, names aside.
use Rattle.std.specs.Prelude.{◌≡◌, ℕ, ◌<◌, ◌≤◌, true, eqb}
use Rattle.std.specs.List.{AllByRecursion, IsDistinct}
use Rattle.pascal_tree.specs.declared.program.Tree.{Tree}
use Rattle.pascal_tree.specs.Formed.{is_formed}
use Rattle.pascal_tree.specs.Names.{program_names}

-- a number that can name an item, where the next name is given
abbrev pub IsNameBelow : ℕ → ℕ → Type 0
IsNameBelow next n = (1 ≤ n) × (n < next)

-- each item has a name of its own, which is at least 1 and below the next one
pub record IsNamed (p : Tree) : Type 0 where
  pub differ : IsDistinct eqb (program_names p)
  pub within : AllByRecursion (IsNameBelow p.next) (program_names p)
  pub small : p.next ≤ 4294967295

-- and the tree is one that a text can spell, names aside, with at most 64 levels
pub record IsProgram (p : Tree) : Type 0 where
  pub named : IsNamed p
  pub formed : is_formed p ≡ true
