-- Tests of tables of classes.
use Rattle.std.specs.Prelude.{Bool, true, false, if◌then◌else◌, [], ◌∷◌}
use Rattle.dice_base.specs.Tokens.{Classes, is_in}

-- each class of the first table is in the second
abbrev pub within : Classes → Classes → Bool
within [] B = true
within (k ∷ ks) B = if is_in B k then within ks B else false

-- no class of the first table is in the second
abbrev pub clear : Classes → Classes → Bool
clear [] B = true
clear (k ∷ ks) B = if is_in B k then false else clear ks B
