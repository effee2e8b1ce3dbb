-- The word of each part of the declarations of a block, and what reads one declaration of it.
use Rattle.std.specs.Prelude.{ℕ}
use Rattle.token_reader.specs.Readers.{Parser}
use Rattle.pascal_tree.specs.declared.decl.DeclKind.{DeclKind}
use Rattle.pascal_tree.specs.Classes.{const_class, type_class, var_class}
use Rattle.declaration_parser.specs.Readers.{type_in, constdef, typedef, vardef}
use Rattle.block_parser.specs.declared.parts.Part.{Part}
use Rattle.block_parser.specs.declared.parts.Part.TheVariants.{Consts, Types, Vars}

abbrev pub word_of : Part → ℕ
word_of Consts = const_class
word_of Types = type_class
word_of Vars = var_class

-- where a type has one of so many levels
abbrev pub kind_in : Part → ℕ → Parser DeclKind
kind_in Consts d = constdef
kind_in Types d = typedef (type_in d)
kind_in Vars d = vardef (type_in d)
