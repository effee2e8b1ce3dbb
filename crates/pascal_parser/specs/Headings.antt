-- Nothing nests in a heading (ISO 7185:1990, 6.6.1, 6.6.2), so it is the same with any number of levels.
use Rattle.std.specs.Prelude.{ℕ}
use Rattle.dice_base.specs.Forms.{Form}
use Rattle.token_reader.specs.Readers.{Parser}
use Rattle.pascal_tree.specs.declared.decl.Heading.{Heading}
use Rattle.pascal_tree.specs.Declarations.{heading_form}
use Rattle.declaration_parser.specs.Readers.{heading}

unfoldable pub heading_at : ℕ → Form Heading
heading_at d = heading_form

unfoldable pub heading_in : ℕ → Parser Heading
heading_in d = heading
