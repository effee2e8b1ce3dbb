use Rattle.std.proofs.Common.{◌≡◌, ◌-◌, [], ◌∷◌}
use Rattle.token_reader.specs.Readers.{many_from, some}
use Rattle.pascal_tree.specs.Classes.{ident_class}
use Rattle.block_parser.specs.Parts.{kind_in}
use Rattle.block_parser.specs.Readers.{ended_decl}
use Rattle.block_parser.proofs.parts.decls.Given as goal

abbrev pub invariant-loop-turn : goal.invariant-loop-turn
invariant-loop-turn l =
    some (ident_class ∷ []) (ended_decl (kind_in l.part l.depth)) l.fn.tokens
    ≡ many_from (ident_class ∷ []) (ended_decl (kind_in l.part l.depth)) (l._turn-end - l._turn) l.found l.tokens
