use Rattle.std.proofs.Common.{◌≡◌, ◌-◌, [], ◌∷◌}
use Rattle.token_reader.specs.Readers.{ended, ended_from}
use Rattle.pascal_tree.specs.Classes.{semicolon_class, ident_class}
use Rattle.declaration_parser.specs.Readers.{field, simple_in, type_in}
use Rattle.declaration_parser.proofs.types.Types.fields.Given as goal

abbrev pub invariant-loop-turn : goal.invariant-loop-turn
invariant-loop-turn g l =
    ended semicolon_class (ident_class ∷ []) (field (simple_in l.depth) (type_in l.depth)) l.fn.tokens
    ≡ ended_from semicolon_class (ident_class ∷ []) (field (simple_in l.depth) (type_in l.depth))
    (l._turn-end - l._turn) l.found l.tokens
