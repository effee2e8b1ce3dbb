use Rattle.std.proofs.Common.{◌≡◌, ◌-◌, [], ◌∷◌}
use Rattle.token_reader.specs.Readers.{many_from, separated, expect, ◌>>◌}
use Rattle.pascal_tree.specs.Classes.{semicolon_class}
use Rattle.statement_parser.specs.NestsStmt.{part_in}
use Rattle.statement_parser.proofs.stmts.Statements.part_list.Given as goal

abbrev pub invariant-loop-turn : goal.invariant-loop-turn
invariant-loop-turn g l =
    separated semicolon_class (part_in l.self.parts l.depth) l.fn.tokens
    ≡ many_from (semicolon_class ∷ []) (expect semicolon_class >> part_in l.self.parts l.depth)
    (l._turn-end - l._turn) l.found l.tokens
