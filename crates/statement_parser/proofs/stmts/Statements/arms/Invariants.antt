use Rattle.std.proofs.Common.{◌≡◌, ◌-◌}
use Rattle.token_reader.specs.Readers.{ended, ended_from}
use Rattle.pascal_tree.specs.Classes.{semicolon_class}
use Rattle.declaration_parser.specs.Readers.{constant_first}
use Rattle.statement_parser.specs.Readers.{arm}
use Rattle.statement_parser.specs.NestsStmt.{part_in}
use Rattle.statement_parser.proofs.stmts.Statements.arms.Given as goal

abbrev pub invariant-loop-turn : goal.invariant-loop-turn
invariant-loop-turn g l =
    ended semicolon_class constant_first (arm (part_in l.self.parts l.depth)) l.fn.tokens
    ≡ ended_from semicolon_class constant_first (arm (part_in l.self.parts l.depth))
    (l._turn-end - l._turn) l.found l.tokens
