use Rattle.std.proofs.Common.{◌≡◌, ◌-◌, ◌+◌, ◌*◌, []}
use Rattle.token_reader.specs.Readers.{many, many_from}
use Rattle.block_parser.specs.Readers.{routine_first, ended_routine, routine_in}
use Rattle.block_parser.proofs.blocks.+blocks.Given as goal

abbrev pub invariant-routines-loop-turn : goal.invariant-routines-loop-turn
invariant-routines-loop-turn g l =
    many routine_first (ended_routine (routine_in g.B.ReadsBodies.body_in l.depth)) [] l.fn.tokens
    ≡ many_from routine_first (ended_routine (routine_in g.B.ReadsBodies.body_in l.depth))
    (l._turn-end - l._turn) l.found l.tokens

abbrev pub decreases-routine : goal.decreases-routine
decreases-routine g l = 4 * l.depth

abbrev pub decreases-routines : goal.decreases-routines
decreases-routines g l = 4 * l.depth + 1

abbrev pub decreases-block : goal.decreases-block
decreases-block g l = 4 * l.depth + 2

abbrev pub decreases-routine_rest : goal.decreases-routine_rest
decreases-routine_rest g l = 4 * l.depth + 3
