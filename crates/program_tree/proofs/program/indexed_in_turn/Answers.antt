use Rattle.std.proofs.Common.{arith}
use Rattle.program_tree.proofs.Counted.{named_by_counting}
use Rattle.program_tree.proofs.program.indexed_in_turn.Goals as goal

pub indexed-requires : goal.indexed-requires
indexed-requires c = record { named = named_by_counting _ c.requires.names (omega arith); formed = c.requires.formed }
