use Rattle.std.proofs.Common.{◌∙◌}
use Rattle.program_tree.proofs.Indexed.{found_in-insert}
use Rattle.program_tree.proofs.index.index_entries.Goals as goal

pub loop-entry-preserved : goal.loop-entry-preserved
loop-entry-preserved c n =
    found_in-insert n _ _ _ c.loop-entry.index c.insert_path.new.index c.in-Some.ensures (c.in_ok-insert_path.ensures n) ∙ c.loop-entry.invariant n
