use Rattle.std.proofs.Common.{◌≡◌, drop, map}
use Rattle.check_decl.specs.BlockRules.{routine_items}
use Rattle.check_decl.specs.Blocks.{routine_judge}
use Rattle.check_decl.proofs.blocks.+blocks.Given as goal

abbrev pub invariant-routine_items-loop-index : goal.invariant-routine_items-loop-index
invariant-routine_items-loop-index g l = record {
  kept : l.outer ≡ l.fn.outer;
  same :
      routine_items l.owner l.fn.outer (map (routine_judge (g.B.JudgesBodies.rule l.bodies)) l.routines) l.fn.here
      ≡ routine_items l.owner l.fn.outer (map (routine_judge (g.B.JudgesBodies.rule l.bodies)) (drop l.index l.routines)) l.so_far;
}
