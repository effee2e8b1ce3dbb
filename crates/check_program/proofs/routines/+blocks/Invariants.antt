use Rattle.std.proofs.Common.{◌≡◌, drop}
use Rattle.check_decl.specs.declared.place.Owner.{Owner}
use Rattle.resolve_types.specs.Programs.{context_of}
use Rattle.check_program.proofs.Walked.{Completes}
use Rattle.check_program.proofs.routines.+blocks.Given as goal

abbrev pub invariant-push_routines-loop-routine : goal.invariant-push_routines-loop-routine
invariant-push_routines-loop-routine l = record {
  same : l.context ≡ l.fn.context;
  completes : (owner : Owner) → l.fn.context ≡ context_of l.source.end owner
      → Completes l.source.end owner l.fn.out l.out (drop l.routine-index l.routines) l.routines;
}
