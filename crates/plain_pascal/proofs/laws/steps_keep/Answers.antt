use Rattle.plain_pascal.proofs.Steps.{assignments_keep, steps_keep}
use Rattle.plain_pascal.proofs.Running.{loaded_well, runs_keep}
use Rattle.plain_pascal.proofs.Surround.{resolved_order}
use Rattle.plain_pascal.proofs.laws.steps_keep.Goals as goal

pub returns-clause-steps : goal.returns-clause-steps
returns-clause-steps c = steps_keep

pub returns-clause-loaded : goal.returns-clause-loaded
returns-clause-loaded c = loaded_well

pub returns-clause-runs : goal.returns-clause-runs
returns-clause-runs c = runs_keep

pub returns-clause-order : goal.returns-clause-order
returns-clause-order c = resolved_order

pub returns-clause-assignments : goal.returns-clause-assignments
returns-clause-assignments c = assignments_keep
