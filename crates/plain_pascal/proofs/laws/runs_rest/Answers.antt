use Rattle.plain_pascal.proofs.Resolved.{first_runs_rest, runs_rest}
use Rattle.plain_pascal.proofs.laws.runs_rest.Goals as goal

pub returns-clause-law : goal.returns-clause-law
returns-clause-law c = runs_rest

pub returns-clause-first : goal.returns-clause-first
returns-clause-first c = first_runs_rest
