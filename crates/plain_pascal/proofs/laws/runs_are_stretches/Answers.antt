use Rattle.plain_pascal.proofs.Resolved.{first_runs_are_stretches, links_lead, next_runs_are_stretches, runs_are_stretches}
use Rattle.plain_pascal.proofs.laws.runs_are_stretches.Goals as goal

pub returns-clause-law : goal.returns-clause-law
returns-clause-law c = runs_are_stretches

pub returns-clause-first : goal.returns-clause-first
returns-clause-first c = first_runs_are_stretches

pub returns-clause-following : goal.returns-clause-following
returns-clause-following c = next_runs_are_stretches

pub returns-clause-links : goal.returns-clause-links
returns-clause-links c = links_lead
