-- The laws, of resolved programs.
use Rattle.std.proofs.Common.{◌≡◌, true, List, [], ◌∷◌, refl, ap}
use Rattle.plain_pascal.specs.Program.{program_of}
use Rattle.plain_pascal.specs.State.{Status, NotStarted, Halted, Ended, Failed, Control}
use Rattle.plain_pascal.specs.Run.{cleared, driven, fresh, no_frames, rests_by, started}
use Rattle.plain_pascal.specs.Program.{Program}
use Rattle.plain_pascal.specs.Standing.{Stands, StandsIn}
use Rattle.plain_pascal.specs.Laws.{RunsSplit, LinksLead, RunsRest, FirstRunsRest, RunsAreStretches, FirstRunsAreStretches, NextRunsAreStretches}
use Rattle.plain_pascal.proofs.Splits.{run_splits}
use Rattle.plain_pascal.proofs.Placed.{run_stage, run_ends}
use Rattle.plain_pascal.proofs.Run.{first_run, next_run, run_stands, start_stands}
use Rattle.plain_pascal.proofs.Core.{resolved_table}

pub runs_split : RunsSplit
runs_split P marks j k s = run_splits P marks k j s

pub links_lead : LinksLead
links_lead x m c = (resolved_table x m c).closed

stands_rests : (P : Program) (st : Status) (control : List Control) → StandsIn P st control → rests_by st control ≡ true
stands_rests P NotStarted control h = refl
stands_rests P Halted [] h = refl
stands_rests P Halted (c ∷ older) h = ap no_frames h.0
stands_rests P Ended control h = refl
stands_rests P (Failed e n) control h = refl

pub runs_rest : RunsRest
runs_rest x m c marks k s h =
    let stands : Stands (program_of x) (driven k (program_of x) marks s).last = run_stands (program_of x) m (resolved_table x m c) marks k s h in
    (stands_rests (program_of x) (driven k (program_of x) marks s).last.status (driven k (program_of x) marks s).last.control stands, stands)

pub first_runs_rest : FirstRunsRest
first_runs_rest x m c marks k d = runs_rest x m c marks k (started (program_of x) (fresh (cleared d))) (start_stands (program_of x) m (resolved_table x m c) (cleared d))

pub runs_are_stretches : RunsAreStretches
runs_are_stretches x m c marks k s h = (run_stage (program_of x) m (resolved_table x m c) marks k s h, run_ends (program_of x) m (resolved_table x m c) marks k s h)

pub first_runs_are_stretches : FirstRunsAreStretches
first_runs_are_stretches x m c marks k d = first_run (program_of x) m (resolved_table x m c) marks k d

pub next_runs_are_stretches : NextRunsAreStretches
next_runs_are_stretches x m c marks k a older d h = next_run (program_of x) m (resolved_table x m c) marks k a older d h
