-- How an answer of the code tells that of the definition: both the place behind the items, or both the same fault.
use Rattle.std.specs.Prelude.{◌≡◌, Result, Ok, Err}
use Rattle.check_rules.specs.declared.fault.CheckEnd.{CheckEnd}
use Rattle.check_rules.specs.declared.fault.CheckEnd.TheVariants as the_end
use Rattle.check_decl.specs.declared.place.At.{At}
use Rattle.check_decl.specs.declared.heads.Headed.{Headed}
use Rattle.check_decl.specs.declared.programs.Scopes.{Scopes}
use Rattle.check_decl.specs.BlockRules.{Outcome, HeadOutcome}

-- want of memory tells nothing; sizes are none of these faults
abbrev pub Answers : Result At CheckEnd → Outcome → Type 0
Answers (Ok here) outcome = outcome ≡ Ok here
Answers (Err (the_end.Fault fault)) outcome = outcome ≡ Err fault
Answers (Err (the_end.Size fault)) outcome = ⊥
Answers (Err the_end.NoMemory) outcome = Unit {0}

-- the same of an answer after a heading
abbrev pub AnswersHead : Result Headed CheckEnd → HeadOutcome → Type 0
AnswersHead (Ok headed) outcome = outcome ≡ Ok headed
AnswersHead (Err (the_end.Fault fault)) outcome = outcome ≡ Err fault
AnswersHead (Err (the_end.Size fault)) outcome = ⊥
AnswersHead (Err the_end.NoMemory) outcome = Unit {0}

-- the same of the declarations of a program
abbrev pub AnswersScopes : Result Scopes CheckEnd → Outcome → Type 0
AnswersScopes (Ok scopes) outcome = outcome ≡ Ok scopes.end
AnswersScopes (Err (the_end.Fault fault)) outcome = outcome ≡ Err fault
AnswersScopes (Err (the_end.Size fault)) outcome = ⊥
AnswersScopes (Err the_end.NoMemory) outcome = Unit {0}
