-- The two ends of a run: where its script comes from, and where its transcript goes.
use Rattle.std.specs.Prelude.{ℕ, List}
use Rattle.std.specs.declared.option.Option.{Option}

-- a source, before a run and after it: the bytes that are left, and the count of faults
pub record Input : Type 0 where
  pub left : Option (List ℕ)
  pub left_then : Option (List ℕ)
  pub faults : ℕ
  pub faults_then : ℕ

-- a sink, before a run and after it: the bytes that it holds, and the count of faults
pub record Output : Type 0 where
  pub held : Option (List ℕ)
  pub held_then : Option (List ℕ)
  pub faults : ℕ
  pub faults_then : ℕ
