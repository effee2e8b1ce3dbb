use Rattle.std.proofs.Common.{◌≡◌, drop}
use Rattle.simple_form.specs.Simple.{all_new}
use Rattle.simple_form.proofs.program.all_new.Given as goal

abbrev pub invariant-loop-at : goal.invariant-loop-at
invariant-loop-at l = all_new l.idents ≡ all_new (drop l.at l.idents)
