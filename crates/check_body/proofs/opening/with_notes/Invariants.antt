use Rattle.std.proofs.Common.{◌≡◌, map, take}
use Rattle.check_body.specs.StatementRules as spec
use Rattle.check_body.specs.Statements.{access_judge}
use Rattle.check_body.proofs.opening.with_notes.Given as goal

abbrev pub invariant-loop-access : goal.invariant-loop-access
invariant-loop-access l =
    (l.notes ≡ spec.with_notes l.fn.env (map access_judge (take l.access-index l.records)))
    × (l.env ≡ spec.env_with_all l.fn.env (map access_judge (take l.access-index l.records)))
