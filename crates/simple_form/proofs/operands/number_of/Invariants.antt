use Rattle.std.proofs.Common.{◌≡◌, drop}
use Rattle.std.specs.Str.{bytes_eq}
use Rattle.std.specs.List.{position_from}
use Rattle.simple_form.proofs.operands.number_of.Given as goal

abbrev pub invariant-loop-number : goal.invariant-loop-number
invariant-loop-number l =
    position_from (λ entry. bytes_eq entry l.ident) 0 l.variables
    ≡ position_from (λ entry. bytes_eq entry l.ident) l.number (drop l.number l.variables)
