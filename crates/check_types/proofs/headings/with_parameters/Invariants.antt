use Rattle.std.proofs.Common.{◌≡◌, drop}
use Rattle.check_types.specs.Headings.{with_parameters}
use Rattle.check_types.proofs.headings.with_parameters.Given as goal

abbrev pub invariant-loop-ident : goal.invariant-loop-ident
invariant-loop-ident l =
    with_parameters l.by_place l.typing l.idents l.fn.walk
    ≡ with_parameters l.by_place l.typing (drop l.ident-index l.idents) l.so_far
