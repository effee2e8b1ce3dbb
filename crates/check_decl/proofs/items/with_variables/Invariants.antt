use Rattle.std.proofs.Common.{◌≡◌, drop}
use Rattle.check_decl.specs.BlockRules.{with_variables}
use Rattle.check_decl.proofs.items.with_variables.Given as goal

abbrev pub invariant-loop-ident : goal.invariant-loop-ident
invariant-loop-ident l = with_variables l.owner l.typing l.idents (l.fn.first.here, l.fn.first.kind) ≡ with_variables l.owner l.typing (drop l.ident-index l.idents) (l.so_far.here, l.so_far.kind)
