use Rattle.std.proofs.Common.{◌≡◌, take}
use Rattle.resolve_types.proofs.copies.copy_domains.Given as goal

abbrev pub invariant-loop-declared : goal.invariant-loop-declared
invariant-loop-declared l = l.all ≡ take l.declared-index l.domains
