use Rattle.std.proofs.Common.{◌≡◌, ◌++◌, map, drop}
use Rattle.resolve_statements.specs.Forms.{case_label}
use Rattle.resolve_statements.proofs.control.push_arm_labels.Given as goal

abbrev pub invariant-loop-constant : goal.invariant-loop-constant
invariant-loop-constant l =
    l.fn.out ++ map (case_label l.env l.arm) l.constants
    ≡ l.out ++ map (case_label l.env l.arm) (drop l.constant-index l.constants)
