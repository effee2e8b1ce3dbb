-- An access by the place to which it leads; and the access that an expression is, where it is one and nothing more.
use Rattle.std.specs.Prelude.{List, [], ◌∷◌, Option, Some, None}
use Rattle.pascal_tree.specs.declared.expr.Prefix.{Prefix}
use Rattle.pascal_tree.specs.declared.expr.Prefix.TheVariants.{Without}
use Rattle.pascal_tree.specs.declared.expr.Expr.{Expr}
use Rattle.pascal_tree.specs.declared.expr.RelPart.{RelPart}
use Rattle.pascal_tree.specs.declared.expr.SumExpr.{SumExpr, out-SumExpr}
use Rattle.pascal_tree.specs.declared.expr.AddPart.{AddPart}
use Rattle.pascal_tree.specs.declared.expr.Term.{Term, out-Term}
use Rattle.pascal_tree.specs.declared.expr.MulPart.{MulPart}
use Rattle.pascal_tree.specs.declared.expr.Factor.{Factor, Factor-F, out-Factor}
use Rattle.pascal_tree.specs.declared.expr.Access.{Access, out-Access}
use Rattle.pascal_tree.specs.declared.expr.AccessPart.{AccessPart}
use Rattle.pascal_tree.specs.declared.expr.Arg.{Arg}
use Rattle.pascal_tree.specs.declared.expr.SetMember.{SetMember}
use Rattle.expression_rules.specs.declared.notes.Env.{Env}
use Rattle.expression_rules.specs.declared.notes.Place.{Place}
use Rattle.expression_rules.specs.Values.{Reached}
use Rattle.expression_rules.specs.Accesses.{entity_at, is_nil}

-- what an access is known to be, where it leads to this place
abbrev pub reached : Env → Access → Place → Reached
reached env a p = record { ident = (out-Access a).ident; entity = entity_at env (out-Access a).ident; place = p; whole = is_nil (out-Access a).parts }

abbrev pub access_of_factor : Factor-F AccessPart Factor Access AddPart Arg Expr MulPart RelPart SetMember SumExpr Term → Option Access
access_of_factor (Factor-F.Access a) = Some a
access_of_factor _ = None

abbrev pub access_of_term : Factor → List MulPart → Option Access
access_of_term f [] = access_of_factor (out-Factor f)
access_of_term f (m ∷ ms) = None

abbrev pub access_of_sum : Prefix → Term → List AddPart → Option Access
access_of_sum Without t [] = access_of_term (out-Term t).first (out-Term t).rest
access_of_sum _ t ms = None

abbrev pub access_of_relation : SumExpr → Option RelPart → Option Access
access_of_relation s None = access_of_sum (out-SumExpr s).prefix (out-SumExpr s).first (out-SumExpr s).rest
access_of_relation s (Some r) = None
