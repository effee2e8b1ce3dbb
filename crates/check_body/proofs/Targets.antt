-- Targets of assignments, by cases.
use Rattle.std.proofs.Common.{◌≡◌, Bool, true, false, ◌&&◌, Option, Some, None, refl, ap, ◌∙◌}
use Rattle.check_rules.specs.declared.entity.Entity.{Entity}
use Rattle.check_rules.specs.declared.entity.Entity.TheVariants.{ConstantOf, TypeOf, VariableOf, FileOf, FieldOf, RoutineOf, StandardOf}
use Rattle.check_rules.specs.declared.entity.RoutineEntity.{RoutineEntity}
use Rattle.expression_rules.specs.declared.notes.Env.{Env}
use Rattle.expression_rules.specs.Values.{Reached}
use Rattle.pascal_tree.specs.declared.expr.Access.{Access, out-Access}
use Rattle.expression_rules.specs.Accesses.{entity_at, is_nil}
use Rattle.expression_rules.specs.Expressions.{access_of}
use Rattle.check_expr.proofs.Ranks.{reached_is}
use Rattle.check_body.specs.StatementRules as rules
use Rattle.check_body.specs.Steps.{result_typing, target_or_place, target_of}

routine_target : (env : Env) (r : Reached) (f : RoutineEntity) (open_one : Bool) → (f.function && rules.is_open env.functions f.name) ≡ open_one
    → rules.target_of env r (Some (RoutineOf f)) true ≡ target_or_place (result_typing env (Some (RoutineOf f)) true) r
routine_target env r f true is = rw is refl
routine_target env r f false is = rw is refl

target_by : (env : Env) (r : Reached) (e : Option Entity) (whole : Bool) → rules.target_of env r e whole ≡ target_or_place (result_typing env e whole) r
target_by env r None true = refl
target_by env r None false = refl
target_by env r (Some (ConstantOf c t)) true = refl
target_by env r (Some (ConstantOf c t)) false = refl
target_by env r (Some (TypeOf t n)) true = refl
target_by env r (Some (TypeOf t n)) false = refl
target_by env r (Some (VariableOf v)) true = refl
target_by env r (Some (VariableOf v)) false = refl
target_by env r (Some (FileOf f)) true = refl
target_by env r (Some (FileOf f)) false = refl
target_by env r (Some (FieldOf f)) true = refl
target_by env r (Some (FieldOf f)) false = refl
target_by env r (Some (RoutineOf f)) true = routine_target env r f (f.function && rules.is_open env.functions f.name) refl
target_by env r (Some (RoutineOf f)) false = refl
target_by env r (Some (StandardOf f)) true = refl
target_by env r (Some (StandardOf f)) false = refl

pub target_is : (env : Env) (r : Reached) → target_of env r ≡ target_or_place (result_typing env r.entity r.whole) r
target_is env r = target_by env r r.entity r.whole

-- the target of an access by what it begins at
pub target_at : (env : Env) (a : Access) → target_of env (access_of env a) ≡ target_or_place (result_typing env (entity_at env (out-Access a).ident) (is_nil (out-Access a).parts)) (access_of env a)
target_at env a = target_is env (access_of env a) ∙ ap (λ r. target_or_place (result_typing env r.entity r.whole) (access_of env a)) (reached_is env a)
