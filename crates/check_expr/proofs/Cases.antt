-- What an identifier alone is, and what is passed by its place, by cases.
use Rattle.std.proofs.Common.{IfOk, Result, ◌≡◌, ◌<◌, Bool, true, false, if◌then◌else◌, List, [], ◌∷◌, Option, Some, None, length, refl, sym, ◌∙◌, arith}
use Rattle.pascal_tree.specs.declared.expr.Access.{Access, out-Access}
use Rattle.pascal_tree.specs.declared.expr.AccessPart.{AccessPart}
use Rattle.pascal_tree.specs.declared.expr.Expr.{Expr}
use Rattle.pascal_tree.specs.declared.expr.SetMember.{SetMember, out-SetMember}
use Rattle.dice_base.specs.declared.fault.NoMemory.{NoMemory}
use Rattle.check_expr.specs.declared.sets.Collected.{Collected}
use Rattle.expression_rules.specs.declared.notes.Judged.{Judged}
use Rattle.check_rules.specs.Typing.{Table, Text}
use Rattle.check_rules.specs.declared.kinds.TheConstants.{WRONG_ARGUMENTS}
use Rattle.check_rules.specs.declared.entity.Entity.{Entity}
use Rattle.check_rules.specs.declared.entity.Entity.TheVariants.{ConstantOf, TypeOf, VariableOf, FileOf, FieldOf, RoutineOf, StandardOf}
use Rattle.check_rules.specs.declared.entity.Parameter.{Parameter}
use Rattle.check_rules.specs.declared.entity.RoutineEntity.{RoutineEntity}
use Rattle.check_rules.specs.declared.entity.Standard.{Standard}
use Rattle.expression_rules.specs.declared.notes.Env.{Env}
use Rattle.expression_rules.specs.declared.notes.Notes.{Notes}
use Rattle.expression_rules.specs.declared.notes.Place.{Place}
use Rattle.expression_rules.specs.Values.{Reached, Value, Members, notes_of, notes_with, members_with}
use Rattle.expression_rules.specs.Accesses.{entity_at, first_place, is_function, entity_value, access_value, access_by, by_place_notes, variable_notes, arguments_notes}
use Rattle.expression_rules.specs.Expressions.{access_of, value_of, member_of}
use Rattle.check_expr.specs.Reaching.{reached}
use Rattle.check_expr.specs.Steps.{alone, may_be_variable, passed_notes, place_or_lost, members, with_member}
use Rattle.check_expr.proofs.Ranks.{reached_is, reached_by, member_is}

-- ---- an identifier alone

routine_alone : (env : Env) (x : Text) (f : RoutineEntity) (function : Bool) → f.function ≡ function
    → entity_value env (access_by x (Some (RoutineOf f)) []) true (Some (RoutineOf f)) ≡ alone env.table (Some (RoutineOf f))
routine_alone env x f true is = rw is refl
routine_alone env x f false is = rw is refl

standard_alone : (env : Env) (x : Text) (f : Standard) (function : Bool) → is_function f ≡ function
    → entity_value env (access_by x (Some (StandardOf f)) []) true (Some (StandardOf f)) ≡ alone env.table (Some (StandardOf f))
standard_alone env x f true is = rw is refl
standard_alone env x f false is = rw is refl

alone_by : (env : Env) (x : Text) (e : Option Entity) → entity_value env (access_by x e []) true e ≡ alone env.table e
alone_by env x None = refl
alone_by env x (Some (ConstantOf v t)) = refl
alone_by env x (Some (TypeOf t n)) = refl
alone_by env x (Some (VariableOf v)) = refl
alone_by env x (Some (FileOf f)) = refl
alone_by env x (Some (FieldOf f)) = refl
alone_by env x (Some (RoutineOf f)) = routine_alone env x f f.function refl
alone_by env x (Some (StandardOf f)) = standard_alone env x f (is_function f) refl

value_by : (env : Env) (r : Reached) (x : Text) (e : Option Entity) → r ≡ access_by x e [] → (access_value env r).judged ≡ alone env.table e
value_by env r x e is = rw is (alone_by env x e)

none_of : {A : Type 0} (xs : List A) → length xs < 1 → xs ≡ []
none_of [] short = refl
none_of (x ∷ xs) short = absurd (omega (arith, short))

reached_alone : (env : Env) (a : Access) (parts : List AccessPart) → (out-Access a).parts ≡ parts → parts ≡ [] → access_of env a ≡ access_by (out-Access a).ident (entity_at env (out-Access a).ident) []
reached_alone env a parts is empty =
    let nothing : (out-Access a).parts ≡ [] = is ∙ empty in
    reached_by env a (first_place (entity_at env (out-Access a).ident)) (rw nothing refl) ∙ rw nothing refl

pub alone_is : (env : Env) (a : Access) → length (out-Access a).parts < 1 → (access_value env (access_of env a)).judged ≡ alone env.table (entity_at env (out-Access a).ident)
alone_is env a short = value_by env (access_of env a) (out-Access a).ident (entity_at env (out-Access a).ident) (reached_alone env a (out-Access a).parts refl (none_of (out-Access a).parts short))

-- ---- what is passed by its place

variable_by : (p : Parameter) (v : Value) (r : Reached) (e : Option Entity) → variable_notes p v r e ≡ (if may_be_variable e then passed_notes p r e else notes_with v.judged.notes WRONG_ARGUMENTS)
variable_by p v r None = refl
variable_by p v r (Some (ConstantOf c t)) = refl
variable_by p v r (Some (TypeOf t n)) = refl
variable_by p v r (Some (VariableOf x)) = refl
variable_by p v r (Some (FileOf f)) = refl
variable_by p v r (Some (FieldOf f)) = refl
variable_by p v r (Some (RoutineOf f)) = refl
variable_by p v r (Some (StandardOf f)) = refl

passed_by : (env : Env) (p : Parameter) (v : Value) (a : Access) → v.access ≡ Some (access_of env a)
    → by_place_notes p v v.access ≡ (if may_be_variable (entity_at env (out-Access a).ident) then passed_notes p (reached env a (place_or_lost v.access)) (entity_at env (out-Access a).ident) else notes_with v.judged.notes WRONG_ARGUMENTS)
passed_by env p v a is = rw is (rw (reached_is env a) (variable_by p v (reached env a (access_of env a).place) (entity_at env (out-Access a).ident)))

-- what is no variable, and what may be one, where the judgement is this
pub no_variable_is : (r : Result Notes NoMemory) (env : Env) (p : Parameter) (v : Value) (a : Access) (variable : Bool) → IfOk r (λ n. n ≡ notes_with v.judged.notes WRONG_ARGUMENTS)
    → v.access ≡ Some (access_of env a) → variable ≡ may_be_variable (entity_at env (out-Access a).ident) → variable ≡ false → IfOk r (λ n. n ≡ by_place_notes p v v.access)
no_variable_is r env p v a variable put sole is other = rw (passed_by env p v a sole) (rw (sym is ∙ other) put)

pub variable_is : (r : Result Notes NoMemory) (env : Env) (p : Parameter) (v : Value) (a : Access) (at : Place) (variable : Bool) → IfOk r (λ n. n ≡ passed_notes p (reached env a at) (entity_at env (out-Access a).ident))
    → v.access ≡ Some (access_of env a) → at ≡ place_or_lost v.access → variable ≡ may_be_variable (entity_at env (out-Access a).ident) → variable ≡ true → IfOk r (λ n. n ≡ by_place_notes p v v.access)
variable_is r env p v a at variable put sole there is known = rw (passed_by env p v a sole) (rw (sym is ∙ known) (rw (sym there) put))

-- ---- members

pub member_alone : (env : Env) (m : SetMember) (x y : Members) (tys : Table) (v : Judged) → (out-SetMember m).last ≡ None → tys ≡ env.table → v ≡ (value_of env (out-SetMember m).first).judged
    → y ≡ members_with tys x v → y ≡ with_member env.table x (member_of env m)
member_alone env m x y tys v none table value is = rw (member_is env m) (rw none (rw (sym value) (rw (sym table) is)))

pub member_range : (r : Result Collected NoMemory) (env : Env) (m : SetMember) (e : Expr) (x y : Members) (tys : Table) (v w : Judged) → (out-SetMember m).last ≡ Some e → tys ≡ env.table
    → v ≡ (value_of env (out-SetMember m).first).judged → w ≡ (value_of env e).judged → y ≡ members_with tys x v
    → IfOk r (λ c. members c ≡ members_with tys y w) → IfOk r (λ c. members c ≡ with_member env.table x (member_of env m))
member_range r env m e x y tys v w some table value last is put = rw (member_is env m) (rw some (rw (sym value) (rw (sym last) (rw (sym table) (rw (sym is) put)))))

pub none_for : (tys : Table) (ps : List Parameter) → 0 < length ps → arguments_notes tys ps [] ≡ notes_of WRONG_ARGUMENTS
none_for tys [] some = absurd (omega (arith, some))
none_for tys (p ∷ ps) some = refl
