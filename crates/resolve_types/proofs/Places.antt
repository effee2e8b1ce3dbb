-- The rows with which the block of a routine begins are those of its heading.
use Rattle.std.proofs.Common.{◌≡◌, suc, ◌+◌, Bool, true, false, List, [], ◌∷◌, ◌++◌, drop, length, map, Some, None, is_some, if◌then◌else◌, refl, sym, ap, ◌∙◌, arith}
use Rattle.dice_base.specs.declared.name.Name.{Name}
use Rattle.check_rules.specs.declared.entity.Parameter.{Parameter}
use Rattle.check_rules.specs.declared.entity.RoutineEntity.{RoutineEntity}
use Rattle.check_rules.specs.declared.kinds.TheConstants.{CLEAN}
use Rattle.check_rules.specs.Typing.{Text}
use Rattle.check_rules.specs.Regions.{Texts}
use Rattle.check_decl.specs.declared.place.At.{At}
use Rattle.check_decl.specs.declared.place.Known.{Known}
use Rattle.check_decl.specs.declared.place.Row.{Row}
use Rattle.check_decl.specs.BlockRules.{Judging, new_block, parameter_idents, place_inside, with_parameters, with_result_row, with_row, with_variable}
use Rattle.core_tree.specs.declared.shape.Shape.{Shape}
use Rattle.resolve_types.specs.Resolved.{core_heading, core_variable, core_variables, declared_shape, heading_parameter, heading_rows}

one_more : (rs : List Row) (r : Row) → length (rs ++ r ∷ []) ≡ suc (length rs)
one_more [] r = refl
one_more (x ∷ rs) r = ap suc (one_more rs r)

rows_after : (owner : Name) (ps : List Parameter) (r : Judging) → length ((with_parameters owner ps r).0).rows ≡ length (r.0).rows + length ps
rows_after owner [] r = grind arith
rows_after owner (p ∷ ps) r =
    let next : length ((with_variable owner p.ident p.typing p.by_place false r).0).rows ≡ suc (length (r.0).rows) = one_more (r.0).rows _ in
    rows_after owner ps (with_variable owner p.ident p.typing p.by_place false r) ∙ omega (arith, next)

same_length : (ps : List Parameter) → length (map heading_parameter ps) ≡ length ps
same_length [] = refl
same_length (p ∷ ps) = ap suc (same_length ps)

drop_all : (xs ys : List Row) → drop (length xs) (xs ++ ys) ≡ ys
drop_all [] ys = refl
drop_all (x ∷ xs) ys = drop_all xs ys

result_rows : (b : Bool) (s : Shape) (with_row without : At) → length with_row.rows ≡ 1 → length without.rows ≡ 0 → length (if b then with_row else without).rows ≡ (if is_some (if b then Some s else None) then 1 else 0)
result_rows true s with_row without one none = one
result_rows false s with_row without one none = none

rows_before : (x : Text) (f : RoutineEntity) (idents : Texts) (known : Known) → length (place_inside x f idents known).rows ≡ heading_rows (core_heading f)
rows_before x f idents known =
    let start = new_block known (parameter_idents f.parameters ++ idents) in
    rows_after f.name f.parameters (with_result_row x f start, CLEAN)
    ∙ (ap (λ n. n + length f.parameters) (result_rows f.function (declared_shape f.result) (with_row start x f.result false) start refl refl)
    ∙ ap (λ n. (if is_some (core_heading f).result then 1 else 0) + n) (sym (same_length f.parameters)))

pub variables_behind : (x : Text) (f : RoutineEntity) (idents : Texts) (known : Known) (more : List Row) → core_variables (core_heading f) ((place_inside x f idents known).rows ++ more) ≡ map core_variable more
variables_behind x f idents known more =
    let rows = (place_inside x f idents known).rows in
    ap (λ n. map core_variable (drop n (rows ++ more))) (sym (rows_before x f idents known)) ∙ ap (map core_variable) (drop_all rows more)
