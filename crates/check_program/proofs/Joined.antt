-- Routines and blocks that are added one after the other.
use Rattle.std.proofs.Common.{◌≡◌, ℕ, List, [], ◌∷◌, ◌++◌, map, Result, Ok, Err, refl, ap, sym, subst, ◌∙◌, append_assoc, append-nil}
use Rattle.pascal_tree.specs.declared.stmt.Stmt.{Stmt}
use Rattle.check_rules.specs.declared.fault.CheckEnd.{CheckEnd}
use Rattle.check_rules.specs.declared.fault.CheckEnd.TheVariants as the_end
use Rattle.check_rules.specs.declared.entity.RoutineEntity.{RoutineEntity}
use Rattle.check_rules.specs.Typing.{Text}
use Rattle.check_decl.specs.declared.place.At.{At}
use Rattle.core_tree.specs.declared.program.CoreBlock.{CoreBlock}
use Rattle.core_tree.specs.Control.{CoreRow, RoutineRow}
use Rattle.core_tree.specs.Views.{routine_row}
use Rattle.resolve_expr.specs.declared.context.Context.{Context}
use Rattle.resolve_statements.specs.declared.place.Place.{Place}
use Rattle.resolve_statements.specs.Sizes.{ArePushed, Pushed}
use Rattle.resolve_statements.specs.Tables.{PushedOver, rows_of, stmt_rows}
use Rattle.resolve_statements.proofs.Pushing.{pushed_behind, ended_before}
use Rattle.check_program.specs.declared.lists.Lists.{Lists}
use Rattle.check_program.specs.Resolution.{Adds, AddsBody, Headings, Listed, body_place, trees_in}

-- ---- one behind the other

listed_behind : {U : Type 0} (r : Result U CheckEnd) (old middle new xs ys : List RoutineRow)
    → middle ≡ old ++ xs → Listed r middle new ys → Listed r old new (xs ++ ys)
listed_behind (Ok u) old middle new xs ys before more = more ∙ (ap (λ zs. zs ++ ys) before ∙ append_assoc old xs ys)
listed_behind (Err e) old middle new xs ys before more = tt

pub adds_behind : {U V : Type 0} (r : Result U CheckEnd) (v : V) (end : At) (old middle new : Lists)
    (l first later : Headings → List RoutineRow) (x front back : Headings → List CoreRow)
    → ((h : Headings) → l h ≡ first h ++ later h) → ((h : Headings) → x h ≡ front h ++ back h)
    → Adds (Ok v) end old middle first front → Adds r end middle new later back → Adds r end old new l x
adds_behind r v end old middle new l first later x front back ls xs before more = record {
  routines = λ h.
      subst (λ zs. Listed r (map (routine_row (trees_in end)) old.routines) (map (routine_row (trees_in end)) new.routines) zs) (sym (ls h))
      (listed_behind r (map (routine_row (trees_in end)) old.routines) (map (routine_row (trees_in end)) middle.routines)
      (map (routine_row (trees_in end)) new.routines) (first h) (later h) (before.routines h) (more.routines h));
  blocks = λ h.
      subst (λ zs. Pushed r (rows_of old.blocks (trees_in end) h) (rows_of new.blocks (trees_in end) h) zs) (sym (xs h))
      (pushed_behind r (rows_of old.blocks (trees_in end) h) (rows_of middle.blocks (trees_in end) h)
      (rows_of new.blocks (trees_in end) h) (front h) (back h) (before.blocks h) (more.blocks h));
}

pub adds_ended : (U V : Type 0) (e : CheckEnd) (end : At) (old new other : Lists)
    (l first : Headings → List RoutineRow) (x front back : Headings → List CoreRow)
    → ((h : Headings) → x h ≡ front h ++ back h)
    → Adds {U = U} (Err e) end old new first front → Adds {U = V} (Err e) end old other l x
adds_ended U V e end old new other l first x front back xs ends = record {
  routines = λ h. tt;
  blocks = λ h.
      subst (λ zs. Pushed {U = V} (Err e) (rows_of old.blocks (trees_in end) h) (rows_of other.blocks (trees_in end) h) zs) (sym (xs h))
      (ended_before U V e (rows_of old.blocks (trees_in end) h) (rows_of new.blocks (trees_in end) h)
      (rows_of other.blocks (trees_in end) h) (front h) (back h) (ends.blocks h));
}

-- nothing is added
pub adds_none : {U : Type 0} (u : U) (end : At) (old : Lists) (l : Headings → List RoutineRow) (x : Headings → List CoreRow)
    → ((h : Headings) → l h ≡ []) → ((h : Headings) → x h ≡ []) → Adds (Ok u) end old old l x
adds_none u end old l x ls xs = record {
  routines = λ h. sym (ap (λ zs. map (routine_row (trees_in end)) old.routines ++ zs) (ls h) ∙ append-nil (map (routine_row (trees_in end)) old.routines));
  blocks = λ h.
      subst (λ zs. ArePushed (rows_of old.blocks (trees_in end) h) (rows_of old.blocks (trees_in end) h) zs) (sym (xs h))
      (record { pushed = sym (append-nil (rows_of old.blocks (trees_in end) h)); fit = refl });
}

pub adds_same : {U : Type 0} (r : Result U CheckEnd) (end : At) (old new : Lists)
    (l m : Headings → List RoutineRow) (x y : Headings → List CoreRow)
    → ((h : Headings) → m h ≡ l h) → ((h : Headings) → y h ≡ x h) → Adds r end old new l x → Adds r end old new m y
adds_same r end old new l m x y ls xs adds = record {
  routines = λ h.
      subst (λ zs. Listed r (map (routine_row (trees_in end)) old.routines) (map (routine_row (trees_in end)) new.routines) zs) (sym (ls h))
      (adds.routines h);
  blocks = λ h.
      subst (λ zs. Pushed r (rows_of old.blocks (trees_in end) h) (rows_of new.blocks (trees_in end) h) zs) (sym (xs h))
      (adds.blocks h);
}

-- whatever else is given back
pub adds_given : {U V : Type 0} (u : U) (v : V) (end : At) (old new : Lists) (l : Headings → List RoutineRow) (x : Headings → List CoreRow)
    → Adds (Ok u) end old new l x → Adds (Ok v) end old new l x
adds_given u v end old new l x adds = record { routines = λ h. adds.routines h; blocks = λ h. adds.blocks h }

-- ---- a body

pub body_added : {U V : Type 0} (u : U) (v : V) (old : Lists) (new : List CoreBlock) (f : RoutineEntity) (s : Stmt) (c : Context) (p : Place)
    → ((end : At) (x : Text) → p ≡ body_place end x f) → PushedOver (Ok v) old.blocks new (stmt_rows s c p)
    → AddsBody (Ok u) old (record { routines = old.routines; blocks = new }) f s c
body_added u v old new f s c p place rows = record {
  adds = λ end x. record {
    routines = λ h. sym (append-nil (map (routine_row (trees_in end)) old.routines));
    blocks = λ h.
        subst (λ q. ArePushed (rows_of old.blocks (trees_in end) h) (rows_of new (trees_in end) h) (stmt_rows s c q (trees_in end) h))
        (place end x) (rows.over (trees_in end) h);
  };
}

err_any : (U V : Type 0) (e : CheckEnd) (old new rows : List CoreRow) → Pushed {U = U} (Err e) old new rows → Pushed {U = V} (Err e) old new rows
err_any U V (the_end.Size f) old new rows ends = ends
err_any U V (the_end.Fault f) old new rows ends = ends
err_any U V the_end.NoMemory old new rows ends = ends

pub body_ended : (U V : Type 0) (e : CheckEnd) (old : Lists) (new : List CoreBlock) (f : RoutineEntity) (s : Stmt) (c : Context) (p : Place)
    → ((end : At) (x : Text) → p ≡ body_place end x f) → PushedOver {U = U} (Err e) old.blocks new (stmt_rows s c p)
    → AddsBody {U = V} (Err e) old (record { routines = old.routines; blocks = new }) f s c
body_ended U V e old new f s c p place rows = record {
  adds = λ end x. record {
    routines = λ h. tt;
    blocks = λ h.
        err_any U V e (rows_of old.blocks (trees_in end) h) (rows_of new (trees_in end) h) (stmt_rows s c (body_place end x f) (trees_in end) h)
        (subst (λ q. Pushed {U = U} (Err e) (rows_of old.blocks (trees_in end) h) (rows_of new (trees_in end) h) (stmt_rows s c q (trees_in end) h))
        (place end x) (rows.over (trees_in end) h));
  };
}
