-- Rows that are pushed whatever the shapes and the headings are.
use Rattle.std.proofs.Common.{◌≡◌, ◌<◌, ◌≤◌, ℕ, zero, suc, ◌+◌, List, [], ◌∷◌, ◌++◌, ◌-◌, length, length-drop, take, drop, get_or, Result, Ok, Err, refl, ap, sym, subst, ◌∙◌, append_assoc, append-nil, arith}
use Rattle.std.proofs.lemmas.List.{drop_more}
use Rattle.std.proofs.Math.Seq.{take-length}
use Rattle.pascal_tree.specs.declared.stmt.Stmt.{Stmt}
use Rattle.resolve_statements.specs.declared.place.Place.{Place}
use Rattle.check_rules.specs.declared.fault.CheckEnd.{CheckEnd}
use Rattle.core_tree.specs.declared.program.CoreBlock.{CoreBlock}
use Rattle.core_tree.specs.Plain.{Heading}
use Rattle.core_tree.specs.Shapes.{ShapeTree}
use Rattle.resolve_expr.specs.declared.context.Context.{Context}
use Rattle.resolve_statements.specs.Sizes.{first_size, ArePushed, Pushed}
use Rattle.resolve_statements.specs.Tables.{RowsOver, rows_of, PushedOver, stmt_rows}
use Rattle.resolve_statements.proofs.Pushing.{pushed_behind, ended_before}

abbrev pub Same : RowsOver → RowsOver → Type 0
Same xs ys = (trees : List ShapeTree) (headings : ℕ → Heading) → xs trees headings ≡ ys trees headings

pub same_over : {U : Type 0} (r : Result U CheckEnd) (old new : List CoreBlock) (xs ys : RowsOver) → Same ys xs
    → PushedOver r old new xs → PushedOver r old new ys
same_over r old new xs ys same pushed = record {
  over = λ t h. subst (λ zs. Pushed r (rows_of old t h) (rows_of new t h) zs) (sym (same t h)) (pushed.over t h);
}

pub after_first : {U V : Type 0} (r : Result U CheckEnd) (u : V) (old middle new : List CoreBlock) (xs ys whole : RowsOver)
    → Same whole (λ t h. xs t h ++ ys t h) → PushedOver (Ok u) old middle xs → PushedOver r middle new ys → PushedOver r old new whole
after_first r u old middle new xs ys whole same before more = record {
  over = λ t h.
      subst (λ zs. Pushed r (rows_of old t h) (rows_of new t h) zs) (sym (same t h))
      (pushed_behind r (rows_of old t h) (rows_of middle t h) (rows_of new t h) (xs t h) (ys t h) (before.over t h) (more.over t h));
}

pub ended_first : (U V : Type 0) (e : CheckEnd) (old new other : List CoreBlock) (xs ys whole : RowsOver)
    → Same whole (λ t h. xs t h ++ ys t h) → PushedOver {U = U} (Err e) old new xs → PushedOver {U = V} (Err e) old other whole
ended_first U V e old new other xs ys whole same ends = record {
  over = λ t h.
      subst (λ zs. Pushed {U = V} (Err e) (rows_of old t h) (rows_of other t h) zs) (sym (same t h))
      (ended_before U V e (rows_of old t h) (rows_of new t h) (rows_of other t h) (xs t h) (ys t h) (ends.over t h));
}

pub none_over : {U : Type 0} (u : U) (old : List CoreBlock) (whole : RowsOver) → Same whole (λ t h. []) → PushedOver (Ok u) old old whole
none_over u old whole same = record {
  over = λ t h. record {
    pushed = sym (ap (λ zs. rows_of old t h ++ zs) (same t h) ∙ append-nil (rows_of old t h));
    fit = ap first_size (same t h);
  };
}

-- ---- rows pushed in turn, of which the rest is to come

pub record Reached (old now : List CoreBlock) (c d : Context) (rest whole : RowsOver) : Type 0 where
  pub same : d ≡ c
  pub done : RowsOver
  pub joined : Same whole (λ t h. done t h ++ rest t h)
  pub pushed : (t : List ShapeTree) (h : ℕ → Heading) → ArePushed (rows_of old t h) (rows_of now t h) (done t h)

pub begun : (old : List CoreBlock) (c : Context) (whole : RowsOver) → Reached old old c c whole whole
begun old c whole = record {
  same = refl;
  done = λ t h. [];
  joined = λ t h. refl;
  pushed = λ t h. record { pushed = sym (append-nil (rows_of old t h)); fit = refl };
}

joined_more : (old now : List CoreBlock) (c d : Context) (xs ys rest whole : RowsOver) (reached : Reached old now c d rest whole)
    → Same rest (λ t h. xs t h ++ ys t h) → Same whole (λ t h. (reached.done t h ++ xs t h) ++ ys t h)
joined_more old now c d xs ys rest whole reached split t h =
    reached.joined t h ∙ (ap (λ zs. reached.done t h ++ zs) (split t h) ∙ sym (append_assoc (reached.done t h) (xs t h) (ys t h)))

pub turned : {U : Type 0} (u : U) (old now next : List CoreBlock) (c d e : Context) (xs ys rest whole : RowsOver)
    → Reached old now c d rest whole → Same rest (λ t h. xs t h ++ ys t h) → e ≡ d → PushedOver (Ok u) now next xs
    → Reached old next c e ys whole
turned u old now next c d e xs ys rest whole reached split kept more = record {
  same = kept ∙ reached.same;
  done = λ t h. reached.done t h ++ xs t h;
  joined = joined_more old now c d xs ys rest whole reached split;
  pushed = λ t h. pushed_behind (Ok u) (rows_of old t h) (rows_of now t h) (rows_of next t h) (reached.done t h) (xs t h) (reached.pushed t h) (more.over t h);
}

pub stopped : (U V : Type 0) (end : CheckEnd) (old now next other : List CoreBlock) (c d : Context) (xs ys rest whole : RowsOver)
    → Reached old now c d rest whole → Same rest (λ t h. xs t h ++ ys t h) → PushedOver {U = U} (Err end) now next xs
    → PushedOver {U = V} (Err end) old other whole
stopped U V end old now next other c d xs ys rest whole reached split ends =
    ended_first U V end old next other (λ t h. reached.done t h ++ xs t h) ys whole
    (joined_more old now c d xs ys rest whole reached split)
    (record {
      over = λ t h. pushed_behind {U = U} (Err end) (rows_of old t h) (rows_of now t h) (rows_of next t h) (reached.done t h) (xs t h) (reached.pushed t h) (ends.over t h);
    })

pub all_reached : {U : Type 0} (u : U) (old now : List CoreBlock) (c d : Context) (rest whole : RowsOver)
    → Reached old now c d rest whole → Same rest (λ t h. []) → PushedOver (Ok u) old now whole
all_reached u old now c d rest whole reached none = record {
  over = λ t h.
      subst (λ zs. ArePushed (rows_of old t h) (rows_of now t h) zs)
      (sym (reached.joined t h ∙ (ap (λ zs. reached.done t h ++ zs) (none t h) ∙ append-nil (reached.done t h))))
      (reached.pushed t h);
}

-- ---- turns over a list

pub rest_whole : {A : Type 0} (xs : List A) (k : ℕ) → take (length xs - k) (drop k xs) ≡ drop k xs
rest_whole xs k = ap (λ n. take n (drop k xs)) (sym (length-drop k xs)) ∙ take-length (drop k xs)

pub drop_turn : {A : Type 0} (xs : List A) (i : ℕ) (x : A) → i < length xs → x ≡ get_or xs i x → drop i xs ≡ x ∷ drop (i + 1) xs
drop_turn xs i x inside is = drop_more xs i x inside ∙ ap (λ y. y ∷ drop (i + 1) xs) (sym is)

pub drop_end : {A : Type 0} (xs : List A) (i : ℕ) → length xs ≤ i → drop i xs ≡ []
drop_end [] zero past = refl
drop_end [] (suc i) past = refl
drop_end (x ∷ xs) zero past = absurd (omega (arith, past))
drop_end (x ∷ xs) (suc i) past = drop_end xs i (omega (arith, past))

-- ---- the same statement, in the same place

pub moved : {U : Type 0} (r : Result U CheckEnd) (old new : List CoreBlock) (x y : Stmt) (c d : Context) (p q : Place) → x ≡ y → c ≡ d → p ≡ q
    → PushedOver r old new (stmt_rows x c p) → PushedOver r old new (stmt_rows y d q)
moved r old new x y c d p q same around at pushed =
    subst (λ z. PushedOver r old new (stmt_rows z d q)) same
    (subst (λ z. PushedOver r old new (stmt_rows x z q)) around
    (subst (λ z. PushedOver r old new (stmt_rows x c z)) at pushed))
