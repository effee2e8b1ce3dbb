-- The row of a statement by itself, by what its form becomes.
use Rattle.std.proofs.Common.{◌≡◌, ℕ, List, [], Option, Some, None, option_map, unwrap_or, Result, Ok, refl, ap, sym, ◌∙◌, arith}
use Rattle.dice_base.specs.declared.name.Name.{Name}
use Rattle.pascal_tree.specs.declared.stmt.StmtKind.{StmtKind}
use Rattle.check_rules.specs.declared.fault.CheckEnd.{CheckEnd}
use Rattle.core_tree.specs.declared.form.StatementForm.{StatementForm}
use Rattle.core_tree.specs.declared.program.CoreBlock.{CoreBlock}
use Rattle.core_tree.specs.declared.program.LinkEnd.{LinkEnd}
use Rattle.core_tree.specs.Control.{CoreRow, link_flow, own_row, entries_of}
use Rattle.core_tree.specs.Plain.{Heading}
use Rattle.core_tree.specs.Shapes.{ShapeTree}
use Rattle.resolve_expr.specs.declared.context.Context.{Context}
use Rattle.resolve_statements.specs.declared.form.KeptForm.{KeptForm}
use Rattle.resolve_statements.specs.declared.place.Place.{Place}
use Rattle.resolve_statements.specs.Forms.{kept_form}
use Rattle.resolve_statements.specs.Statements.{own_form}
use Rattle.resolve_statements.specs.Bodies.{plain_form}
use Rattle.resolve_statements.specs.Tables.{PushedOver, AreEntries, around_of, own_rows, head_rows, inner_in}
use Rattle.resolve_statements.proofs.Layers.{form_is}
use Rattle.resolve_statements.proofs.Over.{same_over, none_over}

abbrev row_by : List ShapeTree → (ℕ → Heading) → Name → Place → Option StatementForm → List ℕ → List CoreRow
row_by t h n p o entries = own_row LinkEnd (Option ℕ) link_flow (option_map (plain_form t h) o) n.0 p.routine.0 entries p.after (around_of p)

no_form : (o : Option StatementForm) → None ≡ option_map kept_form o → o ≡ None
no_form None is = refl
no_form (Some f) is = absurd (grind (arith, is))

pub no_head : (u : Unit {0}) (old : List CoreBlock) (k : StmtKind) (c : Context) (n : Name) (p : Place) (o : Option KeptForm)
    → o ≡ option_map kept_form (own_form k c) → o ≡ None → PushedOver (Ok u) old old (head_rows k c n p)
no_head u old k c n p o is none =
    none_over u old (head_rows k c n p)
    (λ t h. ap (λ x. row_by t h n p x (entries_of (inner_in k c t h))) (form_is t h k c ∙ no_form (own_form k c) (sym none ∙ is)))

by_form : {U : Type 0} (r : Result U CheckEnd) (old new : List CoreBlock) (n : Name) (p : Place) (entries : List Name) (o : Option StatementForm) (kept : KeptForm)
    → Some kept ≡ option_map kept_form o → ((f : StatementForm) → kept ≡ kept_form f → PushedOver r old new (own_rows n p entries (Some f)))
    → PushedOver r old new (own_rows n p entries o)
by_form r old new n p entries None kept is pushed = absurd (grind (arith, is))
by_form r old new n p entries (Some f) kept is pushed = pushed f (ap (λ o. unwrap_or o kept) is)

pub some_head : {U : Type 0} (r : Result U CheckEnd) (old new : List CoreBlock) (k : StmtKind) (c : Context) (n : Name) (p : Place) (entries : List Name) (o : Option KeptForm) (kept : KeptForm)
    → o ≡ option_map kept_form (own_form k c) → o ≡ Some kept → AreEntries [] entries (inner_in k)
    → ((f : StatementForm) → kept ≡ kept_form f → PushedOver r old new (own_rows n p entries (Some f))) → PushedOver r old new (head_rows k c n p)
some_head r old new k c n p entries o kept is some are pushed =
    same_over r old new (own_rows n p entries (own_form k c)) (head_rows k c n p)
    (λ t h.
    ap (λ x. row_by t h n p x (entries_of (inner_in k c t h))) (form_is t h k c)
    ∙ ap (row_by t h n p (own_form k c)) (sym (are.over t h c)))
    (by_form r old new n p entries (own_form k c) kept (sym some ∙ is) pushed)
