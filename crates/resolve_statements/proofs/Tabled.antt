-- Rows of statements made by the steps of the fold:
--
--   while e do begin ; end                 { two statements in turn }
--   for x := a to b do if e then begin ; end else ;
use Rattle.std.proofs.Common.{ℕ, ◌≡◌, true, false, List, [], ◌∷◌, map, Option, Some, None, refl, codes}
use Rattle.pascal_tree.specs.declared.expr.Expr.{Expr}
use Rattle.pascal_tree.specs.declared.stmt.StmtKind.{StmtKind-F}
use Rattle.check_rules.specs.declared.entity.Entity.TheVariants.{VariableOf}
use Rattle.check_rules.specs.declared.typing.Host.TheVariants as host
use Rattle.check_rules.specs.declared.typing.Typing.TheVariants.{Ordinal}
use Rattle.core_tree.specs.declared.program.LinkEnd.{LinkEnd}
use Rattle.core_tree.specs.declared.program.LinkEnd.TheVariants as link
use Rattle.core_tree.specs.Control.{CoreRow, link_flow, statement_rows, name_of}
use Rattle.resolve_expr.specs.declared.context.Context.{Context}
use Rattle.resolve_statements.specs.Bodies.{Body, KindBody, ArmBody, in_kind, in_stmt}

abbrev here : Context
here = record {
  env = record {
    table = [];
    domains = [];
    regions = record {
      declared = record {
        ident = codes "x";
        entity = VariableOf (record { owner = name_of 1; typing = Ordinal host.Integer; offset = 0; by_place = false; local = true });
      } ∷ [];
      later = [];
      types = [];
      constants = [];
    } ∷ [];
    opened = [];
    holds = 0;
    owner = name_of 1;
    functions = [];
    changed = [];
  };
  level = 0;
  owners = record { owner = name_of 1; level = 0; words = 1 } ∷ [];
}

abbrev step : ℕ → StmtKind-F KindBody ArmBody Body → Body
step n k = in_stmt [] (λ m. record { parameters = []; result = None }) (record { name = name_of n; label = None; kind = in_kind k })

abbrev nothing : ℕ → Body
nothing n = step n StmtKind-F.Empty

abbrev rows : Body → List CoreRow
rows b = statement_rows LinkEnd (Option ℕ) link_flow (b here) 1 (link.Leave (name_of 1)) None

abbrev both : ℕ → ℕ → ℕ → Body
both n m k = step n (StmtKind-F.Compound (nothing m ∷ (nothing k ∷ [])))

-- after the last statement of the body the condition is tried again
turns : (e : Expr) → map {B = ℕ × Option LinkEnd × List ℕ} (λ (r : CoreRow). (r.name, r.next, r.entries)) (rows (step 2 (StmtKind-F.While e (both 3 4 5))))
    ≡ (2, Some (link.Leave (name_of 1)), 4 ∷ []) ∷ ((4, Some (link.Gate (name_of 5)), []) ∷ ((5, Some (link.Gate (name_of 2)), []) ∷ []))
turns e = refl

-- the branches stand in the `for`, and after each of them comes its step
stepped : (a b e : Expr) → map {B = ℕ × Option LinkEnd × Option ℕ} (λ (r : CoreRow). (r.name, r.next, r.around)) (rows (step 2 (StmtKind-F.For (codes "x") a false b (step 3 (StmtKind-F.If e (both 4 5 6) (Some (nothing 7)))))))
    ≡ (2, Some (link.Leave (name_of 1)), None)
    ∷ ((3, Some (link.Step (name_of 2)), Some 2)
    ∷ ((5, Some (link.Gate (name_of 6)), Some 2) ∷ ((6, Some (link.Step (name_of 2)), Some 2) ∷ ((7, Some (link.Step (name_of 2)), Some 2) ∷ []))))
stepped a b e = refl

-- a compound begins at its first statement
branches : (e : Expr) → map (λ (r : CoreRow). r.entries) (rows (step 3 (StmtKind-F.If e (both 4 5 6) (Some (nothing 7))))) ≡ (5 ∷ (7 ∷ [])) ∷ ([] ∷ ([] ∷ ([] ∷ [])))
branches e = refl
