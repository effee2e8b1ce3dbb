-- Lists of statements and of their codes.
use Rattle.std.proofs.Common.{◌≡◌, ℕ, zero, suc, ◌+◌, ◌<◌, ◌≤◌, List, [], ◌∷◌, ◌++◌, length, get_or, take, take_all, None, refl, ap, ◌∙◌, subst, arith}
use Rattle.std.proofs.Math.Seq.{take-suc}
use Rattle.std.specs.List.{AllByRecursion}
use Rattle.console_service.specs.declared.block.BlockCode.{BlockCode}
use Rattle.pascal_semantics.specs.declared.form.Statement.{Statement}
use Rattle.pascal_semantics.specs.declared.form.Operand.TheVariants.{Global}
use Rattle.pascal_semantics.specs.declared.form.SimpleForm.TheVariants.{Assign}
use Rattle.statement_code.specs.Forms.{StatementBlock}
use Rattle.statement_code.specs.Emitted.{IsCodeOf, IsStatementCode}
use Rattle.image_plan.specs.Codes.{AreCodes, AllHaveOneLink, words_in}
use Rattle.pascal_semantics.specs.Charge.{charges_of}

-- one more statement and its code
pub AreCodes-push : (fs : List Statement) (cs : List BlockCode) (f : Statement) (c : BlockCode) → AreCodes fs cs → IsCodeOf (StatementBlock f.form) c → IsStatementCode c → AreCodes (fs ++ f ∷ []) (cs ++ c ∷ [])
AreCodes-push [] [] f c h is parts = ((is, parts), tt)
AreCodes-push [] (d ∷ cs) f c h is parts = absurd h
AreCodes-push (g ∷ fs) [] f c h is parts = absurd h
AreCodes-push (g ∷ fs) (d ∷ cs) f c h is parts = (h.0, AreCodes-push fs cs f c h.1 is parts)

abbrev pub zero_statement : Statement
zero_statement = record { name = 0; form = Assign 0 (record { first = Global 0; second = None }) }

-- a fact of all, at one
pub all_at : (P : Statement → Type 0) (xs : List Statement) (i : ℕ) (d : Statement) → AllByRecursion P xs → i < length xs → P (get_or xs i d)
all_at P [] i d h lt = absurd (omega (arith, lt))
all_at P (y ∷ xs) zero d h lt = h.0
all_at P (y ∷ xs) (suc i) d h lt = all_at P xs i d h.1 (omega (arith, lt))

pub take_statement : (xs : List Statement) (i : ℕ) → i < length xs → take (i + 1) xs ≡ take i xs ++ (get_or xs i zero_statement ∷ [])
take_statement xs i lt = let e : i + 1 ≡ suc i = omega arith in ap (λ k. take k xs) e ∙ take-suc xs i zero_statement lt

pub AreCodes-whole : (xs : List Statement) (cs : List BlockCode) (i : ℕ) → length xs ≤ i → AreCodes (take i xs) cs → AreCodes xs cs
AreCodes-whole xs cs i le h = subst (λ ys. AreCodes ys cs) (take_all i xs le) h

pub codes_linked : (fs : List Statement) (cs : List BlockCode) → AreCodes fs cs → AllHaveOneLink cs
codes_linked [] [] h = tt
codes_linked [] (c ∷ cs) h = absurd h
codes_linked (f ∷ fs) [] h = absurd h
codes_linked (f ∷ fs) (c ∷ cs) h = let l = h.0.1.link in ((l.link, l.only, l.inside), codes_linked fs cs h.1)

pub codes_long : (fs : List Statement) (cs : List BlockCode) → AreCodes fs cs → words_in cs ≡ charges_of fs
codes_long [] [] h = refl
codes_long [] (c ∷ cs) h = absurd h
codes_long (f ∷ fs) [] h = absurd h
codes_long (f ∷ fs) (c ∷ cs) h = omega (arith, h.0.0.long, codes_long fs cs h.1)
