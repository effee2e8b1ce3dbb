-- Arrays over one more index, and domains through more regions.
use Rattle.std.proofs.Common.{◌≡◌, ℕ, Bool, List, [], ◌∷◌, ◌++◌, Option, Result, Ok, Err, IfOk, refl, ap, subst}
use Rattle.dice_base.specs.declared.fault.NoMemory.{NoMemory}
use Rattle.check_types.specs.declared.state.Typed.{Typed}
use Rattle.pascal_tree.specs.declared.stmt.Constant.{Constant as WrittenConstant}
use Rattle.check_rules.specs.declared.entity.JudgedConstant.{JudgedConstant}
use Rattle.check_types.specs.declared.state.TypeState.{TypeState}
use Rattle.check_types.specs.Constants.{constant_of}
use Rattle.check_rules.specs.declared.typing.Typing.{Typing}
use Rattle.check_rules.specs.declared.typing.Domain.{Domain}
use Rattle.check_rules.specs.Typing.{Text}
use Rattle.check_rules.specs.Regions.{Regions}
use Rattle.check_types.specs.TypeRules.{TypeJudgement, judgement, scope, array_of_types, arrays_of, domain_through, domain_within, subrange_of_types, subrange}

pub arrays_snoc : (packed : Bool) (is : List Typing) (i : Typing) (j : TypeJudgement) → arrays_of packed (is ++ i ∷ []) j ≡ arrays_of packed is (array_of_types packed i j j.typing)
arrays_snoc packed [] i j = refl
arrays_snoc packed (k ∷ is) i j = ap (λ (x : TypeJudgement). array_of_types packed k x x.typing) (arrays_snoc packed is i j)

pub domain_append : (outer : Option Domain × ℕ) (rs ss : Regions) (x : Text) → domain_within outer (rs ++ ss) x ≡ domain_within (domain_within outer rs x) ss x
domain_append outer [] ss x = refl
domain_append outer (r ∷ rs) ss x = domain_append (domain_through r x outer) rs ss x

pub subrange_is : (s : TypeState) (rs : Regions) (first last : WrittenConstant) (a b : JudgedConstant) (j : TypeJudgement) → a ≡ constant_of s.table rs first → b ≡ constant_of s.table rs last → j ≡ subrange_of_types s a b a.typing b.typing → j ≡ subrange s rs first last
subrange_is s rs first last a b j p q e =
    subst (λ (y : JudgedConstant). j ≡ subrange_of_types s (constant_of s.table rs first) y (constant_of s.table rs first).typing y.typing) q
    (subst (λ (x : JudgedConstant). j ≡ subrange_of_types s x b x.typing b.typing) p e)

pub subrange_ok : (s : TypeState) (rs : Regions) (first last : WrittenConstant) (a b : JudgedConstant) (after : TypeState) (r : Result Typed NoMemory) → a ≡ constant_of s.table rs first → b ≡ constant_of s.table rs last → IfOk r (λ t. judgement after t.typing t.kind ≡ subrange_of_types s a b a.typing b.typing) → IfOk r (λ t. judgement after t.typing t.kind ≡ subrange s rs first last)
subrange_ok s rs first last a b after (Ok t) p q e = subrange_is s rs first last a b (judgement after t.typing t.kind) p q e
subrange_ok s rs first last a b after (Err f) p q e = tt
