-- The laws of types and declarations at every level, and of each two levels that come one after the other; and those of
-- headings.
use Rattle.std.specs.Prelude.{ℕ, zero, suc, Bool, true, false, []}
use Rattle.std.proofs.Common.{refl}
use Rattle.pascal_tree.specs.declared.typing.TypeText.{TypeText}
use Rattle.pascal_tree.specs.Declarations.{simple_at, type_at, decl_at, heading_form}
use Rattle.dice_base.specs.Forms.{Form}
use Rattle.token_reader.specs.declared.stop.Stop.TheVariants.{Deep}
use Rattle.token_reader.specs.Readers.{Parser}
use Rattle.token_reader.proofs.Laws.{One, Local, stop_one, stop_local}
use Rattle.token_reader.proofs.Levels.{Slow, Steady, deep_steady}
use Rattle.token_reader.proofs.Rules.{Rule, Nothing, Alone, Pair, alone_rule, pair_rule}
use Rattle.declaration_parser.specs.Readers.{simple_in, type_in, decl, heading}
use Rattle.declaration_parser.specs.Follows.{Any, simple_ends, type_ends, decl_ends, simple_first, type_first, decl_first, heading_first}
use Rattle.declaration_parser.proofs.DeclRules.{simple_rule, type_rule, decl_rule, heading_rule}

-- ---- one level

abbrev SimpleLaws : ℕ → Type 0
SimpleLaws d = One [] simple_first (simple_in d) (simple_at d) Nothing (Any simple_ends) × Local (simple_in d)

abbrev pub TypeLaws : ℕ → Type 0
TypeLaws d = One [] type_first (type_in d) (type_at d) Nothing (Any type_ends) × Local (type_in d)

abbrev pub DeclLaws : ℕ → Type 0
DeclLaws d = One [] decl_first (decl d) (decl_at d) Nothing (Any decl_ends) × Local (decl d)

abbrev simple_next : (d : ℕ)
    → Rule Alone true [] simple_first (λ i. simple_in (suc d)) (λ i. simple_at (suc d)) Nothing
    (Any simple_ends)
unfolding simple_in simple_at
simple_next d = simple_rule

simple_laws : (d : ℕ) → SimpleLaws d
unfolding simple_in simple_at
simple_laws zero = (stop_one Deep [] simple_first Nothing (Any simple_ends), stop_local Deep)
simple_laws (suc d) = ((simple_next d).laws tt, (simple_next d).local tt)

abbrev type_next : (d : ℕ) → TypeLaws d
    → Rule Alone true [] type_first (λ i. type_in (suc d)) (λ i. type_at (suc d)) Nothing (Any type_ends)
unfolding type_in type_at
type_next d t =
    type_rule (λ i. simple_in d) (λ i. type_in d) (λ i. simple_at d) (λ i. type_at d)
    (alone_rule (simple_laws d).0 (simple_laws d).1) (alone_rule t.0 t.1)

pub type_laws : (d : ℕ) → TypeLaws d
unfolding type_in type_at
type_laws zero = (stop_one Deep [] type_first Nothing (Any type_ends), stop_local Deep)
type_laws (suc d) = let r = type_next d (type_laws d) in (r.laws tt, r.local tt)

pub decl_laws : (d : ℕ) → DeclLaws d
unfolding decl decl_at
decl_laws d =
    let r : Rule Alone true [] decl_first (λ i. decl d) (λ i. decl_at d) Nothing (Any decl_ends) =
    decl_rule (λ i. type_in d) (λ i. type_at d) (alone_rule (type_laws d).0 (type_laws d).1) in
    (r.laws tt, r.local tt)

-- where a level is left, it is too deep only behind a token
simple_slow : (d : ℕ) → Slow (simple_in (suc d))
simple_slow d = (simple_next d).slow refl tt

pub type_slow : (d : ℕ) → Slow (type_in (suc d))
type_slow d = (type_next d (type_laws d)).slow refl tt

-- ---- two levels

abbrev simples : ℕ → Bool → Parser TypeText
simples d false = simple_in d
simples d true = simple_in (suc d)

abbrev simple_forms : ℕ → Bool → Form TypeText
simple_forms d false = simple_at d
simple_forms d true = simple_at (suc d)

abbrev pub types : ℕ → Bool → Parser TypeText
types d false = type_in d
types d true = type_in (suc d)

abbrev pub type_forms : ℕ → Bool → Form TypeText
type_forms d false = type_at d
type_forms d true = type_at (suc d)

simple_steady : (d : ℕ) → Steady (simple_in d) (simple_in (suc d))
unfolding simple_in
simple_steady zero = deep_steady (simple_in (suc zero)) (simple_laws (suc zero)).1 (simple_slow zero)
simple_steady (suc d) =
    let r : Rule Pair true [] simple_first _ _ Nothing (Any simple_ends) =
    simple_rule in r.steady false true (refl, refl)

simple_pair : (d : ℕ) → Rule Pair false [] simple_first (simples d) (simple_forms d) Nothing (Any simple_ends)
simple_pair d =
    pair_rule (simples d) (simple_forms d) (simple_laws d).0 (simple_laws d).1 (simple_laws (suc d)).0
    (simple_laws (suc d)).1 (simple_slow d) (simple_steady d)

type_pair_of : (d : ℕ) → Steady (type_in d) (type_in (suc d))
    → Rule Pair false [] type_first (types d) (type_forms d) Nothing (Any type_ends)
type_pair_of d s =
    pair_rule (types d) (type_forms d) (type_laws d).0 (type_laws d).1 (type_laws (suc d)).0
    (type_laws (suc d)).1 (type_slow d) s

pub type_steady : (d : ℕ) → Steady (type_in d) (type_in (suc d))
unfolding type_in
type_steady zero = deep_steady (type_in (suc zero)) (type_laws (suc zero)).1 (type_slow zero)
type_steady (suc d) =
    (type_rule (simples d) (types d) (simple_forms d) (type_forms d) (simple_pair d)
    (type_pair_of d (type_steady d))).steady false true (refl, refl)

pub type_pair : (d : ℕ) → Rule Pair false [] type_first (types d) (type_forms d) Nothing (Any type_ends)
type_pair d = type_pair_of d (type_steady d)

pub decl_steady : (d : ℕ) → Steady (decl d) (decl (suc d))
unfolding decl
decl_steady d = (decl_rule (types d) (type_forms d) (type_pair d)).steady false true (refl, refl)

-- ---- headings have no levels

pub heading_laws : One [] heading_first heading heading_form Nothing (Any decl_ends) × Local heading
heading_laws =
    let r : Rule Alone true [] heading_first (λ i. heading) (λ i. heading_form) Nothing (Any decl_ends) =
    heading_rule in (r.laws tt, r.local tt)

pub heading_steady : Steady heading heading
heading_steady =
    let r : Rule Pair true [] heading_first (λ i. heading) (λ i. heading_form) Nothing (Any decl_ends) =
    heading_rule in r.steady false true (refl, refl)
