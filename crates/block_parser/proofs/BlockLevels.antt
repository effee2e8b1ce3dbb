-- The laws of routines and programs at every level, and of each two levels that come one after the other, for a reader
-- of bodies that has them.
use Rattle.std.specs.Prelude.{ℕ, zero, suc, Bool, true, false, [], ◌∷◌}
use Rattle.std.proofs.Common.{refl}
use Rattle.dice_base.specs.Tokens.{end_of_tokens}
use Rattle.dice_base.specs.Forms.{Form}
use Rattle.pascal_tree.specs.declared.decl.Block.{Block}
use Rattle.pascal_tree.specs.declared.decl.Routine.{Routine}
use Rattle.pascal_tree.specs.declared.stmt.StmtKind.{StmtKind}
use Rattle.pascal_tree.specs.Classes.{begin_class, program_class}
use Rattle.pascal_tree.specs.Declarations.{type_at}
use Rattle.pascal_tree.specs.Programs.{block_form, body_at, routine_at, block_at, program_at}
use Rattle.token_reader.specs.declared.stop.Stop.TheVariants.{Deep}
use Rattle.token_reader.specs.Readers.{Parser}
use Rattle.token_reader.proofs.Laws.{One, Local, stop_one, stop_local}
use Rattle.token_reader.proofs.Levels.{Slow, Steady, deep_steady}
use Rattle.token_reader.proofs.Rules.{Rule, Nothing, Alone, Pair, alone_rule, pair_rule}
use Rattle.declaration_parser.specs.Readers.{type_in}
use Rattle.declaration_parser.specs.Follows.{Any}
use Rattle.declaration_parser.proofs.DeclLevels.{type_laws, types, type_forms, type_pair}
use Rattle.block_parser.specs.Readers.{routine_first, block, routine_in, block_in, program_in}
use Rattle.block_parser.specs.Follows.{routine_ends, block_ends, block_first}
use Rattle.block_parser.proofs.BlockRules.{block_rule, routine_rule, program_rule}

module _ (body : ℕ → Parser StmtKind)
    (body_laws : (d : ℕ) → One [] (begin_class ∷ []) (body d) (body_at d) Nothing (Any block_ends) × Local (body d))
    (body_slow : (d : ℕ) → Slow (body (suc d)))
    (body_steady : (d : ℕ) → Steady (body d) (body (suc d)))
  where
    -- ---- one level

    abbrev pub RoutineLaws : ℕ → Type 0
    RoutineLaws d =
        One [] routine_first (routine_in body d) (routine_at d) Nothing (Any routine_ends)
        × Local (routine_in body d)

    abbrev pub ProgramLaws : ℕ → Type 0
    ProgramLaws d =
        One [] (program_class ∷ []) (program_in body d) (program_at d) Nothing (Any (end_of_tokens ∷ []))
        × Local (program_in body d)

    abbrev routine_next : (d : ℕ) → RoutineLaws d
        → Rule Alone true [] routine_first (λ i. routine_in body (suc d)) (λ i. routine_at (suc d)) Nothing
        (Any routine_ends)
    unfolding routine_in routine_at
    routine_next d r =
        routine_rule (λ i. type_in (suc d)) (λ i. routine_in body d) (λ i. body d) (λ i. type_at (suc d))
        (λ i. routine_at d) (λ i. body_at d)
        (alone_rule (type_laws (suc d)).0 (type_laws (suc d)).1) (alone_rule r.0 r.1)
        (alone_rule (body_laws d).0 (body_laws d).1)

    pub routine_laws : (d : ℕ) → RoutineLaws d
    unfolding routine_in routine_at
    routine_laws zero = (stop_one Deep [] routine_first Nothing (Any routine_ends), stop_local Deep)
    routine_laws (suc d) = let r = routine_next d (routine_laws d) in (r.laws tt, r.local tt)

    block_rule_at : (d : ℕ)
        → Rule Alone false [] block_first (λ i. block_in body d) (λ i. block_at d) Nothing (Any block_ends)
    unfolding block_in block_at
    block_rule_at d =
        block_rule (λ i. type_in (suc d)) (λ i. routine_in body d) (λ i. body d) (λ i. type_at (suc d))
        (λ i. routine_at d) (λ i. body_at d)
        (alone_rule (type_laws (suc d)).0 (type_laws (suc d)).1)
        (alone_rule (routine_laws d).0 (routine_laws d).1) (alone_rule (body_laws d).0 (body_laws d).1)

    pub program_laws : (d : ℕ) → ProgramLaws d
    unfolding program_in program_at
    program_laws d =
        let r : Rule Alone true [] (program_class ∷ []) (λ i. program_in body d) (λ i. program_at d) Nothing
        (Any (end_of_tokens ∷ [])) =
        program_rule (λ i. block_in body d) (λ i. block_at d) (block_rule_at d) in
        (r.laws tt, r.local tt)

    -- where a level is left, it is too deep only behind a token
    routine_slow : (d : ℕ) → Slow (routine_in body (suc d))
    routine_slow d = (routine_next d (routine_laws d)).slow refl tt

    -- ---- two levels

    abbrev bodies : ℕ → Bool → Parser StmtKind
    bodies d false = body d
    bodies d true = body (suc d)

    abbrev routines : ℕ → Bool → Parser Routine
    routines d false = routine_in body d
    routines d true = routine_in body (suc d)

    abbrev body_forms : ℕ → Bool → Form StmtKind
    body_forms d false = body_at d
    body_forms d true = body_at (suc d)

    abbrev routine_forms : ℕ → Bool → Form Routine
    routine_forms d false = routine_at d
    routine_forms d true = routine_at (suc d)

    body_pair : (d : ℕ) → Rule Pair false [] (begin_class ∷ []) (bodies d) (body_forms d) Nothing (Any block_ends)
    body_pair d =
        pair_rule (bodies d) (body_forms d) (body_laws d).0 (body_laws d).1 (body_laws (suc d)).0
        (body_laws (suc d)).1 (body_slow d) (body_steady d)

    routine_pair : (d : ℕ) → Steady (routine_in body d) (routine_in body (suc d))
        → Rule Pair false [] routine_first (routines d) (routine_forms d) Nothing (Any routine_ends)
    routine_pair d s =
        pair_rule (routines d) (routine_forms d) (routine_laws d).0 (routine_laws d).1
        (routine_laws (suc d)).0 (routine_laws (suc d)).1 (routine_slow d) s

    pub routine_steady : (d : ℕ) → Steady (routine_in body d) (routine_in body (suc d))
    unfolding routine_in
    routine_steady zero = deep_steady (routine_in body (suc zero)) (routine_laws (suc zero)).1 (routine_slow zero)
    routine_steady (suc d) =
        (routine_rule (types (suc d)) (routines d) (bodies d) (type_forms (suc d)) (routine_forms d) (body_forms d)
        (type_pair (suc d)) (routine_pair d (routine_steady d)) (body_pair d)).steady false true (refl, refl)

    abbrev block_readers : ℕ → Bool → Parser Block
    block_readers d i = block (types (suc d) i) (routines d i) (bodies d i)

    abbrev block_forms : ℕ → Bool → Form Block
    block_forms d i = block_form (type_forms (suc d) i) (routine_forms d i) (body_forms d i)

    -- a block takes no level: it is too deep where its routines and its body are, and steady as they are
    block_pair : (d : ℕ) → Rule Pair false [] block_first (block_readers d) (block_forms d) Nothing (Any block_ends)
    block_pair d =
        block_rule (types (suc d)) (routines d) (bodies d) (type_forms (suc d)) (routine_forms d) (body_forms d)
        (type_pair (suc d)) (routine_pair d (routine_steady d)) (body_pair d)

    pub program_steady : (d : ℕ) → Steady (program_in body d) (program_in body (suc d))
    unfolding program_in block_in
    program_steady d = (program_rule (block_readers d) (block_forms d) (block_pair d)).steady false true (refl, refl)
