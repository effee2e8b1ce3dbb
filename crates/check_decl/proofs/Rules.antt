-- What a block declares, and the names of its routines, do not depend on what comes of bodies.
use Rattle.std.proofs.Common.{◌≡◌, Bool, ◌&&◌, if◌then◌else◌, List, [], ◌∷◌, ◌++◌, map, Option, Some, None, is_some, true, false, bytes_eq, ap, sym, ◌∙◌, refl}
use Rattle.pascal_tree.specs.declared.decl.Block.{Block, out-Block, map-Block}
use Rattle.pascal_tree.specs.declared.decl.Routine.{Routine, Routine-F, out-Routine, map-Routine}
use Rattle.pascal_tree.specs.declared.decl.Block.TheFolds.{fold_out-Block, fold_out-Routine}
use Rattle.pascal_tree.specs.declared.decl.Heading.{Heading}
use Rattle.dice_base.specs.declared.name.Name.{Name}
use Rattle.check_rules.specs.declared.kinds.TheConstants.{CLEAN}
use Rattle.check_decl.specs.BlockRules.{BlockJudge, RoutineJudge, is_block_for, is_same_class, block_for, naming_of, forward_naming, routine_idents, decl_idents}
use Rattle.check_decl.specs.Blocks.{BodyRule, bodyless, in_block, in_routine, decl_judge, block_judge, routine_judge}

-- ---- one layer

pub routine_is : (rule : BodyRule) (r : Routine) → routine_judge rule r ≡ in_routine rule (map-Routine Block Routine BlockJudge RoutineJudge (block_judge rule) (routine_judge rule) (out-Routine r))
unfolding block_judge routine_judge
routine_is rule r = fold_out-Routine BlockJudge RoutineJudge (in_block rule) (in_routine rule) r

pub block_is : (rule : BodyRule) (b : Block) → block_judge rule b ≡ in_block rule (map-Block Block Routine BlockJudge RoutineJudge (block_judge rule) (routine_judge rule) (out-Block b))
unfolding block_judge routine_judge
block_is rule b = fold_out-Block BlockJudge RoutineJudge (in_block rule) (in_routine rule) b

-- ---- routines

pub heading_is : (rule : BodyRule) (r : Routine) → (routine_judge rule r).heading ≡ (out-Routine r).heading
heading_is rule r = ap (λ (j : RoutineJudge). j.heading) (routine_is rule r)

pub name_is : (rule : BodyRule) (r : Routine) → (routine_judge rule r).name ≡ (out-Routine r).name
name_is rule r = ap (λ (j : RoutineJudge). j.name) (routine_is rule r)

layer_has_block : (rule : BodyRule) (n : Name) (h : Heading) (o : Option Block) → is_some (map-Routine Block Routine BlockJudge RoutineJudge (block_judge rule) (routine_judge rule) (record { name = n; heading = h; block = o })).block ≡ is_some o
layer_has_block rule n h None = refl
layer_has_block rule n h (Some b) = refl

pub has_block : (rule : BodyRule) (r : Routine) → is_some (routine_judge rule r).block ≡ is_some (out-Routine r).block
has_block rule r = ap (λ (j : RoutineJudge). is_some j.block) (routine_is rule r) ∙ layer_has_block rule (out-Routine r).name (out-Routine r).heading (out-Routine r).block

head_test : Heading → Bool → Heading → Bool
head_test h some other = some && bytes_eq other.ident h.ident && is_same_class h.function other.function

for_same : (rule : BodyRule) (h : Heading) (r : Routine) → is_block_for h (routine_judge rule r) ≡ is_block_for h (routine_judge bodyless r)
unfolding head_test
for_same rule h r =
    ap (λ s. head_test h s (routine_judge rule r).heading) (has_block rule r ∙ sym (has_block bodyless r))
    ∙ ap (λ other. head_test h (is_some (routine_judge bodyless r).block) other) (heading_is rule r ∙ sym (heading_is bodyless r))

pub block_for_same : (rule : BodyRule) (h : Heading) (rs : List Routine) → block_for h (map (routine_judge rule) rs) ≡ block_for h (map (routine_judge bodyless) rs)
block_for_same rule h [] = refl
block_for_same rule h (r ∷ rs) =
    ap (λ b. if b then Some (routine_judge rule r).name else block_for h (map (routine_judge rule) rs)) (for_same rule h r)
    ∙ (ap (λ n. if is_block_for h (routine_judge bodyless r) then Some n else block_for h (map (routine_judge rule) rs)) (name_is rule r ∙ sym (name_is bodyless r))
    ∙ ap (λ o. if is_block_for h (routine_judge bodyless r) then Some (routine_judge bodyless r).name else o) (block_for_same rule h rs))

pub naming_same : (rule : BodyRule) (n : Name) (h : Heading) (b : Bool) (rs : List Routine) → naming_of n h b (map (routine_judge rule) rs) ≡ naming_of n h b (map (routine_judge bodyless) rs)
naming_same rule n h b rs =
    ap (λ o. if b then record { name = n; forward = false; kind = CLEAN } else forward_naming n o) (block_for_same rule h rs)

-- ---- identifiers

routine_idents_same : (rule : BodyRule) (rs : List Routine) → routine_idents (map (routine_judge rule) rs) ≡ routine_idents (map (routine_judge bodyless) rs)
routine_idents_same rule [] = refl
routine_idents_same rule (r ∷ rs) =
    ap (λ (h : Heading). h.ident ∷ routine_idents (map (routine_judge rule) rs)) (heading_is rule r ∙ sym (heading_is bodyless r))
    ∙ ap (λ xs. (routine_judge bodyless r).heading.ident ∷ xs) (routine_idents_same rule rs)

pub idents_same : (rule : BodyRule) (b : Block) → (block_judge rule b).idents ≡ (block_judge bodyless b).idents
idents_same rule b =
    ap (λ (j : BlockJudge). j.idents) (block_is rule b)
    ∙ (ap (λ xs. decl_idents (map decl_judge (out-Block b).consts) ++ (decl_idents (map decl_judge (out-Block b).types) ++ (decl_idents (map decl_judge (out-Block b).vars) ++ xs))) (routine_idents_same rule (out-Block b).routines)
    ∙ sym (ap (λ (j : BlockJudge). j.idents) (block_is bodyless b)))
