-- Whether a block and a routine are formed and how many levels they take, by the same of their parts.
use Rattle.std.specs.Prelude.{◌≡◌, ℕ, Bool, ◌&&◌}
use Rattle.pascal_tree.specs.declared.decl.Block.{Block, Block-F, roll-Block, map-Block}
use Rattle.pascal_tree.specs.declared.decl.Routine.{Routine, Routine-F, roll-Routine, map-Routine}
use Rattle.pascal_tree.specs.declared.decl.Block.TheFolds.{fold-roll-Block, fold-roll-Routine}
use Rattle.pascal_tree.specs.Formed.{formed_block, formed_routine, block_is_formed, routine_is_formed}
use Rattle.pascal_tree.specs.Openness.{paired_of_block, paired_of_routine, block_is_paired, routine_is_paired}
use Rattle.pascal_tree.specs.Depth.{depth_of_block, depth_of_routine, block_depth, routine_depth}
use Rattle.expression_laws.proofs.Layers.{Layer}
use Rattle.tree_laws.proofs.StmtLayers.{both}

-- ---- a layer of each, with trees in the places of its parts

abbrev pub BlockLayer : Type 0
BlockLayer = Block-F Block Routine

abbrev pub RoutineLayer : Type 0
RoutineLayer = Routine-F Block Routine

-- ---- it is formed, and each `else` in it belongs to its own `if`

abbrev pub block_is_whole : Block → Bool
block_is_whole b = block_is_formed b && block_is_paired b

abbrev pub routine_is_whole : Routine → Bool
routine_is_whole r = routine_is_formed r && routine_is_paired r

-- ---- what a layer says

abbrev pub block_whole : BlockLayer → Bool
block_whole x =
    formed_block (map-Block Block Routine Bool Bool block_is_formed routine_is_formed x)
    && paired_of_block (map-Block Block Routine Bool Bool block_is_paired routine_is_paired x)

abbrev pub block_levels : BlockLayer → ℕ
block_levels x = depth_of_block (map-Block Block Routine ℕ ℕ block_depth routine_depth x)

pub block-formed : (x : BlockLayer)
    → block_is_formed (roll-Block x) ≡ formed_block
    (map-Block Block Routine Bool Bool block_is_formed routine_is_formed x)
unfolding block_is_formed routine_is_formed
block-formed x = fold-roll-Block Bool Bool formed_block formed_routine x

pub routine-formed : (x : RoutineLayer)
    → routine_is_formed (roll-Routine x) ≡ formed_routine
    (map-Routine Block Routine Bool Bool block_is_formed routine_is_formed x)
unfolding block_is_formed routine_is_formed
routine-formed x = fold-roll-Routine Bool Bool formed_block formed_routine x

pub block-depth : (x : BlockLayer) → block_depth (roll-Block x) ≡ block_levels x
unfolding block_depth routine_depth
block-depth x = fold-roll-Block ℕ ℕ depth_of_block depth_of_routine x

pub block_layer : Layer block_is_whole block_depth roll-Block block_whole block_levels
unfolding block_is_paired routine_is_paired
block_layer = record {
  formed_is = λ x. both (block-formed x) (fold-roll-Block Bool Bool paired_of_block paired_of_routine x);
  depth_is = block-depth;
}

abbrev pub routine_whole : RoutineLayer → Bool
routine_whole x =
    formed_routine (map-Routine Block Routine Bool Bool block_is_formed routine_is_formed x)
    && paired_of_routine (map-Routine Block Routine Bool Bool block_is_paired routine_is_paired x)

abbrev pub routine_levels : RoutineLayer → ℕ
routine_levels x = depth_of_routine (map-Routine Block Routine ℕ ℕ block_depth routine_depth x)

pub routine-depth : (x : RoutineLayer) → routine_depth (roll-Routine x) ≡ routine_levels x
unfolding block_depth routine_depth
routine-depth x = fold-roll-Routine ℕ ℕ depth_of_block depth_of_routine x

pub routine_layer : Layer routine_is_whole routine_depth roll-Routine routine_whole routine_levels
unfolding block_is_paired routine_is_paired
routine_layer = record {
  formed_is = λ x. both (routine-formed x) (fold-roll-Routine Bool Bool paired_of_block paired_of_routine x);
  depth_is = routine-depth;
}
