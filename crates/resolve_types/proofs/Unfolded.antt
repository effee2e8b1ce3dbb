-- The table of shapes unfolded is that of the types.
use Rattle.std.proofs.Common.{◌≡◌, List, [], ◌∷◌, ◌++◌, map, refl, sym, ap, ◌∙◌}
use Rattle.check_rules.specs.Typing.{Table}
use Rattle.core_tree.specs.declared.shape.ShapeEntry.{ShapeEntry}
use Rattle.core_tree.specs.Shapes.{ShapeTree, HaveWords, counted_words, trees_after, trees_of, words_of, written_tree}
use Rattle.resolve_types.specs.Resolved.{HaveShapeWords, trees_over, type_trees, written_shapes}

over_shapes : (trees : List ShapeTree) (es : List ShapeEntry) → trees_after trees es ≡ trees_over trees (map (λ e. e.shape) es)
over_shapes trees [] = refl
over_shapes trees (e ∷ es) = over_shapes (trees ++ written_tree trees e.shape ∷ []) es

pub same_trees : (es : List ShapeEntry) (types : Table) → map (λ e. e.shape) es ≡ written_shapes types → trees_of es ≡ type_trees types
same_trees es types same = over_shapes [] es ∙ ap (trees_over []) same

pub same_words : (es : List ShapeEntry) (types : Table) → map (λ e. e.shape) es ≡ written_shapes types → HaveWords es → HaveShapeWords types → map (λ e. e.words) es ≡ map (λ w. w.words) types
same_words es types same have these =
    have ∙ (ap (map (λ tree. counted_words (words_of tree))) (same_trees es types same) ∙ sym these)
