use Rattle.std.proofs.Common.{◌≡◌, ◌+◌, ◌≤◌, drop}
use Rattle.core_tree.specs.Shapes.{counted_words, trees_of}
use Rattle.resolve_types.specs.Forms.{variables_words}
use Rattle.resolve_types.proofs.routines.variables_words.Given as goal

abbrev pub invariant-loop-variable : goal.invariant-loop-variable
invariant-loop-variable l = record {
  small : l.words ≤ 1000000000;
  rest : counted_words (l.words + variables_words (trees_of l.table.entries) (drop l.variable-index l.variables)) ≡ counted_words (variables_words (trees_of l.table.entries) l.variables);
}
