use Rattle.std.proofs.Common.{◌≡◌, ◌+◌, ◌≤◌, drop}
use Rattle.core_tree.specs.Shapes.{counted_words, fields_of, fields_words, trees_of}
use Rattle.core_tree.proofs.table.ShapeTable.fields_words.Given as goal

abbrev pub invariant-loop-field : goal.invariant-loop-field
invariant-loop-field l = record {
  small : l.words ≤ 1000000000;
  rest : counted_words (l.words + fields_words (fields_of (trees_of l.fn.self.entries) (drop l.field-index l.fields))) ≡ counted_words (fields_words (fields_of (trees_of l.fn.self.entries) l.fields));
}
