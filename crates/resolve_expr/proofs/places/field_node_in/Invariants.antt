use Rattle.std.proofs.Common.{◌≡◌, drop}
use Rattle.resolve_expr.specs.Nodes.{Node, field_node_in}
use Rattle.resolve_expr.proofs.places.field_node_in.Given as goal

abbrev pub invariant-loop-field : goal.invariant-loop-field
invariant-loop-field l = (x : Node) → field_node_in x l.fields l.ident ≡ field_node_in x (drop l.field-index l.fields) l.ident
