use Rattle.std.proofs.Common.{◌≡◌}
use Rattle.pascal_parser.specs.Headings.{heading_in}
use Rattle.pascal_parser.proofs.decls.read_heading.Goals as goal

-- the reader of a heading needs no levels
pub returns : goal.returns
unfolding heading_in
returns c = c.read_all.ensures heading_in (record { callable = λ alloc old d. tt; reads = λ alloc old new d r x. x.1 })
