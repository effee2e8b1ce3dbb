-- A program as the level of blocks sees it: the form of each block, and where its link words lead.
use Rattle.std.specs.Prelude.{◌==◌, if◌then◌else◌, Option, Some, None}
use Rattle.console_service.specs.Block.{Gate, End, Spot}
use Rattle.console_service.specs.Plain.{FormProgram}
use Rattle.pascal_semantics.specs.Program.{Program as PascalProgram, Row, Target, Gate as GateOf, Finish, row_of}
use Rattle.pascal_semantics.specs.Valid.{program_name}
use Rattle.statement_code.specs.Forms.{BlockForm, ProgramBlock, StatementBlock}

-- where control goes, as an end of a link
abbrev pub spot_of : Target → Spot
spot_of (GateOf n) = record { name = n; part = Gate }
spot_of Finish = record { name = program_name; part = End }

-- the form of a statement's block
abbrev pub form_of : Option Row → Option BlockForm
form_of None = None
form_of (Some row) = Some (StatementBlock row.form)

-- where the link of a statement's block leads
abbrev pub end_of : Option Row → Spot
end_of None = spot_of Finish
end_of (Some row) = spot_of row.continuation

-- the program's block leads to its body, and a statement's block to what comes after the statement
abbrev pub blocks_of : PascalProgram → FormProgram BlockForm
blocks_of P = record {
  form = λ n. if n == program_name then Some ProgramBlock else form_of (row_of P n);
  link_end = λ n to. if n == program_name then spot_of P.entry else end_of (row_of P n);
}
