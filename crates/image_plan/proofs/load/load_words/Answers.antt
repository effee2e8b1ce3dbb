use Rattle.std.proofs.Common.{arith, subst, sym}
use Rattle.image_plan.specs.Codes.{AreCodes}
use Rattle.image_plan.proofs.Lists.{codes_linked, codes_long}
use Rattle.statement_code.proofs.Made.{from_made}
use Rattle.image_plan.proofs.Image.{is_load}
use Rattle.image_plan.proofs.load.load_words.Goals as goal

pub lay_program-requires-clause-links : goal.lay_program-requires-clause-links
lay_program-requires-clause-links c = codes_linked c.args.statements.now _ (subst (AreCodes c.args.statements.now) (sym c.deref.ensures.value) c.in_ok-codes.ensures)

pub lay_program-requires-clause-room : goal.lay_program-requires-clause-room
lay_program-requires-clause-room c = omega (arith, c.in_ok-program.ensures.code.long, codes_long c.args.statements.now _ (subst (AreCodes c.args.statements.now) (sym c.deref.ensures.value) c.in_ok-codes.ensures), c.requires.fits)

pub returns : goal.returns
returns c =
    let are = subst (AreCodes c.args.statements.now) (sym c.deref.ensures.value) c.in_ok-codes.ensures in
    from_made _ _ c.lay_program.result c.lay_program.ensures (λ words e. is_load c.args.statements.now c.in_ok-program.program _ c.requires c.in_ok-program.ensures.code c.in_ok-program.ensures.parts are words.items e)

pub emit_all-requires : goal.emit_all-requires
emit_all-requires c = c.requires.forms
