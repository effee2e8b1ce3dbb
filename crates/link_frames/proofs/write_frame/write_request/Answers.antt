use Rattle.target_monitor.specs.declared.requests.Request.TheVariants.{Reset, Poke, Peek, Registers, Gate, Go, Drain, Feed}
use Rattle.link_frames.proofs.ReadBack.{request-read-as}
use Rattle.link_frames.proofs.write_frame.write_request.Goals as goal

pub returns-in-Reset-clause-reads : goal.returns-in-Reset-clause-reads
returns-in-Reset-clause-reads c = request-read-as _ Reset c.in-Reset.is c.requires.form tt

pub returns-in-Poke-clause-reads : goal.returns-in-Poke-clause-reads
returns-in-Poke-clause-reads c = request-read-as _ (Poke _ _) c.in-Poke.is c.requires.form c.write_poke.ensures.fits

pub returns-in-Peek-clause-reads : goal.returns-in-Peek-clause-reads
returns-in-Peek-clause-reads c =
    let fit = c.write_words-in-Peek.ensures.fits in request-read-as _ (Peek _ _) c.in-Peek.is c.requires.form (fit 0, fit 1)

pub returns-in-Registers-clause-reads : goal.returns-in-Registers-clause-reads
returns-in-Registers-clause-reads c = request-read-as _ Registers c.in-Registers.is c.requires.form tt

pub returns-in-Gate-clause-reads : goal.returns-in-Gate-clause-reads
returns-in-Gate-clause-reads c = request-read-as _ (Gate _ _) c.in-Gate.is c.requires.form (c.write_words-in-Gate.ensures.fits 0)

pub returns-in-Go-clause-reads : goal.returns-in-Go-clause-reads
returns-in-Go-clause-reads c = request-read-as _ (Go _) c.in-Go.is c.requires.form (c.write_words-in-Go.ensures.fits 0)

pub returns-in-Drain-clause-reads : goal.returns-in-Drain-clause-reads
returns-in-Drain-clause-reads c = request-read-as _ Drain c.in-Drain.is c.requires.form tt

pub returns-in-Feed-clause-reads : goal.returns-in-Feed-clause-reads
returns-in-Feed-clause-reads c = request-read-as _ (Feed _ _) c.in-Feed.is c.requires.form c.write_feed.ensures.fits
