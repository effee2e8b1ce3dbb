use Rattle.target_monitor.specs.declared.requests.Reply.TheVariants.{Done, Words, Went, Bytes, Bad}
use Rattle.link_frames.proofs.ReadBack.{reply-read-as}
use Rattle.link_frames.proofs.write_frame.write_answer.Goals as goal

pub returns-in-Done-clause-reads : goal.returns-in-Done-clause-reads
returns-in-Done-clause-reads c = reply-read-as _ Done c.in-Done.is tt

pub returns-in-Words-clause-reads : goal.returns-in-Words-clause-reads
returns-in-Words-clause-reads c = reply-read-as _ (Words _) c.in-Words.is c.write_reply_words.ensures.fits

pub returns-in-Went-clause-reads : goal.returns-in-Went-clause-reads
returns-in-Went-clause-reads c = reply-read-as _ (Went _ _) c.in-Went.is c.write_went.ensures.fits

pub returns-in-Bytes-clause-reads : goal.returns-in-Bytes-clause-reads
returns-in-Bytes-clause-reads c = reply-read-as _ (Bytes _) c.in-Bytes.is c.write_bytes.ensures.few

pub returns-in-Bad-clause-reads : goal.returns-in-Bad-clause-reads
returns-in-Bad-clause-reads c = reply-read-as _ Bad c.in-Bad.is tt
