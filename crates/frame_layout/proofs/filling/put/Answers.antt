use Rattle.frame_layout.proofs.Frames.{put_turn}
use Rattle.frame_layout.proofs.filling.put.Goals as goal

pub returns : goal.returns
returns c =
    put_turn c.args.shapes.now.entries c.args.frame.now (record { ident = c.args.ident.now; shape = c.args.shape; by_place = c.args.by_place }) c.in_ok-ident.ident c.push.new.self c.slot_words-words.result c.words_sum-frame.result c.in_ok-ident.ensures c.in_ok-push.ensures.ok (c.slot_words-words.ensures c.args.ident.now) c.words_sum-frame.ensures
