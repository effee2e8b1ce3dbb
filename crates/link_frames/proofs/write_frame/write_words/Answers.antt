use Rattle.std.proofs.Common.{List, ℕ, ◌++◌, sym, ap, ◌∙◌}
use Rattle.link_frames.specs.Frames.{head, word_bytes}
use Rattle.link_frames.proofs.ReadBack.{length-word_bytes}
use Rattle.link_frames.proofs.write_frame.write_words.Goals as goal

pub returns-clause-frame : goal.returns-clause-frame
returns-clause-frame c =
    let ws = c.args.words.now in
    c.push_words.ensures.words
    ∙ ap (λ (xs : List ℕ). xs ++ word_bytes ws) c.begin.ensures
    ∙ ap (λ (n : ℕ). head c.args.first c.args.kind c.args.number n ++ word_bytes ws) (sym (length-word_bytes ws))
