use Rattle.std.proofs.Common.{List, ℕ, ◌∷◌, ◌++◌, ap, ◌∙◌}
use Rattle.byteorder.specs.Endian.{little_bytes}
use Rattle.link_frames.specs.declared.frames.TheConstants.{REQUEST_BYTE, POKE_KIND}
use Rattle.link_frames.specs.Frames.{frame, word_bytes}
use Rattle.link_frames.proofs.ReadBack.{poke-frame}
use Rattle.link_frames.proofs.write_frame.write_poke.Goals as goal

pub returns-clause-frame : goal.returns-clause-frame
returns-clause-frame c =
    let ws = c.as_slice-words.result.now in
    let place = little_bytes 2 c.args.place in
    c.push_words.ensures.words
    ∙ ap (λ (xs : List ℕ). xs ++ word_bytes ws) (c.push_word.ensures ∙ ap (λ (xs : List ℕ). xs ++ place) c.begin.ensures)
    ∙ poke-frame c.args.number c.args.place ws
    ∙ ap (λ (xs : List ℕ). frame REQUEST_BYTE POKE_KIND c.args.number (word_bytes (c.args.place ∷ xs))) c.as_slice-words.ensures.words
