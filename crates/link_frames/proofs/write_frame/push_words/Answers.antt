use Rattle.std.proofs.Common.{◌≡◌, ◌+◌, List, ℕ, suc, ◌++◌, length, take, slice_index, arith, sym, ap, ◌∙◌, length-append}
use Rattle.std.proofs.lemmas.List.{append_assoc, length-take-le}
use Rattle.byteorder.specs.Endian.{little_bytes}
use Rattle.link_frames.specs.Frames.{word_bytes}
use Rattle.link_frames.proofs.ReadBack.{length-word_bytes, word_bytes-next}
use Rattle.link_frames.proofs.write_frame.push_words.Goals as goal

pub push_word-requires : goal.push_word-requires
push_word-requires c =
    let done = take c.loop-word.word-index c.args.words.now in
    let long = length-append c.args.out.now (word_bytes done) in
    let bytes = length-word_bytes done in
    let some = length-take-le c.loop-word.word-index c.args.words.now (omega arith) in
    let out = ap (λ (xs : List ℕ). length xs) c.loop-word.invariant in
    omega (arith, long, bytes, some, out, c.loop-word-test.true, c.requires)

pub loop-word-preserved : goal.loop-word-preserved
loop-word-preserved c =
    let i = c.loop-word.word-index in
    let ws = c.args.words.now in
    let w = little_bytes 2 (slice_index ws i) in
    let next : suc i ≡ i + 1 = omega arith in
    c.push_word.ensures
    ∙ ap (λ (xs : List ℕ). xs ++ w) c.loop-word.invariant
    ∙ append_assoc c.args.out.now (word_bytes (take i ws)) w
    ∙ ap (λ (xs : List ℕ). c.args.out.now ++ xs) (sym (word_bytes-next ws i (omega (arith, c.loop-word-test.true))))
    ∙ ap (λ (n : ℕ). c.args.out.now ++ word_bytes (take n ws)) next
