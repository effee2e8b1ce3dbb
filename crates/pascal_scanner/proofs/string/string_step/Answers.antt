use Rattle.std.proofs.Common.{◌≡◌, true, false, cond, sym, ap, ◌∙◌, arith}
use Rattle.std.proofs.lemmas.Bool.{ne_eqb}
use Rattle.dice_base.specs.Lexemes.{opens_string}
use Rattle.pascal_scanner.specs.Longest.{element_of}
use Rattle.pascal_scanner.proofs.Fronts.{rest_whole}
use Rattle.pascal_scanner.proofs.Strings.{element_len, string_more, string_closed, string_open}
use Rattle.pascal_scanner.proofs.string.string_step.Goals as goal
use Rattle.pascal_scanner.proofs.string.string_step.Goals.{then-character-eq39, else-character-eq39, else-at-gt1-via-then-at-gt1+else-opens_string, else-at-gt1-via-else-at-gt1}

pub loop-character-preserved : goal.loop-character-preserved
loop-character-preserved c =
    let len : c.if-character-eq39.at ≡ element_len c.in-Some.character =
    elim c.if-character-eq39.branch [
      | then-character-eq39 w ↦ w.at-is ∙ ap element_len (sym w.if-character-eq39.true)
      | else-character-eq39 w ↦ w.at-is ∙ ap (λ b. cond b 2 1) (sym (ne_eqb _ _ w.if-character-eq39.false))
    ] in
    rw c.in_ok-push.ensures.ok (string_more _ _ _ _ _ len c.loop-character.invariant (sym (c.in-Some.ensures ∙ ap element_of (rest_whole c.loop-character.at c.args.text.now))))

pub returns-then-opens_string-clause-ok : goal.returns-then-opens_string-clause-ok
returns-then-opens_string-clause-ok c =
    string_closed _ _ _ c.loop-character.invariant
    (sym (c.in_default.ensures ∙ ap element_of (rest_whole c.loop-character.at c.args.text.now)))
    c.if-at-gt1.true
    (sym (c.if-opens_string.ensures ∙ ap opens_string (rest_whole c.loop-character.at c.args.text.now)))

pub returns-else-at-gt1-clause-err : goal.returns-else-at-gt1-clause-err
returns-else-at-gt1-clause-err c =
    string_open _ _ _ c.loop-character.invariant
    (sym (c.in_default.ensures ∙ ap element_of (rest_whole c.loop-character.at c.args.text.now)))
    (elim c.else-at-gt1.branch [
      | else-at-gt1-via-then-at-gt1+else-opens_string w ↦ λ long closed.
          let bad : true ≡ false = sym closed ∙ sym (ap opens_string (rest_whole c.loop-character.at c.args.text.now)) ∙ sym w.opens_string.ensures ∙ w.if-opens_string.false in absurd cc
      | else-at-gt1-via-else-at-gt1 w ↦ λ long closed. absurd (omega (arith, long, w.if-at-gt1.false))
    ])
