use Rattle.std.proofs.Common.{◌≡◌, ℕ, ◌+◌, ◌-◌, ◌<◌, length, ◌++◌, replicate, decimal, sym, ap, ◌∙◌, arith}
use Rattle.std.proofs.lemmas.List.{length-replicate}
use Rattle.console_service.specs.declared.console.Served.TheVariants.{Done}
use Rattle.console_service.specs.Console.{sign_of, size_of}
use Rattle.dice_base.specs.IntegerText.{integer_text}
use Rattle.console_service.proofs.console.Console.write_padded.Goals as goal
use Rattle.console_service.proofs.Texts.{written_fits, written_full, length_text, text_of_parts}

pub returns-then-padding-sign : goal.returns-then-padding-sign
returns-then-padding-sign c =
    let word : c.args.word < 65536 = omega (arith, c.ranges.word) in
    let digits : c.as_bytes-digits.result.now ≡ decimal (size_of c.args.word) = c.as_bytes-digits.ensures.value ∙ c.format.ensures.text ∙ ap decimal c.size.ensures in
    sym (written_full (integer_text c.args.word c.args.width) c.args.machine.now c.args.self.now (omega (arith, c.if-padding-sign.true, c.free.ensures, c.saturating_sub.ensures, ap length c.spaces-padding.ensures, length-replicate {A = ℕ} c.saturating_sub.result 32, ap length c.sign-sign.ensures, ap length digits, length_text c.args.word c.args.width word)))

pub returns : goal.returns
returns c =
    let word : c.args.word < 65536 = omega (arith, c.ranges.word) in
    let digits : c.as_bytes-digits.result.now ≡ decimal (size_of c.args.word) = c.as_bytes-digits.ensures.value ∙ c.format.ensures.text ∙ ap decimal c.size.ensures in
    let pad = c.saturating_sub.result in
    let pad_is : pad ≡ c.args.width - (length (sign_of c.args.word) + length (decimal (size_of c.args.word))) = omega (arith, c.saturating_sub.ensures, ap length c.sign-sign.ensures, ap length digits) in
    let one : c.append.new.self.output ≡ c.args.self.now.output ++ replicate pad 32 = ap (λ k. k.output) c.append.ensures ∙ ap (λ t. c.args.self.now.output ++ t) c.spaces-padding.ensures in
    let two : c.append-2.new.self.output ≡ (c.args.self.now.output ++ replicate pad 32) ++ sign_of c.args.word = ap (λ k. k.output) c.append-2.ensures ∙ ap (λ t. t ++ c.sign-sign.result.now) one ∙ ap (λ t. (c.args.self.now.output ++ replicate pad 32) ++ t) c.sign-sign.ensures in
    let three : c.append-3.new.self.output ≡ c.args.self.now.output ++ integer_text c.args.word c.args.width = ap (λ k. k.output) c.append-3.ensures ∙ ap (λ t. t ++ c.as_bytes-digits.result.now) two ∙ ap (λ t. ((c.args.self.now.output ++ replicate pad 32) ++ sign_of c.args.word) ++ t) digits ∙ text_of_parts c.args.self.now.output c.args.word c.args.width pad word pad_is in
    let input : c.append-3.new.self.input ≡ c.args.self.now.input = ap (λ k. k.input) c.append-3.ensures ∙ ap (λ k. k.input) c.append-2.ensures ∙ ap (λ k. k.input) c.append.ensures in
    let whole : c.append-3.new.self ≡ record c.args.self.now { output = c.args.self.now.output ++ integer_text c.args.word c.args.width } = ap (λ o. record c.append-3.new.self { output = o }) three ∙ ap (λ i. record { output = c.args.self.now.output ++ integer_text c.args.word c.args.width; input = i }) input in
    ap (λ k. (c.args.machine.now, k, Done)) whole ∙ sym (written_fits (integer_text c.args.word c.args.width) c.args.machine.now c.args.self.now (omega (arith, c.if-padding-sign.false, c.free.ensures, c.saturating_sub.ensures, ap length c.spaces-padding.ensures, length-replicate {A = ℕ} pad 32, ap length c.sign-sign.ensures, ap length digits, length_text c.args.word c.args.width word)))
