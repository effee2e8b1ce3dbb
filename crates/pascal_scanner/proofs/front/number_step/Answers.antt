use Rattle.std.proofs.Common.{take, refl}
use Rattle.dice_base.specs.Lexemes.{digit_byte, value_of}
use Rattle.pascal_scanner.proofs.Fronts.{front-fits, number-some, number-large}
use Rattle.pascal_scanner.proofs.Takes.{number_taken, number_stuck}
use Rattle.pascal_scanner.proofs.front.number_step.Goals as goal

pub slice_bounds-number_of-end : goal.slice_bounds-number_of-end
slice_bounds-number_of-end c = front-fits digit_byte _ _ c.digits_len-len.ensures

pub returns-in-Some-clause-ok : goal.returns-in-Some-clause-ok
returns-in-Some-clause-ok c =
    let value = number-some (value_of (take c.digits_len-len.result c.args.text.now)) c.in-Some.value _ refl c.in-Some.ensures in
    rw (← value.0) (number_taken _ _ c.requires.some c.requires.begins c.digits_len-len.ensures value.1)

pub returns-in-None-clause-err : goal.returns-in-None-clause-err
returns-in-None-clause-err c =
    number_stuck _ _ c.requires.some c.requires.begins c.digits_len-len.ensures
    (number-large (value_of (take c.digits_len-len.result c.args.text.now)) _ refl c.in-None.ensures)
