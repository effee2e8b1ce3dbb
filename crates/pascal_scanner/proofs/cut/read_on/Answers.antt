use Rattle.std.proofs.Common.{refl}
use Rattle.pascal_scanner.specs.Unread.{HasBadCharacter, HasOpenComment, HasOpenString, HasLargeNumber}
use Rattle.pascal_scanner.proofs.Fronts.{rest_whole}
use Rattle.pascal_scanner.proofs.Onward.{read-gap, read-token, read-stuck}
use Rattle.pascal_scanner.proofs.cut.read_on.Goals as goal

pub returns-in-Ok-Gap-clause-read : goal.returns-in-Ok-Gap-clause-read
returns-in-Ok-Gap-clause-read c =
    let gap = rw (rest_whole c.args.at c.args.text.now, c.in-Ok-Gap.field-0-is) at c.in-Ok-Gap.ensures.ok in
    read-gap _ _ _ _ c.requires.read gap.1 gap.2

pub returns-in_ok-push_token-in-Ok-Lexed-clause-read : goal.returns-in_ok-push_token-in-Ok-Lexed-clause-read
returns-in_ok-push_token-in-Ok-Lexed-clause-read c =
    let token = rw (rest_whole c.args.at c.args.text.now, c.in-Ok-Lexed.field-0-is) at c.in-Ok-Lexed.ensures.ok in
    rw c.in_ok-push_token-in-Ok-Lexed.ensures.ok (read-token _ _ _ _ _ c.requires.read token.0 token.1 refl refl token.2)

pub returns-in-Err-Character-clause-fault : goal.returns-in-Err-Character-clause-fault
returns-in-Err-Character-clause-fault c =
    let stuck = rw (rest_whole c.args.at c.args.text.now, c.in-Err-Character.field-0-is) at c.in-Err-Character.ensures.err in
    (read-stuck HasBadCharacter _ _ _ c.requires.read stuck, λ bad. absurd cc)

pub returns-in-Err-Comment-clause-fault : goal.returns-in-Err-Comment-clause-fault
returns-in-Err-Comment-clause-fault c =
    let stuck = rw (rest_whole c.args.at c.args.text.now, c.in-Err-Comment.field-0-is) at c.in-Err-Comment.ensures.err in
    (read-stuck HasOpenComment _ _ _ c.requires.read stuck, λ bad. absurd cc)

pub returns-in-Err-String-clause-fault : goal.returns-in-Err-String-clause-fault
returns-in-Err-String-clause-fault c =
    let stuck = rw (rest_whole c.args.at c.args.text.now, c.in-Err-String.field-0-is) at c.in-Err-String.ensures.err in
    (read-stuck HasOpenString _ _ _ c.requires.read stuck, λ bad. absurd cc)

pub returns-in-Err-Number-clause-fault : goal.returns-in-Err-Number-clause-fault
returns-in-Err-Number-clause-fault c =
    let stuck = rw (rest_whole c.args.at c.args.text.now, c.in-Err-Number.field-0-is) at c.in-Err-Number.ensures.err in
    (read-stuck HasLargeNumber _ _ _ c.requires.read stuck, λ bad. absurd cc)
