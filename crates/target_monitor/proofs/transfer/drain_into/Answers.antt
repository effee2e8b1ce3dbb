use Rattle.std.proofs.Common.{◌≡◌, min, length, take, drop, ap, ◌∙◌, arith}
use Rattle.std.proofs.lemmas.List.{take_min, drop_min, take_at, length-take}
use Rattle.target_monitor.proofs.transfer.drain_into.Goals as goal

pub returns-clause-bytes : goal.returns-clause-bytes
returns-clause-bytes c =
    let out = c.args.console.now.output in
    let n = c.drain.result in
    let most : n ≡ min 1000 (length out) = c.drain.ensures.count ∙ ap (λ n. min n (length out)) c.piece.invariant.1 in
    let long : length (take n out) ≡ n = length-take n out ∙ omega (arith, most) in
    ap (take n) c.drain.ensures.moved ∙ take_at (take n out) (drop n c.piece.inside.room) n long ∙ ap (λ n. take n out) most ∙ take_min 1000 out

pub returns-clause-rest : goal.returns-clause-rest
returns-clause-rest c =
    let out = c.args.console.now.output in
    let most : c.drain.result ≡ min 1000 (length out) = c.drain.ensures.count ∙ ap (λ n. min n (length out)) c.piece.invariant.1 in
    c.drain.ensures.kept ∙ ap (λ o. record c.args.console.now { output = o }) (ap (λ n. drop n out) most ∙ drop_min 1000 out)
