use Rattle.std.proofs.Common.{rules, arith, take, ◌++◌, ap, ◌∙◌, ◌+◌}
use Rattle.std.proofs.lemmas.List.{with_items_is}
use Rattle.dice_base.proofs.Slices.{take-overwritten}
use Rattle.dice_base.proofs.memory.MemSinkSink.write.Goals as goal

pub returns-clause-bytes : goal.returns-clause-bytes
returns-clause-bytes c =
    ap (take (c.args.self.now.filled + c.copy_front-count.result)) (with_items_is c.args.self.now.bytes _ (search rules))
    ∙ take-overwritten c.args.self.now.filled c.copy_front-count.result c.deref_mut.result.now c.copy_front-count.new.to _ c.args.piece.now
    (search rules) (omega (arith, c.copy_front-count.ensures.count, c.copy_front-count.auto.to)) c.copy_front-count.ensures.copied
    ∙ ap (λ b. take c.args.self.now.filled b ++ take c.copy_front-count.result c.args.piece.now) c.deref_mut.ensures.value
