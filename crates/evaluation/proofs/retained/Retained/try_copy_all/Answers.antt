use Rattle.std.proofs.Common.{◌++◌, ◌∷◌, [], take, sym, ap, arith, ◌∙◌}
use Rattle.std.proofs.lemmas.List.{take_more, take_all}
use Rattle.evaluation.proofs.retained.Retained.try_copy_all.Goals as goal

pub loop-of_task-preserved : goal.loop-of_task-preserved
loop-of_task-preserved c =
    let all = c.args.retained.now in
    let i = c.loop-of_task.of_task-index in
    c.in_ok-push.ensures.items
    ∙ ap (λ x. x ++ c.in_ok-try_copy.field-0 ∷ []) c.loop-of_task.invariant
    ∙ ap (λ x. take i all ++ x ∷ []) (c.in_ok-try_copy.ensures ∙ c.of_task-item.is)
    ∙ sym (take_more all i c.of_task-item.result (omega arith))

pub returns : goal.returns
returns c = c.loop-of_task.invariant ∙ take_all c.loop-of_task.of_task-index c.args.retained.now c.loop-of_task-test.false
