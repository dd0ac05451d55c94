use Rattle.std.proofs.Common.{◌++◌, ap, sym, ◌∙◌}
use Rattle.power_flow.specs.Steps.Fused.{single}
use Rattle.power_flow.proofs.Networks.Fusing.{singles_push}
use Rattle.power_flow.proofs.steps.fused.fewer.Goals as goal

pub loop-step-preserved : goal.loop-step-preserved
loop-step-preserved c =
    let step = c.in-Some.step in
    c.in_ok-push_fused.ensures ∙ ap (λ x. x ++ single step) c.loop-step.invariant ∙ sym (singles_push c.loop-step.yielded step)
