use Rattle.std.proofs.Common.{take, get_or, sym, ap, arith, ◌∙◌}
use Rattle.std.proofs.lemmas.List.{take_more}
use Rattle.scan_steps.specs.declared.step.Step.TheVariants as step
use Rattle.power_flow.specs.Steps.Fused.{contacts_in, singles}
use Rattle.power_flow.proofs.Networks.Fusing.{contacts_more}
use Rattle.power_flow.proofs.steps.fused.contacts_of.Goals as goal

pub loop-step-preserved : goal.loop-step-preserved
loop-step-preserved c =
    let steps = c.args.steps.now in
    let i = c.loop-step.step-index in
    let s = c.step-item.result in
    let v = c.in-Some.variable in
    ap (contacts_in c.args.row) c.in_ok-push.ensures.items
    ∙ contacts_more c.args.row c.loop-step.contacts.items v (get_or steps i s) (take i steps) c.loop-step.invariant
    (sym c.step-item.is ∙ c.in-Contact.is ∙ ap step.Contact c.in-Some.ensures) (sym c.if-row-variable.false)
    ∙ ap singles (sym (take_more steps i s (omega arith)))
