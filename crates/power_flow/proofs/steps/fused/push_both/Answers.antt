use Rattle.std.proofs.Common.{◌≡◌, ◌++◌, [], ◌∷◌, append_assoc, ap, sym, ◌∙◌}
use Rattle.power_flow.specs.Steps.Fused.{single, singles}
use Rattle.power_flow.proofs.Networks.Fusing.{singles_push}
use Rattle.power_flow.proofs.steps.fused.push_both.Goals as goal

pub returns-in_ok-push-in-Some : goal.returns-in_ok-push-in-Some
returns-in_ok-push-in-Some c =
    let old = c.args.steps.now.items in
    let is : single c.in-Some.one ≡ single c.args.last ++ single c.args.step = rw c.in-Some.is at c.both.ensures in
    ap singles c.in_ok-push-in-Some.ensures.items ∙ singles_push old c.in-Some.one ∙ ap (λ x. singles old ++ x) is ∙ sym (append_assoc (singles old) (single c.args.last) (single c.args.step))

pub returns-in_ok-push-in-None-2 : goal.returns-in_ok-push-in-None-2
returns-in_ok-push-in-None-2 c =
    let old = c.args.steps.now.items in
    ap singles (c.in_ok-push-in-None-2.ensures.items ∙ ap (λ x. x ++ c.args.step ∷ []) c.in_ok-push-in-None.ensures.items)
    ∙ singles_push (old ++ c.args.last ∷ []) c.args.step ∙ ap (λ x. x ++ single c.args.step) (singles_push old c.args.last)
