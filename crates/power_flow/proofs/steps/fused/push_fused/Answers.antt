use Rattle.std.proofs.Common.{◌≡◌, ◌++◌, [], ◌∷◌, ap, ◌∙◌}
use Rattle.std.specs.Option.{option_to_list}
use Rattle.power_flow.specs.Steps.Fused.{singles}
use Rattle.power_flow.proofs.Networks.Fusing.{singles_push}
use Rattle.power_flow.proofs.steps.fused.push_fused.Goals as goal

pub returns-in-Some : goal.returns-in-Some
returns-in-Some c =
    let last = c.in-Some.last in
    let was : c.args.steps.now.items ≡ c.pop.new.self.items ++ last ∷ [] = c.pop.ensures.items ∙ ap (λ o. c.pop.new.self.items ++ option_to_list o) c.in-Some.is in
    rw (ap singles was ∙ singles_push c.pop.new.self.items last) c.push_both.ensures

pub returns-then-not-may_fuse : goal.returns-then-not-may_fuse
returns-then-not-may_fuse c = ap singles c.in_ok-push.ensures.items ∙ singles_push c.args.steps.now.items c.args.step
