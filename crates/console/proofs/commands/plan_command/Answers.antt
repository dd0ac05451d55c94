-- The arguments are added one by one.
use Rattle.std.proofs.Common.{ap, ap₂, ◌∙◌}
use Rattle.std.proofs.lemmas.Result.{IfOk-weaker}
use Rattle.clap.specs.Words.{with_rule}
use Rattle.clap.specs.Simple.{app_of_fields}
use Rattle.console.proofs.commands.plan_command.Goals as goal

pub returns : goal.returns
returns c =
    let top = ap app_of_fields c.after_help.ensures ∙ ap app_of_fields c.about.ensures ∙ c.new.ensures.app in
    let one = c.in_ok-arg.ensures.shape c.plant_arg.ensures.local ∙ ap₂ with_rule top c.plant_arg.ensures.rule in
    let two = c.in_ok-arg-2.ensures.shape c.until_arg.ensures.local ∙ ap₂ with_rule one c.until_arg.ensures.rule in
    IfOk-weaker c.arg-3.result _ _ (λ new added. added.shape c.as_schedule_arg.ensures.local ∙ ap₂ with_rule two c.as_schedule_arg.ensures.rule) c.arg-3.ensures
