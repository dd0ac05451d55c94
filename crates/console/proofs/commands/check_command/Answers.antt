-- The flags for warnings are added behind the plant.
use Rattle.std.proofs.Common.{ap, ap₂, ◌∙◌}
use Rattle.std.proofs.lemmas.Result.{IfOk-weaker}
use Rattle.clap.specs.Words.{with_rule}
use Rattle.clap.specs.Simple.{app_of_fields}
use Rattle.console.specs.CommandLine.{warned}
use Rattle.console.proofs.commands.check_command.Goals as goal

pub returns : goal.returns
returns c =
    let top = ap app_of_fields c.after_help.ensures ∙ ap app_of_fields c.about.ensures ∙ c.new.ensures.app in
    let one = c.in_ok-command.ensures.shape c.plant_arg.ensures.local ∙ ap₂ with_rule top c.plant_arg.ensures.rule in
    IfOk-weaker c.warned_command.result _ _ (λ new is. is ∙ ap warned one) c.warned_command.ensures
