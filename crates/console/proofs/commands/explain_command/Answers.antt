use Rattle.std.proofs.Common.{ap, ap₂, ◌∙◌}
use Rattle.std.proofs.lemmas.Result.{IfOk-weaker}
use Rattle.clap.specs.Words.{with_rule}
use Rattle.clap.specs.Simple.{app_of_fields}
use Rattle.console.proofs.commands.explain_command.Goals as goal

pub returns : goal.returns
returns c =
    let top = ap app_of_fields c.after_help.ensures ∙ ap app_of_fields c.about.ensures ∙ c.new.ensures.app in
    IfOk-weaker c.arg.result _ _ (λ new added. added.shape c.kind_arg.ensures.local ∙ ap₂ with_rule top c.kind_arg.ensures.rule) c.arg.ensures
