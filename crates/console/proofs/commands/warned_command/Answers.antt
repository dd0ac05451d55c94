-- The arguments are added one by one.
use Rattle.std.proofs.Common.{refl, ap₂, ◌∙◌}
use Rattle.std.proofs.lemmas.Result.{IfOk-weaker}
use Rattle.clap.specs.Words.{with_rule}
use Rattle.console.proofs.commands.warned_command.Goals as goal

pub returns : goal.returns
returns c =
    let one = c.in_ok-arg.ensures.shape c.strict_arg.ensures.local ∙ ap₂ with_rule refl c.strict_arg.ensures.rule in
    IfOk-weaker c.arg-2.result _ _ (λ new added. added.shape c.no_warnings_arg.ensures.local ∙ ap₂ with_rule one c.no_warnings_arg.ensures.rule) c.arg-2.ensures
