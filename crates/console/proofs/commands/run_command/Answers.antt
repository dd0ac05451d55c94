-- The words are added behind the files.
use Rattle.std.proofs.Common.{ap, ap₂, ◌∙◌}
use Rattle.std.proofs.lemmas.Result.{IfOk-weaker}
use Rattle.clap.specs.Words.{with_rule}
use Rattle.console.specs.CommandLine.{traced}
use Rattle.console.proofs.commands.run_command.Goals as goal

pub returns : goal.returns
returns c =
    let files = c.in_ok-traced_command.ensures ∙ ap traced c.in_ok-paced_command.ensures in
    IfOk-weaker c.arg.result _ _ (λ new added. added.shape c.words_arg.ensures.local ∙ ap₂ with_rule files c.words_arg.ensures.rule) c.arg.ensures
