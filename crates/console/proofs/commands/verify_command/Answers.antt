-- The words are added behind the flags for warnings.
use Rattle.std.proofs.Common.{ap, ap₂, ◌∙◌}
use Rattle.std.proofs.lemmas.Result.{IfOk-weaker}
use Rattle.clap.specs.Words.{with_rule}
use Rattle.console.specs.CommandLine.{warned}
use Rattle.console.proofs.commands.verify_command.Goals as goal

pub returns : goal.returns
returns c =
    let program = c.in_ok-arg.ensures.shape c.program_arg.ensures.local ∙ ap₂ with_rule c.in_ok-claimed_command.ensures c.program_arg.ensures.rule in
    let second = c.in_ok-arg-2.ensures.shape c.with_file_arg.ensures.local ∙ ap₂ with_rule program c.with_file_arg.ensures.rule in
    let way = c.in_ok-arg-3.ensures.shape c.by_arg.ensures.local ∙ ap₂ with_rule second c.by_arg.ensures.rule in
    let certificate = c.in_ok-command.ensures.shape c.certificate_arg.ensures.local ∙ ap₂ with_rule way c.certificate_arg.ensures.rule in
    let flags = c.in_ok-warned_command.ensures ∙ ap warned certificate in
    IfOk-weaker c.arg-5.result _ _ (λ new added. added.shape c.words_arg.ensures.local ∙ ap₂ with_rule flags c.words_arg.ensures.rule) c.arg-5.ensures
