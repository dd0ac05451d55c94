use Rattle.std.proofs.Common.{ap, ◌∙◌}
use Rattle.clap.specs.Simple.{app_of_fields}
use Rattle.console.proofs.commands.named_command.Goals as goal

pub returns : goal.returns
returns c = ap app_of_fields c.after_help.ensures ∙ ap app_of_fields c.about.ensures ∙ ap app_of_fields c.in_ok-command.ensures.0 ∙ c.new.ensures.app
