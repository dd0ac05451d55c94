-- The files are added at the end.
use Rattle.std.proofs.Common.{ap, ◌∙◌}
use Rattle.std.proofs.lemmas.Result.{IfOk-weaker}
use Rattle.console.specs.CommandLine.{traced}
use Rattle.console.proofs.commands.sim_command.Goals as goal

pub returns : goal.returns
returns c = IfOk-weaker c.traced_command.result _ _ (λ command is. is ∙ ap traced c.in_ok-limited_command.ensures) c.traced_command.ensures
