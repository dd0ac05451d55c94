use Rattle.std.proofs.Common.{◌≡◌, take}
use Rattle.text_commands.specs.Restarts.{last_restart}
use Rattle.text_commands.proofs.given.Given.last_restart.Given as goal

abbrev pub invariant-loop-restart : goal.invariant-loop-restart
invariant-loop-restart l = l.last ≡ last_restart (take l.restart-index l.self.restarts)
