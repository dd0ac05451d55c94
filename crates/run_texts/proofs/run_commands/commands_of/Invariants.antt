use Rattle.std.proofs.Common.{◌≡◌, take}
use Rattle.run_texts.specs.RunCommands.{commands_from}
use Rattle.run_texts.proofs.run_commands.commands_of.Given as goal

abbrev pub invariant-loop-i : goal.invariant-loop-i
invariant-loop-i l = l.commands.items ≡ commands_from l.plant l.inputs 1 (take l.i l.dues)
