-- The commands before the present one are for resources of the plant.
use Rattle.std.proofs.Common.{ℕ, ◌<◌, length, get_or}
use Rattle.node_reports.specs.declared.command.Command.{Command}
use Rattle.node_reports.proofs.conditions.are_for_plant.Given as goal

abbrev pub invariant-loop-k : goal.invariant-loop-k
invariant-loop-k l = (i : ℕ) (d : Command) → i < l.k → (get_or l.commands i d).resource < length l.plant.resources
