-- The commands before the present one have their tickets.
use Rattle.std.proofs.Common.{◌≡◌, ℕ, ◌+◌, ◌<◌, Some, slice_get}
use Rattle.node_reports.specs.declared.command.Command.{Command}
use Rattle.node_reports.proofs.conditions.are_numbered.Given as goal

abbrev pub invariant-loop-k : goal.invariant-loop-k
invariant-loop-k l = (i : ℕ) (c : Command) → i < l.k → slice_get l.commands i ≡ Some c → c.ticket ≡ i + 1
