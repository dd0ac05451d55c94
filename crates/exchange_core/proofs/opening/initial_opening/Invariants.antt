use Rattle.exchange_core.proofs.Openings.{IsOpened}
use Rattle.exchange_core.proofs.opening.initial_opening.Given as goal

abbrev pub invariant-loop-task : goal.invariant-loop-task
invariant-loop-task l = IsOpened l.plant l.resource l.task l.opening.items
