use Rattle.exchange_core.proofs.Keeping.{IsLeft}
use Rattle.exchange_core.proofs.message_core.MessageCore.kept_now.Given as goal

abbrev pub invariant-loop-task : goal.invariant-loop-task
invariant-loop-task l = IsLeft l.self l.task l.kept.items
