-- Which cause is noted where a resource couldn't evaluate a task.
use Rattle.exchange_core.specs.declared.eval_fault.EvalFault.{EvalFault}
use Rattle.exchange_core.specs.declared.eval_fault.EvalFault.TheVariants as core
use Rattle.node_reports.specs.declared.cause.Cause.{Cause}
use Rattle.node_reports.specs.declared.cause.Cause.TheVariants.{NoSuchTask, NumbersSpent, Memory}

-- each refusal of the core is noted under its own name
abbrev pub cause_of : EvalFault → Cause
cause_of core.NoSuchTask = NoSuchTask
cause_of core.NumbersSpent = NumbersSpent
cause_of core.Memory = Memory
