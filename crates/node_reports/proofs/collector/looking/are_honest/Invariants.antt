-- Each step before the present one is honest.
use Rattle.std.proofs.Common.{ℕ, ◌<◌, get_or}
use Rattle.node_reports.specs.declared.step.Step.{Step}
use Rattle.node_reports.specs.Steps.Looking.{IsHonestStep}
use Rattle.node_reports.proofs.collector.looking.are_honest.Given as goal

abbrev pub invariant-loop-k : goal.invariant-loop-k
invariant-loop-k l = (i : ℕ) (d : Step) → i < l.k → IsHonestStep l.commands l.all l.resource (get_or l.steps i d)
