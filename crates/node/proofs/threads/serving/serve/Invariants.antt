-- The plant and the limit stay.
use Rattle.std.proofs.Common.{◌≡◌}
use Rattle.node.proofs.threads.serving.serve.Given as goal

abbrev pub invariant-loop : goal.invariant-loop
invariant-loop g l = l.worker ≡ l.initial.worker
