-- A run begins.
use Rattle.std.proofs.Common.{inl}
use Rattle.audit.proofs.runs.put_whole.Goals as goal

pub returns-in_ok-push-in-Some : goal.returns-in_ok-push-in-Some
returns-in_ok-push-in-Some c =
    inl (c.in_ok-begun-in-Some.field-0, c.in_ok-begun-in-Some.ensures c.args.plant.now c.args.line.now (rw c.in-Some.is at c.in_ok-start.ensures), c.in_ok-push-in-Some.ensures.items)
