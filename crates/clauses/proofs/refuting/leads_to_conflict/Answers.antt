use Rattle.clauses.proofs.Follows.{conflict_ends, unit_agreed}
use Rattle.clauses.proofs.refuting.leads_to_conflict.Goals as goal

pub returns-in-Conflict : goal.returns-in-Conflict
returns-in-Conflict c = λ _ v trues agreed.
    conflict_ends v c.loop-hint.known _ c.in-Some.clause.now c.in-Some.ensures (rw c.as_slice.ensures.value at c.in-Conflict.ensures)
    trues (c.loop-hint.invariant v trues agreed)

pub loop-hint-preserved : goal.loop-hint-preserved
loop-hint-preserved c = λ v trues agreed.
    rw (c.assign.ensures, c.wanted.ensures)
    (unit_agreed v c.loop-hint.known _ c.in-Some.clause.now c.in-Unit.literal c.in-Some.ensures
    (rw c.as_slice.ensures.value at c.in-Unit.ensures) trues (c.loop-hint.invariant v trues agreed))
