use Rattle.std.proofs.Common.{ap, sym, ◌∙◌, length, length-append, arith}
use Rattle.task_codes.proofs.Moments.{dues_left}
use Rattle.task_codes.proofs.planning.push_dues.Goals as goal

pub returns-then-len-eq-MOST_ENTRIES-clause-too_long : goal.returns-then-len-eq-MOST_ENTRIES-clause-too_long
returns-then-len-eq-MOST_ENTRIES-clause-too_long c =
    let order = c.args.order.now in
    let left = dues_left order c.args.moment c.loop-slot.slot-index _ c.loop-slot-test.true (sym c.is_due.ensures ∙ c.if-is_due.true) in
    let had = simp length-append at (ap length c.loop-slot.invariant.so_far) in
    λ e. simp length-append (omega (arith, left, had))
