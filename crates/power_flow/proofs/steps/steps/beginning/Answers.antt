use Rattle.std.proofs.Common.{get_or, ap, ◌∙◌}
use Rattle.power_flow.specs.Steps.Columns.Begins.{goes_on, at_rail, is_off}
use Rattle.power_flow.proofs.steps.steps.beginning.Goals as goal
use Rattle.power_flow.proofs.steps.steps.beginning.Goals.{else-at-gt0-via-then-at-gt0+else-ends-row, else-at-gt0-via-else-at-gt0}
use Rattle.std.proofs.Common.{arith}

pub returns-then-ends-row : goal.returns-then-ends-row
returns-then-ends-row c = λ elements tells. goes_on (tells.1 (c.if-at-gt0.true, rw c.row_below-row.ensures at c.if-ends-row.true))

pub returns-then-is_at_rail : goal.returns-then-is_at_rail
returns-then-is_at_rail c = λ elements tells. rw c.row_below-row.ensures (at_rail ((c.is_at_rail.ensures elements).0 c.if-is_at_rail.true))

pub returns-else-is_at_rail : goal.returns-else-is_at_rail
returns-else-is_at_rail c = λ elements tells. rw c.row_below-row.ensures (is_off
    (λ led. (let t = tells.0 led in
    elim c.else-at-gt0.branch [
      | else-at-gt0-via-then-at-gt0+else-ends-row w ↦ w.if-ends-row.false (ap (λ r. get_or c.args.ends.now r 0) c.row_below-row.ensures ∙ t.1)
      | else-at-gt0-via-else-at-gt0 w ↦ (let gt = t.0 in let le = w.if-at-gt0.false in omega arith)
    ]))
    (λ rail. (let yes = (c.is_at_rail.ensures elements).1 rail in let no = c.if-is_at_rail.false in cc)))
