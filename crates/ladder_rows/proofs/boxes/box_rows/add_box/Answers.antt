use Rattle.std.proofs.Common.{arith}
use Rattle.ladder_rows.proofs.boxes.box_rows.add_box.Goals as goal

pub returns-clause-below : goal.returns-clause-below
returns-clause-below c = λ k h. c.loop-index.invariant.behind k (omega arith)
