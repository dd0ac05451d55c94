use Rattle.std.proofs.Common.{subst}
use Rattle.ladder_rows.specs.Boxes.{outlines}
use Rattle.ladder_rows.specs.Faults.{IsFirstAt}
use Rattle.ladder_text.specs.FirstFault.{IsStrayWordAt, IsStrayOperandAt}
use Rattle.ladder_text.specs.Steps.Search.{IsFirstOf}
use Rattle.ladder_text.proofs.Faults.FirstFaults.{operand_first}
use Rattle.ladder_text.proofs.reading.check_strays.Goals as goal

pub returns-in-Some-operand-clause-first : goal.returns-in-Some-operand-clause-first
returns-in-Some-operand-clause-first c =
    let d = c.args.worded.now in
    let p = c.in-Some-operand.place in
    let words = subst (IsFirstOf (IsStrayWordAt d)) c.in-None.is c.in_ok-word.ensures.first in
    let operand : IsFirstAt (IsStrayOperandAt (outlines d)) p.row p.column = rw c.marked.ensures at c.in-Some-operand.ensures.first in
    λ _. rw c.fault-in-Some-operand.ensures (operand_first d p.row p.column words operand)
