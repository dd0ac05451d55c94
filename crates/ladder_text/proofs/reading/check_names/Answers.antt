use Rattle.std.proofs.Common.{◌<◌, length, ap, subst, ◌∙◌, arith}
use Rattle.ladder_rows.specs.Rows.{Rows}
use Rattle.ladder_text.specs.Places.{layout_of}
use Rattle.ladder_text.specs.Names.{things}
use Rattle.ladder_text.specs.Faults.{name_missing}
use Rattle.ladder_text.specs.FirstFault.{IsSpanAt}
use Rattle.ladder_text.specs.Steps.Search.{IsFirstColumnOf}
use Rattle.ladder_text.proofs.Faults.FirstFaults.{unnamed_first}
use Rattle.ladder_text.proofs.reading.check_names.Goals as goal

pub returns-in-Some-clause-first : goal.returns-in-Some-clause-first
returns-in-Some-clause-first c =
    let d = c.args.worded.now in
    let p = layout_of d in
    let r = c.loop-row.row in
    let size = ap (λ (e : Rows). length e) (c.grid.ensures ∙ c.marked.ensures) in
    let inside : r < length d = omega (arith, c.row_end-row-end.ensures.rows, size, c.loop-row-test.true) in
    λ _. rw c.fault.ensures (unnamed_first d r c.in-Some.column inside c.loop-row.invariant (subst (IsFirstColumnOf (IsSpanAt (things p r) (name_missing p r))) c.in-Some.is c.in_ok-column.ensures.first))
