use Rattle.std.proofs.Common.{ℕ, ◌<◌, length, subst, IsFalse}
use Rattle.ladder_text.specs.declared.draw_fault.DrawFaultKind.TheVariants.{TooLarge}
use Rattle.ladder_rows.specs.Rows.{Rows}
use Rattle.ladder_rows.specs.Faults.{not_ascii}
use Rattle.ladder_text.specs.FirstFault.{IsFirstDrawFault}
use Rattle.ladder_text.proofs.Faults.FirstFaults.{large_first}
use Rattle.ladder_text.proofs.reading.read_grid.Goals as goal

pub returns-in-Err-clause-first : goal.returns-in-Err-clause-first
returns-in-Err-clause-first c =
    let d = c.in_ok-rows.rows.items in
    let p = c.in-Err.place in
    let none : (r k : ℕ) → r < length d → IsFalse (not_ascii d r k) = rw c.deref.ensures.value at c.in_default.ensures.none in
    let first = large_first d p.row p.column (λ r k h _. none r k h) c.in-Err.ensures.first in
    λ _. rw c.fault-in-Err.ensures (subst (λ (e : Rows). IsFirstDrawFault e TooLarge p.row p.column) c.in_ok-rows.ensures first)
