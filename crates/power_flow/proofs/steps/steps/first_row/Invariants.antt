use Rattle.std.proofs.Common.{◌≡◌, ℕ, ◌≤◌, Some, Any, slice_get}
use Rattle.network.specs.declared.element.Element.{Element}
use Rattle.network.specs.Links.{Stands, place}
use Rattle.power_flow.proofs.steps.steps.first_row.Given as goal

abbrev pub invariant-loop-number : goal.invariant-loop-number
invariant-loop-number l = record {
  here : (e : Element) × (slice_get l.elements l.number ≡ Some e) × Stands e (place l.row l.at.column);
  order : l.row ≤ l.at.row;
  each : (r : ℕ) → l.row ≤ r → r ≤ l.at.row → Any (λ e. Stands e (place r l.at.column)) l.elements;
}

abbrev pub decreases-loop-number : goal.decreases-loop-number
decreases-loop-number l = l.row
