use Rattle.std.proofs.Common.{◌≡◌, ◌<◌, ◌≤◌, ℕ, Some, slice_get}
use Rattle.drawings.specs.declared.place.Place.{Place}
use Rattle.network.specs.declared.element.Element.{Element}
use Rattle.network.specs.Apart.{Has, first_place}
use Rattle.power_flow.proofs.Walks.NetworkRows.{IsTopmost, IsLowest}
use Rattle.power_flow.proofs.steps.rows.Rows.of.Given as goal

abbrev pub invariant-loop-element : goal.invariant-loop-element
invariant-loop-element l = record {
  order : l.top ≤ l.lowest;
  topmost : IsTopmost l.elements l.top;
  lowest : IsLowest l.elements l.lowest;
  above : (j : ℕ) (e : Element) → j < l.element-index → slice_get l.elements j ≡ Some e → l.top ≤ (first_place e).row;
  below : (j : ℕ) (e : Element) (p : Place) → j < l.element-index → slice_get l.elements j ≡ Some e → Has e p → p.row ≤ l.lowest;
}
