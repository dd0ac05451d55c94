use Rattle.std.proofs.Common.{◌≡◌, take, is_some}
use Rattle.std.specs.List.{Any, list_any}
use Rattle.ladder_rows.specs.Boxes.{outlines}
use Rattle.ladder_text.specs.Faults.{has_stray_pin}
use Rattle.ladder_text.specs.FirstFault.{IsStrayBoxAt}
use Rattle.ladder_text.specs.Steps.Search.{IsFirstOf}
use Rattle.ladder_text.proofs.places.marked_grid.MarkedGrid.first_stray_operand.Given as goal

abbrev pub invariant-loop-outline : goal.invariant-loop-outline
invariant-loop-outline l = record {
  any : is_some l.first ≡ list_any (has_stray_pin (outlines l.self)) (take l.outline-index (outlines l.self));
  first : IsFirstOf (λ r c. Any (λ b. IsStrayBoxAt (outlines l.self) b r c) (take l.outline-index (outlines l.self))) l.first;
}
