use Rattle.std.proofs.Common.{◌≡◌, take, is_some}
use Rattle.std.specs.List.{Any, list_any}
use Rattle.ladder_rows.specs.Boxes.{outlines}
use Rattle.ladder_text.specs.Faults.{is_stray_operand}
use Rattle.ladder_text.specs.FirstFault.{IsStrayPinAt}
use Rattle.ladder_text.specs.Steps.Search.{IsFirstOf}
use Rattle.ladder_text.proofs.places.marked_grid.MarkedGrid.first_stray_pin.Given as goal

abbrev pub invariant-loop-pin : goal.invariant-loop-pin
invariant-loop-pin l = record {
  any : is_some l.first ≡ list_any (λ q. is_stray_operand (outlines l.self) q.row q.operand) (take l.pin-index l.pin-items);
  first : IsFirstOf (λ r c. Any (λ q. IsStrayPinAt (outlines l.self) q r c) (take l.pin-index l.pin-items)) l.first;
}
