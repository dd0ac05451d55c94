use Rattle.std.proofs.Common.{◌≡◌, ℕ, ◌<◌, Some, false}
use Rattle.std.specs.List.{slice_get}
use Rattle.ladder_rows.specs.declared.boxes.outline.Outline.{Outline}
use Rattle.ladder_rows.specs.Boxes.{outlines}
use Rattle.ladder_text.specs.FirstFault.{shares_before}
use Rattle.ladder_text.proofs.places.marked_grid.MarkedGrid.first_shared_box.Given as goal

abbrev pub invariant-loop-number : goal.invariant-loop-number
invariant-loop-number l = (k : ℕ) (b : Outline) → k < l.number → slice_get (outlines l.self) k ≡ Some b → shares_before (outlines l.self) k b ≡ false
