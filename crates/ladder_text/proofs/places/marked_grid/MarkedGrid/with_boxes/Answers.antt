use Rattle.std.proofs.Common.{inl, rules}
use Rattle.ladder_text.proofs.places.marked_grid.MarkedGrid.with_boxes.Goals as goal

pub invariant_of-result : goal.invariant_of-result
invariant_of-result c = (c.in_ok-boxes.ensures, tt, inl (search rules))
