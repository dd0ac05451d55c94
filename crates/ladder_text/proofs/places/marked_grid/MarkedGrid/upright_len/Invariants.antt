use Rattle.std.proofs.Common.{ℕ, ◌≡◌, ◌≤◌, ◌<◌, ◌+◌, ◌-◌, true}
use Rattle.ladder_text.specs.Places.{layout_of, mark, is_vertical}
use Rattle.ladder_text.proofs.places.marked_grid.MarkedGrid.upright_len.Given as goal

abbrev pub invariant-loop-n : goal.invariant-loop-n
invariant-loop-n l = (l.n ≤ l.limit) × ((k : ℕ) → k < l.n → is_vertical (mark (layout_of l.self) (l.row + k) l.column) ≡ true)

abbrev pub decreases-loop-n : goal.decreases-loop-n
decreases-loop-n l = l.limit - l.n
