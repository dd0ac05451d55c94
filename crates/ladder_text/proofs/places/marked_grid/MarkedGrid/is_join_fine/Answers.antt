use Rattle.std.proofs.Common.{◌≡◌, ◌-◌, ◌<◌, length, true, ap, arith}
use Rattle.ladder_rows.specs.Rows.{Rows}
use Rattle.ladder_text.specs.Places.{layout_of, gives}
use Rattle.ladder_text.proofs.Marks.FinePlaces.{fine_join}
use Rattle.ladder_text.proofs.places.marked_grid.MarkedGrid.is_join_fine.Goals as goal

pub returns-then-mark_gives : goal.returns-then-mark_gives
unfolding layout_of
returns-then-mark_gives c = λ t.
    let a = c.args in
    let p = layout_of a.self.now in
    let g : gives p a.row (a.column - 1) ≡ true = rw c.saturating_sub.ensures at (c.mark_gives.ensures c.if-mark_gives.true) in
    let high : 1 < length a.self.now = omega (arith, c.row_end.ensures.rows, ap (λ (d : Rows). length d) c.self.view_is) in
    fine_join p a.row a.column c.requires.bare high c.requires.mark g
