use Rattle.std.proofs.Common.{◌≡◌, ◌+◌, false, refl}
use Rattle.ladder_rows.specs.declared.boxes.box_test.BoxTest.TheVariants.{Covers}
use Rattle.ladder_text.specs.Places.{layout_of, in_box}
use Rattle.ladder_text.proofs.places.marked_grid.MarkedGrid.are_three_free.Goals as goal

pub returns-then-is_bare : goal.returns-then-is_bare
unfolding layout_of
returns-then-is_bare c =
    let a = c.args in
    let p = layout_of a.self.now in
    let bare = c.is_bare.ensures c.if-is_bare.true in
    let here : in_box p a.row a.column ≡ false = bare.none Covers a.column in
    let next : in_box p a.row (a.column + 1) ≡ false = bare.none Covers (a.column + 1) in
    let last : in_box p a.row (a.column + 2) ≡ false = bare.none Covers (a.column + 2) in
    rw (here, next, last) refl
