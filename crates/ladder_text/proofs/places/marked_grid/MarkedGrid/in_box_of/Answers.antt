use Rattle.std.proofs.Common.{not, ap, sym, ◌∙◌}
use Rattle.ladder_text.specs.Places.{layout_of}
use Rattle.ladder_rows.specs.declared.boxes.box_test.BoxTest.TheVariants.{Covers}
use Rattle.ladder_text.proofs.places.marked_grid.MarkedGrid.in_box_of.Goals as goal

pub returns-else-not-bare : goal.returns-else-not-bare
unfolding layout_of
returns-else-not-bare c =
    let a = c.args in
    ap not c.if-not-bare.false ∙ sym ((c.requires.bare c.if-not-bare.false).none Covers a.column)
