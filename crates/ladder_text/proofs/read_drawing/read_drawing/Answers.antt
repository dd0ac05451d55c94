use Rattle.std.proofs.Common.{rules}
use Rattle.ladder_rows.specs.Rows.{rows_of}
use Rattle.ladder_text.specs.Places.{layout_of}
use Rattle.ladder_text.specs.Faults.{IsWellDrawn}
use Rattle.ladder_text.specs.Picture.{picture_of}
use Rattle.ladder_text.proofs.Marks.Soundness.{sound_picture}
use Rattle.ladder_text.proofs.read_drawing.read_drawing.Goals as goal

pub of-requires-2 : goal.of-requires-2
unfolding picture_of layout_of
of-requires-2 c =
    let well : IsWellDrawn (rows_of c.args.text.now) = rw c.in_ok-worded.ensures.same at c.in_ok-worded.ensures.well_drawn in
    sound_picture c.boxes_are_whole.ensures _ c.args.first_line c.args.text.now (search rules) well
