-- A well drawn text's picture is sound.
use Rattle.std.proofs.Common.{ℕ, List, ◌≡◌}
use Rattle.ladder_rows.specs.Rows.{rows_of}
use Rattle.ladder_rows.specs.Laws.{AreBoxesWhole}
use Rattle.ladder_text.specs.Places.{layout_of}
use Rattle.ladder_text.specs.Faults.{IsWellDrawn}
use Rattle.drawings.specs.Picture.{Picture, IsSound}
use Rattle.ladder_text.specs.Picture.{picture_of}
use Rattle.ladder_text.proofs.Rows.LeftRail.{left_above, left_within}
use Rattle.ladder_text.proofs.Marks.SymbolItems.{mark_at-contact, mark_at-coil, contacts_sharing, coils_sharing}
use Rattle.ladder_text.proofs.Marks.PictureMarks.{mark_at-drawn}
use Rattle.ladder_text.proofs.Outlines.RisingBoxes.{boxes_rising_of}
use Rattle.ladder_text.proofs.Outlines.BoxPlaces.{mark_at-box, boxes_sharing, box_whole}

sound_of_text : AreBoxesWhole → (line : ℕ) (text : List ℕ) → IsWellDrawn (rows_of text) → IsSound (picture_of line (layout_of (rows_of text)))
unfolding picture_of layout_of
sound_of_text whole line text well =
    let d = rows_of text in
    record {
      few_rows = well.low_enough;
      few_columns = well.narrow_enough;
      left_rail = (left_above text, left_within text well.drawn);
      on_page = mark_at-drawn line (layout_of d);
      contacts = mark_at-contact line (layout_of d);
      contacts_apart = contacts_sharing (layout_of d);
      coils = mark_at-coil line (layout_of d);
      coils_apart = coils_sharing (layout_of d);
      boxes = mark_at-box whole line d;
      boxes_apart = boxes_sharing whole d well.boxes_apart;
      boxes_rising = boxes_rising_of whole d;
      boxes_whole = box_whole whole d;
    }

-- the same, of a picture that is a text's
pub sound_picture : AreBoxesWhole → (g : Picture) (line : ℕ) (text : List ℕ) → g ≡ picture_of line (layout_of (rows_of text)) → IsWellDrawn (rows_of text) → IsSound g
sound_picture whole g line text e well = rw e (sound_of_text whole line text well)
