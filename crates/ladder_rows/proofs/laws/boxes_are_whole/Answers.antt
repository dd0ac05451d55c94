use Rattle.ladder_rows.proofs.laws.boxes_are_whole.Goals as goal

pub returns : goal.returns
returns c = Rattle.ladder_rows.proofs.Outlines.WholeBoxes.boxes_whole
