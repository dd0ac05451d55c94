use Rattle.ladder_rows.specs.Rows.{rows_of}
use Rattle.ladder_text.proofs.Faults.Faultless.{well_drawn_of}
use Rattle.ladder_text.proofs.Faults.FirstFaults.{faultless_of}
use Rattle.ladder_text.proofs.read_drawing.DrawingReadText.read.Goals as goal

pub returns-in-Ok-clause-same : goal.returns-in-Ok-clause-same
returns-in-Ok-clause-same c = (faultless_of c.boxes_are_whole.ensures (rows_of c.args.text.now), well_drawn_of c.rows_are_within.ensures (rows_of c.args.text.now))

pub returns-in-Err-clause-same : goal.returns-in-Err-clause-same
returns-in-Err-clause-same c = (faultless_of c.boxes_are_whole.ensures (rows_of c.args.text.now), well_drawn_of c.rows_are_within.ensures (rows_of c.args.text.now))
