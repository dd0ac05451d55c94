use Rattle.std.proofs.Common.{◌≡◌, Some}
use Rattle.ladder_rows.specs.Boxes.{pins_of_rows}
use Rattle.ladder_rows.proofs.boxes.outlines.pins_of_rows.Given as goal

abbrev pub invariant-loop-i : goal.invariant-loop-i
invariant-loop-i l = pins_of_rows l.grid l.left l.right l.from l.i ≡ Some l.pins
