use Rattle.std.proofs.Common.{◌≡◌, map, take}
use Rattle.ladder_rows.specs.Boxes.{outlines}
use Rattle.ladder_text.specs.Places.{layout_of}
use Rattle.ladder_text.specs.Names.{drawn_box}
use Rattle.ladder_text.proofs.symbols.drawn_boxes.Given as goal

abbrev pub invariant-loop-outline : goal.invariant-loop-outline
invariant-loop-outline l = l.all.items ≡ map (drawn_box (layout_of l.worded)) (take l.outline-index (outlines l.worded))
