use Rattle.std.proofs.Common.{take}
use Rattle.text_commands.specs.SecondDrawing.{IsNoneTwice}
use Rattle.text_commands.proofs.second_drawing.beside.twice.Given as goal

abbrev pub invariant-loop-drawn : goal.invariant-loop-drawn
invariant-loop-drawn l = IsNoneTwice l.declarations (take l.drawn-index l.boxes)
