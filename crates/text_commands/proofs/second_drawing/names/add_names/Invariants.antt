use Rattle.std.proofs.Common.{◌≡◌, take}
use Rattle.text_commands.specs.SecondDrawing.{joined_names}
use Rattle.text_commands.proofs.second_drawing.names.add_names.Given as goal

abbrev pub invariant-loop-place : goal.invariant-loop-place
invariant-loop-place l = l.declarations ≡ joined_names l.initial.declarations (take l.place l.others)
