use Rattle.std.proofs.Common.{◌≡◌, take}
use Rattle.text_commands.specs.SecondDrawing.{seen_names}
use Rattle.text_commands.proofs.second_drawing.names.seen_names.Given as goal

abbrev pub invariant-loop-place : goal.invariant-loop-place
invariant-loop-place l = l.seen ≡ seen_names (take l.place l.declarations)
