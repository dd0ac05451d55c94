use Rattle.std.proofs.Common.{◌≡◌, ◌++◌, take, string_bytes}
use Rattle.std.specs.List.{flat_map}
use Rattle.text_commands.specs.LiveDrawing.{line_text}
use Rattle.text_commands.proofs.live_drawing.push_drawing.Given as goal

abbrev pub invariant-loop-line : goal.invariant-loop-line
invariant-loop-line l = string_bytes l.text ≡ string_bytes l.initial.text ++ flat_map (line_text l.color) (take l.line-index l.line-items)
