use Rattle.std.proofs.Common.{◌≡◌, ◌++◌, take, string_bytes}
use Rattle.std.specs.List.{flat_map}
use Rattle.text_commands.specs.LiveDrawing.{sign_text}
use Rattle.text_commands.proofs.live_drawing.push_line.Given as goal

abbrev pub invariant-loop-sign : goal.invariant-loop-sign
invariant-loop-sign l = string_bytes l.text ≡ string_bytes l.initial.text ++ flat_map (sign_text l.color) (take l.sign-index l.line)
