use Rattle.std.proofs.Common.{◌≡◌, take}
use Rattle.text_commands.specs.LiveDrawing.{with_power}
use Rattle.text_commands.proofs.live_drawing.put_elements.Given as goal

abbrev pub invariant-loop-k : goal.invariant-loop-k
invariant-loop-k l = l.lines.items ≡ with_power (take l.k l.elements) l.shown l.initial.lines.items
