use Rattle.std.proofs.Common.{◌≡◌, map}
use Rattle.text_commands.specs.LiveDrawing.{drawn_line}
use Rattle.text_commands.proofs.live_drawing.drawn_lines.Given as goal

abbrev pub invariant-loop-line : goal.invariant-loop-line
invariant-loop-line l = l.lines.items ≡ map drawn_line (map (λ x. x.now) l.yielded)
