use Rattle.std.proofs.Common.{◌≡◌, drop, length, take}
use Rattle.std.specs.List.{flat_map}
use Rattle.network.specs.Links.{Diagram}
use Rattle.text_commands.specs.LiveDrawing.{live_lines}
use Rattle.text_commands.proofs.live_drawing.live_lines.Given as goal

abbrev pub invariant-loop-network : goal.invariant-loop-network
invariant-loop-network l = record {
  lines : l.lines.items ≡ live_lines l.drawing (take l.network l.ladder.networks) l.shown;
  rest : l.rest ≡ drop (length (flat_map (λ (d : Diagram). d.elements) (take l.network l.ladder.networks))) l.shown;
}
