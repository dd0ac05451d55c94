use Rattle.std.proofs.Common.{ℕ, ◌≤◌, List, length}
use Rattle.std.specs.Io.KnownBytes.{Consumes}
use Rattle.text_lines.specs.Lines.{HasNoFeed}
use Rattle.live_node.proofs.LineTaking.{IsHeld}
use Rattle.live_node.proofs.live_lines.take_rest.Given as goal

abbrev pub invariant-loop : goal.invariant-loop
invariant-loop g l =
    (rest : List ℕ) × HasNoFeed rest × Consumes (g.L.LineSource.left l.fn.source) (g.L.LineSource.left l.source) rest
    × IsHeld l.too_long l.fn.line.items l.line.items rest × (length l.line.items ≤ 16777216)
