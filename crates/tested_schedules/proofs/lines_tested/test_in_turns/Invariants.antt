use Rattle.std.proofs.Common.{◌≡◌, ℕ, List, length}
use Rattle.world.specs.Simulated.{from_one}
use Rattle.tested_schedules.specs.Steps.Testing.{AreIncarnations, state_of}
use Rattle.tested_schedules.proofs.LinesEnding.{StandsRead}
use Rattle.tested_schedules.proofs.lines_tested.test_in_turns.Given as goal

abbrev pub invariant-loop-before : goal.invariant-loop-before
invariant-loop-before g l =
    (lines : List (List ℕ)) × (length lines ≡ l.before) × AreIncarnations l.testing.world l.testing.incarnations.items
    × StandsRead (from_one l.fn.plant.value l.max_number) lines (state_of l.testing) (g.L.LineSource.left l.initial.source) (g.L.LineSource.left l.source) (g.W.Write.contents l.initial.out) (g.W.Write.contents l.out)
