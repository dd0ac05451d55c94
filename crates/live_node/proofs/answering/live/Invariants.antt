use Rattle.std.proofs.Common.{◌≡◌, ℕ, ◌*◌, ◌≤◌, List}
use Rattle.live_node.specs.Keeping.{KeepsCore}
use Rattle.live_node.specs.NodeAnswers.{a_keeper_gives}
use Rattle.live_node.specs.Steps.Together.{Stands}
use Rattle.live_node.proofs.answering.live.Given as goal

abbrev pub invariant-loop : goal.invariant-loop
invariant-loop g l =
    (lines : List (List ℕ))
    × Stands (a_keeper_gives g.K.Keeper.last g.K.Keeper.raise_gives) l.fn.node.state l.node.state l.fn.begun lines (g.L.LineSource.left l.fn.source) (g.L.LineSource.left l.source)
    (g.N.Notes.noted l.fn.node.notes) (g.N.Notes.noted l.node.notes) (g.W.Write.contents l.fn.out) (g.W.Write.contents l.out)
    × (g.K.Keeper.last l.node.keeper ≡ l.node.state.core.incarnation) × (l.node.state.lines ≤ 1000 * l.counter)
    × (KeepsCore (g.K.Keeper.kept_gives l.fn.node.keeper) l.fn.node.state.core → KeepsCore (g.K.Keeper.kept_gives l.node.keeper) l.node.state.core)
    × (g.N.Notes.synced l.node.notes ≡ g.N.Notes.noted l.node.notes)
