use Rattle.std.proofs.Common.{◌≡◌, ◌*◌, ◌≤◌, ℕ, true, List, Option}
use Rattle.std.specs.Io.KnownBytes.{Appends}
use Rattle.live_node.specs.Keeping.{KeepsCore}
use Rattle.live_node.specs.NodeAnswers.{a_keeper_gives}
use Rattle.node_loop.specs.Steps.Following.{Follows}
use Rattle.node_loop.proofs.looping.run_loop.Given as goal

abbrev pub invariant-loop : goal.invariant-loop
invariant-loop g l =
    (behind_begun : Option (List ℕ)) × Appends (g.W.Write.contents l.fn.out) behind_begun l.fn.begun
    × Follows (a_keeper_gives g.K.Keeper.last g.K.Keeper.raise_gives) l.fn.ending l.fn.node l.node true (g.S.TurnSource.given l.fn.source) (g.S.TurnSource.given l.source)
    (g.N.Notes.noted l.fn.node.node.notes) (g.N.Notes.noted l.node.node.notes) behind_begun (g.W.Write.contents l.out)
    × (g.K.Keeper.last l.node.node.keeper ≡ l.node.node.state.core.incarnation) × (l.node.node.state.lines ≤ 3000 * l.counter)
    × (KeepsCore (g.K.Keeper.kept_gives l.fn.node.node.keeper) l.fn.node.node.state.core → KeepsCore (g.K.Keeper.kept_gives l.node.node.keeper) l.node.node.state.core)
    × (g.N.Notes.synced l.node.node.notes ≡ g.N.Notes.noted l.node.node.notes)
