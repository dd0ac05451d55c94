use Rattle.std.proofs.Common.{◌≡◌, ◌+◌, ◌*◌, ◌≤◌, true, Some}
use Rattle.std.specs.Prelude.{string_bytes}
use Rattle.live_node.specs.Keeping.{KeepsCore}
use Rattle.live_node.specs.NodeAnswers.{a_keeper_gives}
use Rattle.live_node.specs.Syncing.{Grows}
use Rattle.node_loop.specs.Steps.Following.{Follows}
use Rattle.node_loop.proofs.looping.make_together.Given as goal

abbrev pub invariant-loop : goal.invariant-loop
invariant-loop g l =
    Follows (a_keeper_gives g.K.Keeper.last g.K.Keeper.raise_gives) l.fn.ending l.fn.node l.node true (g.S.TurnSource.given l.fn.source) (g.S.TurnSource.given l.source)
    (g.N.Notes.noted l.fn.node.node.notes) (g.N.Notes.noted l.node.node.notes) (Some (string_bytes l.fn.room.waiting)) (Some (string_bytes l.room.waiting))
    × (g.K.Keeper.last l.node.node.keeper ≡ l.node.node.state.core.incarnation) × (l.node.node.state.lines ≤ l.fn.node.node.state.lines + 3 * l.counter)
    × (KeepsCore (g.K.Keeper.kept_gives l.fn.node.node.keeper) l.fn.node.node.state.core → KeepsCore (g.K.Keeper.kept_gives l.node.node.keeper) l.node.node.state.core)
    × Grows (g.N.Notes.synced l.fn.node.node.notes) (g.N.Notes.synced l.node.node.notes)
