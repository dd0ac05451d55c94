use Rattle.std.proofs.Common.{◌≡◌, ℕ, ◌+◌, ◌≤◌, List, [], Option, Some}
use Rattle.std.specs.Prelude.{string_bytes}
use Rattle.text_lines.specs.Lines.{TakesSome}
use Rattle.live_node.specs.Keeping.{KeepsCore}
use Rattle.live_node.specs.NodeAnswers.{a_keeper_gives}
use Rattle.live_node.specs.Syncing.{Grows}
use Rattle.live_node.specs.Steps.Together.{Stands}
use Rattle.live_node.proofs.answering.do_those_at_hand.Given as goal

abbrev pub invariant-loop : goal.invariant-loop
invariant-loop g l =
    (lines : List (List ℕ))
    × Stands (a_keeper_gives g.K.Keeper.last g.K.Keeper.raise_gives) l.fn.node.state l.node.state [] lines (g.L.LineSource.left l.fn.source) (g.L.LineSource.left l.source)
    (g.N.Notes.noted l.fn.node.notes) (g.N.Notes.noted l.node.notes) (Some []) (Some (string_bytes l.room.waiting))
    × (g.K.Keeper.last l.node.keeper ≡ l.node.state.core.incarnation) × (l.node.state.lines ≤ l.fn.node.state.lines + l.counter)
    × (KeepsCore (g.K.Keeper.kept_gives l.fn.node.keeper) l.fn.node.state.core → KeepsCore (g.K.Keeper.kept_gives l.node.keeper) l.node.state.core)
    × Grows (g.N.Notes.synced l.fn.node.notes) (g.N.Notes.synced l.node.notes)
    × ((left : Option (List ℕ)) → TakesSome (g.L.LineSource.left l.source) left → g.L.LineSource.is_ready left (g.W.Write.contents l.fn.out))
