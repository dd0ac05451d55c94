-- What was kept of the tasks so far suits them and is what the keeper told, which is in the same incarnation, and tells the same as at first. There is room for the others.
use Rattle.std.proofs.Common.{◌≡◌, ◌≤◌}
use Rattle.std.specs.Prelude.{vec_capacity}
use Rattle.exchange_core.specs.Steps.Opened.{IsKeptOf}
use Rattle.keepers.specs.Keepers.{TellsNoMore}
use Rattle.keepers.specs.Openings.{TellsOpening}
use Rattle.node.proofs.threads.preparing.kept_opening.Given as goal

abbrev pub invariant-loop-task : goal.invariant-loop-task
invariant-loop-task g l =
    IsKeptOf l.plant l.resource l.task l.listed.items
    × (g.K.Keeper.last l.keeper ≡ g.K.Keeper.last l.fn.keeper)
    × TellsOpening (g.K.Keeper.kept_gives l.fn.keeper) l.plant l.resource l.listed.items
    × TellsNoMore (g.K.Keeper.kept_gives l.fn.keeper) (g.K.Keeper.kept_gives l.keeper)
    × TellsNoMore (g.K.Keeper.kept_gives l.keeper) (g.K.Keeper.kept_gives l.fn.keeper)
    × (l.tasks ≤ vec_capacity l.listed)
