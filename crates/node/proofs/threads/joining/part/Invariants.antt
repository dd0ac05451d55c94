-- All journals are those so far, and then those still to be parted. If each keeper kept what was left, those that are still to be parted do, and those so far.
use Rattle.std.proofs.Common.{◌≡◌, ◌++◌, All, vec_items}
use Rattle.std.specs.Vec.Iter.{into_iter_items}
use Rattle.plant.specs.PlantValue.{PlantValue}
use Rattle.node.specs.Keeping.{KeepAllLeft}
use Rattle.node.specs.Steps.Keeping.{IsLeftKept}
use Rattle.node.specs.Steps.Working.{journals_of_ended}
use Rattle.node.proofs.threads.joining.part.Given as goal

abbrev pub invariant-loop-one : goal.invariant-loop-one
invariant-loop-one g l =
    (journals_of_ended l.fn.ended.items ≡ vec_items l.journals ++ journals_of_ended (into_iter_items l.one-iterator))
    × ((plant : PlantValue) → All (IsLeftKept g.K.Keeper.last g.K.Keeper.kept_gives plant) l.fn.ended.items
    → All (IsLeftKept g.K.Keeper.last g.K.Keeper.kept_gives plant) (into_iter_items l.one-iterator)
    × KeepAllLeft g.K.Keeper.last g.K.Keeper.kept_gives plant (vec_items l.faults) (vec_items l.keepers) (vec_items l.journals))
