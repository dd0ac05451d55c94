-- Each keeper so far is raised above what it held, to the first incarnation at its place, as it answered, and what it has kept suits its resource and is what it told.
use Rattle.std.proofs.Common.{◌≡◌, ℕ, ◌<◌, ◌++◌, List, map, vec_items}
use Rattle.std.specs.List.{AllZip}
use Rattle.std.specs.Vec.Iter.{into_iter_items}
use Rattle.node.specs.Steps.Working.{AreOpened, AreRaised, AreTold, openings_of_raised, lasts_of}
use Rattle.node.specs.Raises.{FirstMayRaise}
use Rattle.node.proofs.threads.preparing.raise_all.Given as goal

abbrev pub invariant-loop-keeper : goal.invariant-loop-keeper
invariant-loop-keeper g l =
    ((held : List ℕ) × (map g.K.Keeper.last l.fn.keepers.items ≡ held ++ map g.K.Keeper.last (into_iter_items l.keeper-iterator))
    × AllZip (λ (was first : ℕ). was < first) held (vec_items l.firsts))
    × (lasts_of g.K.Keeper.last (vec_items l.raised) ≡ vec_items l.firsts)
    × AreOpened g.K.Keeper.kept_gives l.plant 0 (vec_items l.raised)
    × ((asked : List _) × (l.fn.keepers.items ≡ asked ++ into_iter_items l.keeper-iterator) × AreRaised g.K.Keeper.raise_gives asked (vec_items l.firsts)
    × AreTold g.K.Keeper.kept_gives l.plant asked (openings_of_raised (vec_items l.raised))
    × FirstMayRaise g.K.Keeper.raise_gives asked)
