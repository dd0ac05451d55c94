-- Each resource so far is of this plant, these first incarnations and this limit, and begins in the first incarnation at its place,
-- with what was kept of it. What was kept of the others suits them.
use Rattle.std.proofs.Common.{◌≡◌, ◌++◌, All, length, vec_items}
use Rattle.std.specs.Vec.Iter.{into_iter_items}
use Rattle.node.specs.Steps.Working.{IsWorkerFor, AreOpened, firsts_of_workers, openings_of_raised, openings_of_workers, lasts_of}
use Rattle.node.proofs.threads.preparing.make_workers.Given as goal

abbrev pub invariant-loop-one : goal.invariant-loop-one
invariant-loop-one g l =
    All (IsWorkerFor l.plant.value l.firsts l.max_number) (vec_items l.workers)
    × (l.firsts ≡ firsts_of_workers (vec_items l.workers) ++ lasts_of g.K.Keeper.last (into_iter_items l.one-iterator))
    × AreOpened g.K.Keeper.kept_gives l.plant.value (length (vec_items l.workers)) (into_iter_items l.one-iterator)
    × (openings_of_raised l.fn.raised.items ≡ openings_of_workers (vec_items l.workers) ++ openings_of_raised (into_iter_items l.one-iterator))
