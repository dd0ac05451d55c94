-- Each resource still to be started is of this plant and limit, and each thread so far has promised to leave what is lawful for them,
-- and begins where its resource does, with what it opens.
use Rattle.std.proofs.Common.{◌≡◌, ◌++◌, All, map, vec_items}
use Rattle.std.specs.Vec.Iter.{into_iter_items}
use Rattle.node.specs.Steps.Working.{IsWorkerFor, IsPromisedFor, firsts_of_workers, first_promised, openings_of_workers, opening_promised}
use Rattle.node.proofs.threads.starting.start_all.Given as goal

abbrev pub invariant-loop-worker : goal.invariant-loop-worker
invariant-loop-worker g l =
    All (IsWorkerFor l.desk.plant.now l.desk.firsts.now l.max_number) (into_iter_items l.worker-iterator)
    × All (λ h. IsPromisedFor l.desk.plant.now l.desk.firsts.now l.max_number h.promise) (vec_items l.handles)
    × (firsts_of_workers l.fn.workers.items ≡ map first_promised (vec_items l.handles) ++ firsts_of_workers (into_iter_items l.worker-iterator))
    × (openings_of_workers l.fn.workers.items ≡ map opening_promised (vec_items l.handles) ++ openings_of_workers (into_iter_items l.worker-iterator))
