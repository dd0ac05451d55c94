use Rattle.std.proofs.Common.{ℕ, ◌<◌}
use Rattle.plant.specs.Steps.Drafts.{IsInstanceAt}
use Rattle.plant.proofs.sources.lookup.find_instance.Given as goal

abbrev pub invariant-loop-k : goal.invariant-loop-k
invariant-loop-k l = (k j : ℕ) → k < l.k → IsInstanceAt l.tasks l.name k j → ⊥
