use Rattle.std.proofs.Common.{take, map}
use Rattle.std.specs.List.{AllZip}
use Rattle.plant.specs.Steps.Drafts.{drafted, AreKindsOf}
use Rattle.plant.proofs.sources.producers.expected_of.Given as goal

abbrev pub invariant-loop-producer : goal.invariant-loop-producer
invariant-loop-producer l = AllZip (AreKindsOf (drafted l.drafts)) (take l.producer-index l.producers) (map (λ ks. ks.items) l.expected.items)
