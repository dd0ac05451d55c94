use Rattle.std.proofs.Common.{◌≡◌, take, map}
use Rattle.std.specs.Borrow.{Bor}
use Rattle.plant.specs.StandsFor.{firsts}
use Rattle.plant.specs.Steps.Drafts.{all_taken}
use Rattle.plant.specs.Steps.FedUses.{FedUseValue, feeds_in}
use Rattle.plant.proofs.sources.producers.producers_of.Given as goal

abbrev pub invariant-loop-run : goal.invariant-loop-run
invariant-loop-run l = l.producers.items ≡ firsts (all_taken (feeds_in (map (λ (u : Bor FedUseValue). u.now) (take l.run-index l.fed))))
