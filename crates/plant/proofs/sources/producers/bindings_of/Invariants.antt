use Rattle.std.proofs.Common.{take, map}
use Rattle.std.specs.Borrow.{Bor}
use Rattle.std.specs.List.{AllZip}
use Rattle.plant.specs.Steps.Drafts.{IsPlacedBinding}
use Rattle.plant.specs.Steps.FedUses.{FedUseValue, feeds_in}
use Rattle.plant.proofs.sources.producers.bindings_of.Given as goal

abbrev pub invariant-loop-run : goal.invariant-loop-run
invariant-loop-run l = AllZip (AllZip (IsPlacedBinding l.producers)) (feeds_in (map (λ (u : Bor FedUseValue). u.now) (take l.run-index l.fed))) (map (λ b. b.items) l.all.items)
