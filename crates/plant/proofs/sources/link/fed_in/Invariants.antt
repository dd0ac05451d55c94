use Rattle.std.proofs.Common.{◌≡◌, take, map}
use Rattle.std.specs.Borrow.{Bor}
use Rattle.plant.specs.Steps.FedUses.{FedUseValue, fed_in}
use Rattle.plant.proofs.sources.link.fed_in.Given as goal

abbrev pub invariant-loop-run : goal.invariant-loop-run
invariant-loop-run l = map (λ (u : Bor FedUseValue). u.now) l.runs.items ≡ fed_in l.task (take l.run-index l.fed)
