use Rattle.std.proofs.Common.{take, map}
use Rattle.std.specs.List.{AllZip}
use Rattle.plant.specs.Steps.Drafts.{drafted}
use Rattle.plant.specs.Steps.FedUses.{AreUsesFed}
use Rattle.plant.proofs.sources.feeds.fed_resources.Given as goal

abbrev pub invariant-loop-resource : goal.invariant-loop-resource
invariant-loop-resource l = AllZip (AreUsesFed (drafted l.drafts) l.types) (take l.resource-index l.resources) (map (λ f. f.items) l.fed.items)
