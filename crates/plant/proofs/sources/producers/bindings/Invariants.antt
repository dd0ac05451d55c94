use Rattle.std.proofs.Common.{take}
use Rattle.std.specs.List.{AllZip}
use Rattle.plant.specs.Steps.Drafts.{IsPlacedBinding}
use Rattle.plant.proofs.sources.producers.bindings.Given as goal

abbrev pub invariant-loop-feed : goal.invariant-loop-feed
invariant-loop-feed l = AllZip (IsPlacedBinding l.producers) (take l.feed-index l.feeds) l.bindings.items
