use Rattle.std.proofs.Common.{take}
use Rattle.std.specs.List.{AllZip}
use Rattle.plant.specs.Steps.Drafts.{drafted, IsFeedOf}
use Rattle.plant.proofs.sources.feeds.feeds.Given as goal

abbrev pub invariant-loop-i : goal.invariant-loop-i
invariant-loop-i l = AllZip (IsFeedOf (drafted l.drafts) l.declarations) (take l.i l.binds) l.feeds.items
