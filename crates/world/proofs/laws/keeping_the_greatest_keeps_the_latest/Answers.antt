use Rattle.std.specs.Prelude.{reverse}
use Rattle.std.proofs.lemmas.Bool.{ne_eqb}
use Rattle.world.specs.History.{history_of}
use Rattle.world.specs.Steps.Histories.Names.{log-rises}
use Rattle.world.specs.Steps.Histories.Steps.{latest-deliver}
use Rattle.world.proofs.laws.keeping_the_greatest_keeps_the_latest.Goals as goal

pub returns : goal.returns
returns c = λ s events log n k p is away. latest-deliver s n k (history_of s events) p (reverse log) (ne_eqb p.resource n away) (log-rises s p (history_of s events) (reverse log) is)
