use Rattle.std.proofs.Common.{refl}
use Rattle.power_flow.specs.Steps.Comings.ComesBelow.{here}
use Rattle.power_flow.proofs.ShownPower.Stacked.{below_next}
use Rattle.power_flow.proofs.showing.uprights.+comes_below.Goals as goal

pub returns-then-comings-k : goal.returns-then-comings-k
returns-then-comings-k t c = (λ yes. here c.if-comings-k.true, λ below. refl)

pub returns : goal.returns
returns t c = below_next c.args.elements.now c.args.comings.now c.args.k c.comes_below.result c.if-comings-k.false (c.are_stacked.ensures.stacked.0 c.if-not-are_stacked.false) c.comes_below.ensures
