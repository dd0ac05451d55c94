use Rattle.std.proofs.Common.{◌≡◌, ◌+◌, ◌-◌, refl, arith}
use Rattle.power_flow.specs.Steps.Comings.ComesAbove.{here}
use Rattle.power_flow.proofs.ShownPower.Stacked.{above_next}
use Rattle.power_flow.proofs.showing.uprights.+comes_above.Goals as goal

pub returns-then-comings-k : goal.returns-then-comings-k
returns-then-comings-k t c = (λ yes. here c.if-comings-k.true, λ above. refl)

pub returns : goal.returns
returns t c =
    let first = c.if-k-eq0.false in
    let next : c.args.k ≡ c.args.k - 1 + 1 = omega arith in
    above_next c.args.elements.now c.args.comings.now c.args.k (c.args.k - 1) c.comes_above.result c.if-comings-k.false next (c.are_stacked.ensures.stacked.0 c.if-not-are_stacked.false) c.comes_above.ensures
