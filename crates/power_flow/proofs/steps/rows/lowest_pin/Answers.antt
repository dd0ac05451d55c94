use Rattle.std.proofs.Common.{arith}
use Rattle.std.proofs.lemmas.Option.{slice_get_within}
use Rattle.power_flow.proofs.Walks.Leading.{pin_at}
use Rattle.power_flow.proofs.Walks.NetworkRows.{pins_below, pins_reached, box_below, box_reached}
use Rattle.power_flow.proofs.steps.rows.lowest_pin.Goals as goal

pub loop-pin-preserved : goal.loop-pin-preserved
loop-pin-preserved c =
    let lt = rw c.as_slice-pin-items.ensures at c.loop-pin-test.true in
    let is = rw c.as_slice-pin-items.ensures at c.pin-item.is in
    let b = c.args.drawn.now in
    let pin = c.pin-item.result in
    let n = c.loop-pin.pin-index in
    let there = pin_at b.pins n pin lt is in
    let old = c.loop-pin.lowest in
    let new = c.max-lowest.result in
    let top = c.loop-pin.invariant.top in
    let more = c.max-lowest.ensures in
    record {
      top = omega arith;
      below = pins_below b.pins n pin old new there more c.loop-pin.invariant.below;
      reached = pins_reached b n pin old new there more c.loop-pin.invariant.reached;
    }

pub returns-clause-below : goal.returns-clause-below
returns-clause-below c =
    let all = rw c.as_slice-pin-items.ensures at c.loop-pin-test.false in
    let b = c.args.drawn.now in
    box_below b c.loop-pin.lowest c.loop-pin.invariant.top (λ j q at. (let lt = slice_get_within b.pins j q at in c.loop-pin.invariant.below j q (omega arith) at))

pub returns-clause-reached : goal.returns-clause-reached
returns-clause-reached c = box_reached c.args.drawn.now c.loop-pin.lowest c.loop-pin.invariant.reached
