use Rattle.std.proofs.Common.{◌≡◌, Some, length, slice_get, refl}
use Rattle.std.proofs.lemmas.Option.{slice_get_read}
use Rattle.network.proofs.Sought.FirstFound.{firsts_more, firsts_added}
use Rattle.network.proofs.seeking.found.push_firsts.Goals as goal

pub loop-element-preserved : goal.loop-element-preserved
loop-element-preserved c =
    let es = c.args.elements.now in
    let n = c.loop-element.element-index in
    let e = c.element-item.result in
    let at : slice_get es n ≡ Some e = slice_get_read es (length es) n e refl c.loop-element-test.true c.element-item.is in
    rw (c.in_ok-push.ensures.items, c.first_place.ensures) (firsts_more c.args.places.now.items c.loop-element.places.items es n e at c.loop-element.invariant)

pub returns-clause-added : goal.returns-clause-added
returns-clause-added c = firsts_added c.args.places.now.items c.loop-element.places.items c.args.elements.now c.loop-element.element-index c.loop-element-test.false c.loop-element.invariant
