use Rattle.name_faults.proofs.GuessedNames.{AreOrdered, ordered_none, ordered_more}
use Rattle.std.proofs.Common.{◌≡◌, take}
use Rattle.std.proofs.lemmas.List.{take_all}
use Rattle.std.specs.List.{flat_map}
use Rattle.name_faults.specs.Guess.{element_uses}
use Rattle.name_faults.proofs.guess.all_uses.Goals as goal

pub loop-network-init : goal.loop-network-init
loop-network-init c = rw c.new-uses.ensures.items ordered_none

pub loop-network-preserved : goal.loop-network-preserved
loop-network-preserved c =
    let of : AreOrdered (flat_map element_uses c.network-item.result) c.in_ok-more.more.items
    = record { permutation = rw c.elements.ensures at c.in_ok-more.ensures.permutation; stable = rw c.elements.ensures at c.in_ok-more.ensures.stable } in
    let done = c.in_ok-append.ensures in
    rw done.items (ordered_more c.args.networks.now c.loop-network.network-index c.network-item.result c.loop-network.uses.items c.in_ok-more.more.items c.loop-network-test.true c.network-item.is c.loop-network.invariant of)

pub returns : goal.returns
returns c =
    let all : take c.loop-network.network-index c.args.networks.now ≡ c.args.networks.now = take_all c.loop-network.network-index c.args.networks.now c.loop-network-test.false in
    let done = rw all at c.loop-network.invariant in
    record { permutation = done.permutation; stable = done.stable }
