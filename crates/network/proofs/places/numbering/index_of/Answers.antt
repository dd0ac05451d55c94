use Rattle.std.proofs.Common.{get_or, ◌<◌, length, ◌-◌, arith}
use Rattle.std.proofs.lemmas.Option.{slice_get-get_or}
use Rattle.drawings.specs.declared.place.Place.{Place}
use Rattle.network.proofs.Spots.{index_none, index_before, index_all}
use Rattle.network.proofs.places.numbering.index_of.Goals as goal

pub loop-k-init : goal.loop-k-init
loop-k-init c = (omega arith, index_none c.args.places.now c.in_ok-index.index c.in_ok-index.ensures)

pub loop-k-preserved : goal.loop-k-preserved
loop-k-preserved c =
    let places = c.args.places.now in
    let k = c.loop-k.k - 1 in
    let none : Place = record { row = 0; column = 0 } in
    let made = c.in_ok-number.ensures in
    let within : k < length places = omega arith in
    (omega arith, index_before places c.loop-k.index c.number.new.self c.loop-k.k c.in_ok-number.field-0 (get_or places k none) (omega arith) (slice_get-get_or places k none within) made.found made.kept made.each c.loop-k.invariant.1)

pub returns : goal.returns
returns c = index_all c.args.places.now c.loop-k.index c.loop-k.k (omega arith) c.loop-k.invariant.1
