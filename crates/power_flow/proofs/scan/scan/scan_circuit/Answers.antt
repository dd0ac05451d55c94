use Rattle.power_flow.proofs.Boxes.CircuitScans.{rung_is, rung_scanned, contacts_within, bool_there}
use Rattle.power_flow.proofs.scan.scan.scan_circuit.Goals as goal

pub scan-requires-clause-contacts : goal.scan-requires-clause-contacts
scan-requires-clause-contacts c =
    let has = c.requires.circuit in
    let rung = rung_is has.0 has.1 c.args.circuit.now c.in-Some.rung has.2 c.in-Some.is in
    contacts_within has.0 c.args.slots.now c.in-Some.rung.contacts.items has.3 rung.within

pub scan-requires-clause-coil : goal.scan-requires-clause-coil
scan-requires-clause-coil c = λ on.
    let has = c.requires.circuit in
    let rung = rung_is has.0 has.1 c.args.circuit.now c.in-Some.rung has.2 c.in-Some.is in
    bool_there has.0 c.args.slots.now c.in-Some.rung.coil on rung.bool has.3

pub returns-in-Some : goal.returns-in-Some
returns-in-Some c = λ ds d is fits.
    let rung = rung_is ds d c.args.circuit.now c.in-Some.rung is c.in-Some.is in
    rung_scanned ds d c.args.circuit.now c.args.dt c.args.slots.now c.scan.new.slots c.args.memories.now c.args.rows.now c.args.links.now c.args.results.now
    c.in-Some.rung.contacts.items c.in-Some.rung.coil rung c.requires.shape c.requires.memories c.requires.rows c.requires.links c.requires.results c.scan.ensures is fits
