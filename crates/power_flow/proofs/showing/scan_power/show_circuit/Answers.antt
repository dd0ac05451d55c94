use Rattle.power_flow.specs.Meaning.{moment}
use Rattle.power_flow.specs.Steps.Circuit.{circuit_diagram}
use Rattle.power_flow.proofs.Boxes.KeptSlots.{meaning_keeps}
use Rattle.power_flow.proofs.showing.scan_power.show_circuit.Goals as show_circuit_goals

pub scan_circuit-requires-clause-circuit : show_circuit_goals.scan_circuit-requires-clause-circuit
scan_circuit-requires-clause-circuit c = (c.args.declarations.now, circuit_diagram c.args.rails.now c.args.circuit.now, c.requires.circuit, c.requires.slots)

pub returns-clause-slots : show_circuit_goals.returns-clause-slots
returns-clause-slots c =
    let ds = c.args.declarations.now in
    let d = circuit_diagram c.args.rails.now c.args.circuit.now in
    let meaning = c.scan_circuit.ensures ds d c.requires.circuit c.requires.slots in
    meaning_keeps ds d c.args.dt (moment c.args.slots.now c.args.memories.now) (moment c.scan_circuit.new.slots c.scan_circuit.new.memories) c.requires.circuit.named meaning c.requires.slots

pub returns-clause-shown : show_circuit_goals.returns-clause-shown
returns-clause-shown c =
    let ds = c.args.declarations.now in
    let d = circuit_diagram c.args.rails.now c.args.circuit.now in
    let meaning = c.scan_circuit.ensures ds d c.requires.circuit c.requires.slots in
    (c.in_ok-power.power.items, rw c.as_slice.ensures.value at c.in_ok-extend_from_slice.ensures.items, record { meaning = meaning; power = c.in_ok-power.ensures meaning.between meaning.blocks })
