use Rattle.std.proofs.Common.{rules, ◌≡◌, ℕ, ◌+◌, ◌∷◌, length, map, sum_by, arith}
use Rattle.std.proofs.lemmas.List.Sums.{sum_by-cons}
use Rattle.power_flow.specs.declared.steps.circuit.Circuit.{Circuit}
use Rattle.scan_steps.specs.Slots.{AreSlotsOf}
use Rattle.power_flow.specs.Meaning.{moment}
use Rattle.power_flow.specs.Scan.{AllAreWide}
use Rattle.power_flow.specs.Steps.Circuit.{AreCircuits, circuit_diagram}
use Rattle.power_flow.proofs.Boxes.KeptSlots.{meaning_keeps}
use Rattle.power_flow.proofs.Ladders.Scanning.{scan_more}
use Rattle.power_flow.proofs.scan.scan.+scan_circuits.Goals as goal

pub scan_circuit-requires-clause-circuit : goal.scan_circuit-requires-clause-circuit
scan_circuit-requires-clause-circuit t c =
    let has = c.requires.networks in
    let first = c.in-Some.first.now in
    let all : AreCircuits has.0 has.1 (first ∷ c.in-Some.rest.now) = rw c.in-Some.ensures.cases.0 at has.2 in
    (has.0, circuit_diagram has.1 first, all.0, has.4)

pub scan_circuits-requires : goal.scan_circuits-requires
scan_circuits-requires t c =
    let has = c.requires.networks in
    let first = c.in-Some.first.now in
    let rest = c.in-Some.rest.now in
    let d = circuit_diagram has.1 first in
    let all : AreCircuits has.0 has.1 (first ∷ rest) = rw c.in-Some.ensures.cases.0 at has.2 in
    let widths : AllAreWide (map (circuit_diagram has.1) (first ∷ rest)) = rw c.in-Some.ensures.cases.0 at has.3 in
    let meaning = c.scan_circuit.ensures has.0 d all.0 has.4 in
    let fits : AreSlotsOf has.0 c.scan_circuit.new.slots =
    meaning_keeps has.0 d c.args.dt (moment c.args.slots.now c.split_at_mut-here.result.0.now) (moment c.scan_circuit.new.slots c.scan_circuit.new.memories) all.0.named meaning has.4 in
    let Count : Circuit → ℕ = λ x. length x.elements.items in
    let many : length c.args.memories.now ≡ sum_by Count (first ∷ rest) = rw c.in-Some.ensures.cases.0 at c.requires.memories in
    let sum : sum_by Count (first ∷ rest) ≡ Count first + sum_by Count rest = sum_by-cons Count first rest in
    let left : length c.split_at_mut-here.result.1.now ≡ sum_by Count rest =
    omega (arith, many, sum, c.split_at_mut-here.ensures.back_len, c.len-elements.ensures, first.elements.ok.0) in
    (search rules, ((has.0, has.1, all.1, widths.1, fits), (search rules, left)))

pub returns-in-Some : goal.returns-in-Some
returns-in-Some t c = λ ds rails are wide fits.
    let here = rw c.split_at_mut-here.ensures.front at c.scan_circuit.ensures in
    let later = rw c.split_at_mut-here.ensures.back at c.scan_circuits.ensures in
    scan_more ds rails c.args.dt c.in-Some.first.now c.in-Some.rest.now c.args.circuits.now c.args.slots.now c.scan_circuit.new.slots c.scan_circuits.new.slots c.args.memories.now
    c.scan_circuit.new.memories c.scan_circuits.new.memories c.len-elements.result
    c.in-Some.ensures.cases.0 (omega (arith, c.len-elements.ensures, c.in-Some.first.now.elements.ok.0)) (omega arith) (λ is narrow. here ds (circuit_diagram rails c.in-Some.first.now) is) (later ds rails) are wide fits
