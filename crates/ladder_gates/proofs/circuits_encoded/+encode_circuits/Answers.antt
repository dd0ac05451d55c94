use Rattle.std.proofs.Common.{rules, ◌≡◌, ℕ, ◌+◌, ◌∷◌, length, sum_by, arith}
use Rattle.std.specs.List.{AllByRecursion}
use Rattle.std.proofs.lemmas.List.Sums.{sum_by-cons}
use Rattle.power_flow.specs.declared.steps.circuit.Circuit.{Circuit}
use Rattle.power_flow.specs.Steps.Circuit.{HasShape, circuit_diagram}
use Rattle.gate_words.specs.Values.{time_at}
use Rattle.scan_gates.specs.Encoded.{slots_at}
use Rattle.ladder_gates.proofs.Networks.{scan_encoded}
use Rattle.ladder_gates.proofs.Results.{on_ok}
use Rattle.ladder_gates.proofs.circuits_encoded.+encode_circuits.Goals as goal

pub encode_circuit-requires-clause-shape : goal.encode_circuit-requires-clause-shape
encode_circuit-requires-clause-shape t c =
    let all : AllByRecursion HasShape (c.in-Some.first.now ∷ c.in-Some.rest.now) = rw c.in-Some.ensures.cases.0 at c.requires.shapes in
    all.0

pub encode_circuits-requires : goal.encode_circuits-requires
encode_circuits-requires t c =
    let first = c.in-Some.first.now in
    let rest = c.in-Some.rest.now in
    let all : AllByRecursion HasShape (first ∷ rest) = rw c.in-Some.ensures.cases.0 at c.requires.shapes in
    let Count : Circuit → ℕ = λ x. length x.elements.items in
    let many : length c.args.memories.now ≡ sum_by Count (first ∷ rest) = rw c.in-Some.ensures.cases.0 at c.requires.memories in
    let sum : sum_by Count (first ∷ rest) ≡ Count first + sum_by Count rest = sum_by-cons Count first rest in
    let left : length c.split_at_mut-here.result.1.now ≡ sum_by Count rest =
    omega (arith, many, sum, c.split_at_mut-here.ensures.back_len, c.len-elements.ensures, first.elements.ok.0) in
    (search rules, (all.1, left))

pub returns-in_ok-encode_circuit-in-Some : goal.returns-in_ok-encode_circuit-in-Some
returns-in_ok-encode_circuit-in-Some t c = on_ok _ _ c.encode_circuits.result c.encode_circuits.ensures (λ built v agrees.
    let later = built v agrees in
    let here = c.in_ok-encode_circuit-in-Some.ensures v later.0 in
    let first = c.in-Some.first.now in (
      here.0,
      λ ds rails are fits.
          scan_encoded c.kinds_are_kept.ensures v ds rails (time_at v c.args.dt.now) first c.in-Some.rest.now c.args.circuits.now (slots_at v c.args.slots.now) (slots_at v c.encode_circuit.new.slots)
          (slots_at v c.encode_circuits.new.slots) c.args.memories.now c.encode_circuit.new.memories c.encode_circuits.new.memories c.split_at_mut-here.result.0.now c.split_at_mut-here.result.1.now
          c.len-elements.result c.in-Some.ensures.cases.0 (omega (arith, c.len-elements.ensures, first.elements.ok.0)) (omega arith)
          c.split_at_mut-here.ensures.front c.split_at_mut-here.ensures.back (here.1 ds (circuit_diagram rails first)) (later.1 ds rails) are fits,
    ))
