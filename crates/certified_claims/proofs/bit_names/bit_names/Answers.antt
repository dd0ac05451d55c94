use Rattle.std.proofs.Common.{◌<◌, ◌≤◌, ◌++◌, length, sym, ap, ◌∙◌, arith}
use Rattle.std.specs.List.{flat_map}
use Rattle.std.proofs.lemmas.List.{take_all}
use Rattle.declared_names.specs.declared.declarations.Declaration.{Declaration}
use Rattle.network.specs.Links.{Diagram}
use Rattle.power_flow.specs.declared.steps.circuit.Circuit.{Circuit}
use Rattle.certified_claims.specs.BitNames.{declared_bits, memory_bits}
use Rattle.certified_claims.proofs.Naming.{declared_more, memories_of}
use Rattle.certified_claims.proofs.bit_names.bit_names.Goals as goal

pub loop-place-preserved : goal.loop-place-preserved
loop-place-preserved c =
    let ds = c.declarations-declarations.result.now in
    let also = c.loop-place-test.true in
    let long = c.len-place-end.ensures in
    let inside : c.loop-place.place < length ds = omega (arith, also, long) in
    declared_more ds _ _ c.loop-place.place inside c.loop-place.invariant c.in_ok-push_at.ensures

pub returns : goal.returns
returns c =
    let ds = c.declarations-declarations.result.now in
    let circuits = c.circuits.result.now in
    let also = c.loop-place-test.false in
    let long = c.len-place-end.ensures in
    let all : length ds ≤ c.loop-place.place = omega (arith, also, long) in
    let names = flat_map (λ (d : Declaration). declared_bits d.name d.declared) in
    let memories = flat_map (λ (n : Diagram). flat_map memory_bits n.elements) in
    let of_circuits = flat_map (λ (d : Circuit). flat_map memory_bits d.elements.items) circuits in
    c.in_ok-push_circuits.ensures
    ∙ ap (λ l. l ++ of_circuits) (c.loop-place.invariant ∙ ap names (take_all c.loop-place.place ds all ∙ c.declarations-declarations.ensures.list))
    ∙ ap (λ l. names c.args.ladder.now.declarations ++ l) (sym (memories_of c.circuits.ensures.rails circuits) ∙ ap memories (sym c.circuits.ensures.networks))
