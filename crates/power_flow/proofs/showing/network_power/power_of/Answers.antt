use Rattle.std.proofs.Common.{◌≡◌, None, length, refl, ap, ◌∙◌, arith}
use Rattle.network.specs.GraphValue.{diagram, IsSoundNetwork}
use Rattle.scan_steps.specs.Steps.Passing.{Pass, pass_of}
use Rattle.name_faults.specs.Steps.Named.{IsNamedBox}
use Rattle.power_flow.specs.declared.steps.circuit.Circuit.{Circuit}
use Rattle.power_flow.specs.Steps.BoxStores.{with_blocks}
use Rattle.power_flow.specs.Steps.Circuit.{IsCircuit}
use Rattle.power_flow.specs.Steps.RowEnds.{AreRows}
use Rattle.power_flow.proofs.Boxes.BlocksStored.{blocks_length, blocks_others, blocks_placed}
use Rattle.power_flow.proofs.Boxes.BoxesSources.{room}
use Rattle.power_flow.proofs.Boxes.BoxesTable.{all_boxes, bound_boxes_are}
use Rattle.power_flow.proofs.Networks.CircuitOf.{bound_coils_counted, boxes_in_rows}
use Rattle.power_flow.proofs.Networks.FewElements.{few_elements}
use Rattle.power_flow.proofs.ShownPower.NetworkPower.{shown_power}
use Rattle.power_flow.proofs.ShownPower.Reading.{reading_long}
use Rattle.power_flow.proofs.showing.network_power.power_of.Goals as goal

pub of-rows-requires : goal.of-rows-requires
of-rows-requires c = rw c.as_slice-elements.ensures.value c.requires.circuit.sound.on_page

pub read_elements-requires-clause-few : goal.read_elements-requires-clause-few
read_elements-requires-clause-few c = rw c.as_slice-elements.ensures.value (few_elements (diagram c.args.rails.now c.args.circuit.now.elements.items) c.requires.circuit.sound)

pub read_elements-requires-clause-rows : goal.read_elements-requires-clause-rows
read_elements-requires-clause-rows c =
    let long : length c.as_mut_slice-5.result.now ≡ c.of-rows.result.count = c.as_mut_slice-5.ensures.len ∙ c.in_ok-ends.ensures.len in
    let sound : IsSoundNetwork (diagram c.args.rails.now c.as_slice-elements.result.now) = rw c.as_slice-elements.ensures.value c.requires.circuit.sound in
    rw long (c.of-rows.ensures.rows c.args.rails.now sound)

pub read_elements-requires-clause-links : goal.read_elements-requires-clause-links
read_elements-requires-clause-links c =
    let circuit = c.args.circuit.now in
    let count : c.len.result ≡ length circuit.coils.items = omega (arith, c.len.ensures, circuit.coils.ok.0) in
    rw c.as_slice-elements.ensures.value
    (c.as_mut_slice-3.ensures.len ∙ c.in_ok-links.ensures.len ∙ count ∙ ap length c.requires.circuit.coils ∙ bound_coils_counted c.args.declarations.now circuit.elements.items)

pub read_elements-requires-clause-outputs : goal.read_elements-requires-clause-outputs
read_elements-requires-clause-outputs c =
    let es = c.as_slice-elements.result.now in
    let long : length c.as_mut_slice.result.now ≡ c.of-rows.result.count = c.as_mut_slice.ensures.len ∙ c.in_ok-states.ensures.len in
    let sound : IsSoundNetwork (diagram c.args.rails.now es) = rw c.as_slice-elements.ensures.value c.requires.circuit.sound in
    let rows : AreRows es c.of-rows.result.top c.of-rows.result.count = c.of-rows.ensures.rows c.args.rails.now sound in
    rw (long, c.as_slice.ensures.value) (c.in_ok-boxes.ensures.within c.of-rows.result.count (boxes_in_rows es c.of-rows.result.top c.of-rows.result.count rows))

pub join_uprights-requires-clause-page : goal.join_uprights-requires-clause-page
join_uprights-requires-clause-page c = rw c.as_slice-elements.ensures.value c.requires.circuit.sound.on_page

pub join_uprights-requires-clause-long : goal.join_uprights-requires-clause-long
join_uprights-requires-clause-long c =
    rw c.as_slice-2.ensures.value (reading_long c.args.declarations.now _ _ _ _ _ _ _ _ _ _ c.in_ok-read_elements.ensures)

pub returns : goal.returns
returns c = λ between step.
    let ds = c.args.declarations.now in
    let rails = c.args.rails.now in
    let old = c.args.circuit.now in
    let is = c.requires.circuit in
    let es = old.elements.items in
    let d = diagram rails es in
    let slots = c.args.slots.now in
    let top = c.of-rows.result.top in
    let count = c.of-rows.result.count in
    let boxes = c.in_ok-boxes.boxes.items in
    let circuit : Circuit = record old { rows = count; steps = c.read_elements.new.steps; boxes = c.in_ok-boxes.boxes; rung = None } in
    let a : Pass = pass_of c.as_mut_slice.result.now c.as_mut_slice-2.result.now c.as_mut_slice-3.result.now c.as_mut_slice-4.result.now in
    let m : Pass = pass_of c.read_elements.new.rows c.read_elements.new.memories c.read_elements.new.links c.read_elements.new.results in
    let results = c.read_elements.new.results in
    let rows = (rw c.as_slice-elements.ensures.value at c.of-rows.ensures.rows) rails is.sound in
    let bound = rw c.as_slice-elements.ensures.value at c.in_ok-boxes.ensures.bound in
    let reading = rw (c.as_slice-elements.ensures.value, c.as_slice.ensures.value) at c.in_ok-read_elements.ensures in
    let uprights = rw (c.as_slice-elements.ensures.value, c.as_slice-2.ensures.value) at c.in_ok-power.ensures in
    let are : IsCircuit ds d circuit = record {
      elements = refl;
      sound = is.sound;
      top = top;
      rows = rows;
      plain = c.read_elements.new.steps.items;
      steps = record { parts = reading.parts; long = reading.long; each = reading.each; whole = reading.whole };
      fused = refl;
      coils = is.coils;
      boxes = bound_boxes_are rails es is.sound ds top boxes (c.names_of_one_place_are_one.ensures ds) (bound (all_boxes (IsNamedBox ds) es is.named.boxes));
      named = is.named;
      rung = tt;
    } in
    let count_coils : c.len.result ≡ length old.coils.items = omega (arith, c.len.ensures, old.coils.ok.0) in
    let count_boxes : c.len-2.result ≡ length boxes = omega (arith, c.len-2.ensures, c.in_ok-boxes.boxes.ok.0) in
    shown_power ds d circuit c.args.dt slots (with_blocks boxes results slots) c.args.memories.now a m are c.requires.slots c.read_elements.new.comings.items c.in_ok-power.power.items reading uprights
    (c.as_mut_slice-2.ensures.value ∙ c.in_ok-read.ensures.items) c.requires.memories (c.as_mut_slice.ensures.len ∙ c.in_ok-states.ensures.len)
    (c.as_mut_slice-3.ensures.len ∙ c.in_ok-links.ensures.len ∙ count_coils) (c.as_mut_slice-4.ensures.len ∙ c.in_ok-results.ensures.len ∙ count_boxes)
    (blocks_length boxes results slots)
    (λ j e i at has. blocks_placed boxes results slots are.boxes.apart j e i at has (room ds d top boxes are.boxes.bound slots c.requires.slots.long j e at)) (blocks_others boxes results slots)
    between step
