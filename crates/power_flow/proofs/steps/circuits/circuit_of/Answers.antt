use Rattle.std.proofs.Common.{◌≡◌, ◌<◌, ℕ, All, length, sym, ap, ◌∙◌}
use Rattle.network.specs.GraphValue.{diagram}
use Rattle.scan_steps.specs.declared.step.BoundCoil.{BoundCoil}
use Rattle.name_faults.specs.Steps.Named.{IsNamedBox}
use Rattle.power_flow.specs.Waiting.{coils_of, boxes_of}
use Rattle.power_flow.proofs.Networks.Fusing.{fewer_in}
use Rattle.power_flow.proofs.Boxes.BoxesTable.{all_boxes, bound_boxes_are}
use Rattle.power_flow.proofs.Networks.CircuitOf.{steps_within, coils_within, bound_coils_counted, boxes_in_rows}
use Rattle.power_flow.proofs.steps.circuits.circuit_of.Goals as goal

pub of-rows-requires : goal.of-rows-requires
of-rows-requires c = rw (c.deref.ensures.value, c.into_elements-elements.ensures) c.requires.on_page

pub steps_of-requires-clause-rows : goal.steps_of-requires-clause-rows
steps_of-requires-clause-rows c =
    let rows = rw (c.deref.ensures.value, c.into_elements-elements.ensures) at c.of-rows.ensures.rows in
    rw (c.deref-2.ensures.value, c.into_elements-elements.ensures) (rows c.args.rails.now c.requires)

pub steps_of-requires-clause-low : goal.steps_of-requires-clause-low
steps_of-requires-clause-low c =
    let low = rw (c.deref.ensures.value, c.into_elements-elements.ensures) at c.of-rows.ensures.low in
    low c.args.rails.now c.requires

pub returns-clause-circuit : goal.returns-clause-circuit
returns-clause-circuit c = λ named.
    let ds = c.args.declarations.now in
    let es = c.args.network in
    let rows = (rw (c.deref.ensures.value, c.into_elements-elements.ensures) at c.of-rows.ensures.rows) c.args.rails.now c.requires in
    let boxes = rw (c.deref-4.ensures.value, c.into_elements-elements.ensures) at c.in_ok-boxes.ensures.bound in
    record {
      elements = sym c.into_elements-elements.ensures;
      sound = c.requires;
      top = c.of-rows.result.top;
      rows = rows;
      plain = c.in_ok-plain.plain.items;
      steps = rw (c.deref-2.ensures.value, c.into_elements-elements.ensures) at c.in_ok-plain.ensures;
      fused = c.in_ok-steps.ensures;
      coils = rw (c.deref-3.ensures.value, c.into_elements-elements.ensures) at c.in_ok-coils.ensures;
      boxes = bound_boxes_are c.args.rails.now es c.requires ds c.of-rows.result.top c.in_ok-boxes.boxes.items (c.names_of_one_place_are_one.ensures ds) (boxes (all_boxes (IsNamedBox ds) es named.boxes));
      named = named;
      rung = rw (c.deref-5.ensures.value, c.deref-6.ensures.value, c.deref-7.ensures.value) at c.in_ok-rung.ensures;
    }

pub returns-clause-shape : goal.returns-clause-shape
returns-clause-shape c =
    let ds = c.args.declarations.now in
    let es = c.args.network in
    let d = diagram c.args.rails.now es in
    let top = c.of-rows.result.top in
    let count = c.of-rows.result.count in
    let rows = (rw (c.deref.ensures.value, c.into_elements-elements.ensures) at c.of-rows.ensures.rows) c.args.rails.now c.requires in
    let low = (rw (c.deref.ensures.value, c.into_elements-elements.ensures) at c.of-rows.ensures.low) c.args.rails.now c.requires in
    let steps = rw (c.deref-2.ensures.value, c.into_elements-elements.ensures) at c.in_ok-plain.ensures in
    let coils = rw (c.deref-3.ensures.value, c.into_elements-elements.ensures) at c.in_ok-coils.ensures in
    let boxes = rw (c.deref-4.ensures.value, c.into_elements-elements.ensures) at c.in_ok-boxes.ensures.count in
    let within = rw (c.deref-4.ensures.value, c.into_elements-elements.ensures) at c.in_ok-boxes.ensures.within in
    let number : length c.in_ok-coils.coils.items ≡ length (coils_of es) = ap length coils ∙ bound_coils_counted ds es in
    let Memories : ℕ → Type 0 = λ n. All (λ (x : BoundCoil). x.memory < n) c.in_ok-coils.coils.items in
    record {
      low = low;
      steps_in = rw (c.into_elements-elements.ensures, number, boxes) (fewer_in count (length es) (length (coils_of es)) (length (boxes_of es)) c.in_ok-steps.steps.items c.in_ok-plain.plain.items c.in_ok-steps.ensures (steps_within ds d top count rows c.in_ok-plain.plain.items steps));
      coils_in = rw (c.into_elements-elements.ensures, coils) (coils_within ds es);
      outputs_in = within count (boxes_in_rows es top count rows);
    }
