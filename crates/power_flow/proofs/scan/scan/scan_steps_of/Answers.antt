use Rattle.std.proofs.Common.{refl, ap, ◌∙◌}
use Rattle.power_flow.specs.Steps.BoxStores.{kinds_stored}
use Rattle.power_flow.specs.Steps.CoilStores.{bound_stores}
use Rattle.scan_steps.specs.Steps.Passing.{pass_of}
use Rattle.power_flow.proofs.Boxes.CircuitScans.{circuit_scanned}
use Rattle.power_flow.proofs.scan.scan.scan_steps_of.Goals as goal

pub returns : goal.returns
returns c = λ ds d is fits.
    let circuit = c.args.circuit.now in
    let passed = rw (c.deref.ensures.value, c.deref-2.ensures.value) at c.pass.ensures in
    let after_boxes = rw c.deref-3.ensures.value at c.store_boxes.ensures in
    let after_coils = rw c.deref-4.ensures.value at c.store_coils.ensures.slots in
    let memories = rw c.deref-4.ensures.value at c.store_coils.ensures.memories in
    circuit_scanned ds d circuit c.args.dt c.args.slots.now c.store_coils.new.slots c.args.memories.now c.store_coils.new.memories
    (pass_of c.args.rows.now c.args.memories.now c.args.links.now c.args.results.now)
    (pass_of c.pass.new.rows c.pass.new.memories c.pass.new.links c.pass.new.results)
    is fits passed refl c.requires.memories c.requires.rows c.requires.links c.requires.results
    (after_coils ∙ ap (λ s. kinds_stored s (bound_stores circuit.coils.items 0 c.pass.new.links c.pass.new.memories)) after_boxes) memories
