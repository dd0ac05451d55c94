use Rattle.std.proofs.Common.{◌≡◌, length, arith, ap, sym, ◌∙◌, refl}
use Rattle.std.specs.Option.{option_map}
use Rattle.lists.proofs.Places.{element_at}
use Rattle.lists.specs.Items.{items_or_none}
use Rattle.plant.specs.PlantValue.{ResourceValue}
use Rattle.exchange_core.proofs.Tables.{rows-more}
use Rattle.exchange_core.proofs.known.Known.empty.Goals as goal

pub loop-resource-preserved : goal.loop-resource-preserved
loop-resource-preserved c =
    let plant = c.args.plant.now in
    let i = c.loop-resource.resource in
    let at = element_at plant.resources i (omega (arith, c.resources-resources.ensures.count)) in
    let r = at.0 in
    let tasks : length c.tasks.result.now ≡ length r.tasks = ap length (c.tasks.ensures ∙ ap (λ o. items_or_none (option_map (λ (r : ResourceValue). r.tasks) o)) at.1) in
    let codes : length r.codes ≡ length r.tasks = c.resources-resources.ensures.sound.coded r i at.1 in
    rw c.in_ok-push.ensures.items
    (rows-more (λ row. row.items) c.loop-resource.rows.items c.in_ok-empty_row.field-0 plant.resources i r at.1 (c.in_ok-empty_row.ensures ∙ rw (tasks ∙ sym codes) refl) c.loop-resource.invariant)
