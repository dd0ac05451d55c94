use Rattle.std.proofs.Common.{◌<◌, ◌≤◌, ◌++◌, length, sym, ap, ◌∙◌, string_bytes, arith}
use Rattle.text_commands.specs.PlanText.{is_taker, delivery_line}
use Rattle.text_commands.proofs.PlanLines.{one_delivered, one_passed, all_delivered}
use Rattle.text_commands.proofs.plan_lines.push_deliveries.Goals.{then-is_taker+in_ok-push_delivery, else-is_taker}
use Rattle.text_commands.proofs.plan_lines.push_deliveries.Goals as goal

pub loop-resource-preserved : goal.loop-resource-preserved
loop-resource-preserved c =
    let line = delivery_line c.args.plant.now c.args.message in
    let takes = is_taker c.args.plant.now c.args.task in
    let within : c.loop-resource.resource < length c.args.plant.now.resources = omega (arith, c.loop-resource-test.true, c.resources-resource-end.ensures.count) in
    elim c.if-is_taker.branch [
      | then-is_taker+in_ok-push_delivery w ↦ one_delivered line takes (length c.args.plant.now.resources) c.loop-resource.resource (string_bytes c.args.lines.now) (string_bytes c.loop-resource.lines) (string_bytes c.if-is_taker.lines)
          within (sym c.is_taker.ensures ∙ w.if-is_taker.true) c.loop-resource.invariant (ap string_bytes w.lines-is ∙ w.in_ok-push_delivery.ensures)
      | else-is_taker w ↦ one_passed line takes (length c.args.plant.now.resources) c.loop-resource.resource (string_bytes c.args.lines.now) (string_bytes c.if-is_taker.lines)
          within (sym c.is_taker.ensures ∙ w.if-is_taker.false) (ap string_bytes w.lines-is ∙ c.loop-resource.invariant)
    ]

pub returns : goal.returns
returns c =
    let past : length c.args.plant.now.resources ≤ c.loop-resource.resource = omega (arith, c.loop-resource-test.false, c.resources-resource-end.ensures.count) in
    c.loop-resource.invariant
    ∙ ap (λ t. string_bytes c.args.lines.now ++ t) (all_delivered (delivery_line c.args.plant.now c.args.message) (is_taker c.args.plant.now c.args.task) (length c.args.plant.now.resources) c.loop-resource.resource past)
