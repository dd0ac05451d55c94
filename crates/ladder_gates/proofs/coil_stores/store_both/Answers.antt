use Rattle.std.proofs.Common.{ap, ◌∙◌}
use Rattle.std_blocks.specs.declared.value.Value.TheVariants as value
use Rattle.scan_steps.specs.Steps.Storing.{value_put}
use Rattle.scan_gates.specs.Encoded.{slots_at}
use Rattle.ladder_gates.proofs.coil_stores.store_both.Goals as goal

pub returns : goal.returns
returns c = λ v agrees.
    let and = c.in_ok-both.ensures v agrees in
    (and.0, c.put_value.ensures v ∙ ap (λ b. value_put (slots_at v c.args.slots.now) c.args.place (value.Bool b)) and.1)
