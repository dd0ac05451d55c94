use Rattle.std.proofs.Common.{◌&&◌, Some, ap, ◌∙◌}
use Rattle.std_blocks.specs.declared.value.Value.TheVariants as value
use Rattle.gates.specs.Signals.{signal_value}
use Rattle.scan_gates.specs.Encoded.{slots_at}
use Rattle.power_flow.specs.Meaning.{store}
use Rattle.power_flow.specs.Steps.BoxStores.{kinds_stored}
use Rattle.ladder_gates.proofs.Results.{on_ok}
use Rattle.ladder_gates.proofs.coil_stores.store_at.Goals as goal

pub returns-in-Set : goal.returns-in-Set
returns-in-Set c = rw c.in-Set.is c.store_set.ensures

pub returns-in-Reset : goal.returns-in-Reset
returns-in-Reset c = rw c.in-Reset.is c.store_reset.ensures

pub returns-in-Rise : goal.returns-in-Rise
returns-in-Rise c = rw c.in-Rise.is (on_ok _ _ c.store_both.result c.store_both.ensures (λ built v agrees.
    let stored = built v agrees in
    (stored.0, stored.1 ∙ ap (λ b. kinds_stored (slots_at v c.args.slots.now) (store (Some c.args.place) (Some (value.Bool (signal_value v c.args.link && b))))) (c.negated-in-Rise.ensures v))))

pub returns-in-Fall : goal.returns-in-Fall
returns-in-Fall c = rw c.in-Fall.is (on_ok _ _ c.store_both-in-Fall.result c.store_both-in-Fall.ensures (λ built v agrees.
    let stored = built v agrees in
    (stored.0, stored.1 ∙ ap (λ b. kinds_stored (slots_at v c.args.slots.now) (store (Some c.args.place) (Some (value.Bool (b && signal_value v c.args.memory))))) (c.negated-in-Fall.ensures v))))
