use Rattle.std.proofs.Common.{set, ap, ◌∙◌}
use Rattle.scan_steps.specs.declared.slot.Slot.TheVariants.{Variable}
use Rattle.scan_gates.specs.Encoded.{slots_at}
use Rattle.ladder_systems.proofs.opening.assign.Goals as goal

pub returns-clause-slots : goal.returns-clause-slots
returns-clause-slots c = λ v agrees.
    c.put_variable.ensures.slots v ∙ ap (λ x. set (slots_at v c.args.slots.now) c.args.setting.now.place (Variable x)) (c.in_ok-value.ensures.value v agrees)

pub returns-clause-of : goal.returns-clause-of
returns-clause-of c = λ ds holds of. c.put_variable.ensures.of ds (rw c.in_ok-value.ensures.kind holds) of
