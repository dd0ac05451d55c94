use Rattle.std.proofs.Common.{◌+◌, drop, sym, ap, ◌∙◌, arith}
use Rattle.scan_steps.specs.Digests.{slots_mixed}
use Rattle.scan_steps.proofs.Digesting.{mixed_more, found_at}
use Rattle.scan_steps.proofs.slots.Slots.digest.Goals as goal
use Rattle.scan_steps.proofs.slots.Slots.digest.Goals.{in-Some, in_default}

pub loop-place-preserved : goal.loop-place-preserved
loop-place-preserved c =
    let slots = c.args.self.now in
    let k = c.loop-place.place in
    elim c.match-slot.branch [
      | in-Some w ↦ ap (λ d. slots_mixed d (drop (k + 1) slots)) (w.digest-is ∙ w.mix_slot-digest.ensures)
          ∙ sym (mixed_more slots k (k + 1) w.in-Some.slot c.loop-place.digest (omega arith) (sym c.slot.ensures ∙ w.in-Some.is))
          ∙ c.loop-place.invariant
      | in_default w ↦ absurd (found_at slots k (omega arith) (sym c.slot.ensures ∙ w.in_default.is))
    ]
