use Rattle.std.proofs.Common.{◌≡◌, ◌<◌, None, Some, length, ap, ◌∙◌, arith}
use Rattle.std.specs.Option.{option_map}
use Rattle.lists.proofs.Places.{element_at}
use Rattle.declared_names.specs.declared.declarations.Declaration.{Declaration}
use Rattle.ladder_systems.proofs.Pushing.{first_more}
use Rattle.ladder_systems.proofs.first.first_slots.Goals as goal
use Rattle.ladder_systems.proofs.first.first_slots.Goals.{in-Some+in_ok-push_slot, in_default}

pub loop-place-preserved : goal.loop-place-preserved
loop-place-preserved c =
    let ds = c.args.declarations.now in
    let k = c.loop-place.place in
    let lt : k < length ds = omega (arith, c.loop-place-test.true, c.len-place-end.ensures) in
    elim c.match-declared_at.branch [
      | in-Some+in_ok-push_slot w ↦
          rw w.slots-is (λ v agrees.
          rw w.in_ok-push_slot.ensures (first_more v ds k w.in-Some.declared c.loop-place.slots.items w.first_slot-slot.result lt w.in-Some.ensures
          (c.loop-place.invariant v agrees) (w.first_slot-slot.ensures v agrees)))
      | in_default w ↦
          let there = element_at ds k lt in
          absurd (let none : None ≡ Some there.0.declared = w.in_default.ensures ∙ ap (option_map (λ (d : Declaration). d.declared)) there.1 in cc)
    ]
