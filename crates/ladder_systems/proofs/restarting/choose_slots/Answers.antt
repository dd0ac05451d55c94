use Rattle.std.proofs.Common.{◌≤◌, ◌<◌, length, ap, ◌∙◌, arith}
use Rattle.std.proofs.lemmas.List.{take_all}
use Rattle.std.proofs.lemmas.List.Elements.{AllZip-get_or, length_all_zip}
use Rattle.gates.specs.Signals.{signal_value}
use Rattle.scan_gates.specs.Encoded.{slots_at}
use Rattle.scan_gates.specs.States.{IsLike}
use Rattle.ladder_systems.proofs.Pushing.{chosen_more, like_pushed}
use Rattle.ladder_systems.proofs.restarting.choose_slots.Goals as goal

pub chosen-requires : goal.chosen-requires
chosen-requires c =
    let long = length_all_zip IsLike c.args.fresh.now c.args.slots.now c.requires in
    rw (c.index-fresh-place.is, c.index-slots-place.is) (AllZip-get_or IsLike c.args.fresh.now c.args.slots.now c.loop-place.place _ _ c.requires (omega (arith, long)))

pub loop-place-preserved : goal.loop-place-preserved
loop-place-preserved c =
    let k = c.loop-place.place in
    let long = length_all_zip IsLike c.args.fresh.now c.args.slots.now c.requires in
    let lt = c.loop-place-test.true in
    let less : k < length c.args.fresh.now = omega (arith, long) in
    record {
      built = λ v agrees.
          let chosen = (rw (c.index-fresh-place.is, c.index-slots-place.is) at c.in_ok-slot.ensures.built) v agrees in
          let was = c.loop-place.invariant.built v chosen.0 in (
            was.0,
            ap (slots_at v) c.in_ok-push_slot.ensures
                ∙ chosen_more v (signal_value v c.args.condition) c.args.fresh.now c.args.slots.now c.loop-place.made.items k _ _ c.in_ok-slot.slot less lt was.1 chosen.1,
          );
      like = like_pushed c.args.fresh.now c.loop-place.made.items _ k _ c.in_ok-slot.slot less c.loop-place.invariant.like (rw c.index-fresh-place.is at c.in_ok-slot.ensures.like) c.in_ok-push_slot.ensures;
    }

pub returns-clause-slots : goal.returns-clause-slots
returns-clause-slots c =
    let long = length_all_zip IsLike c.args.fresh.now c.args.slots.now c.requires in
    let fresh_end : length c.args.fresh.now ≤ c.loop-place.place = omega (arith, long, c.loop-place-test.false) in
    rw (take_all c.loop-place.place c.args.fresh.now fresh_end, take_all c.loop-place.place c.args.slots.now c.loop-place-test.false) at c.loop-place.invariant.built

pub returns-clause-like : goal.returns-clause-like
returns-clause-like c =
    let long = length_all_zip IsLike c.args.fresh.now c.args.slots.now c.requires in
    let fresh_end : length c.args.fresh.now ≤ c.loop-place.place = omega (arith, long, c.loop-place-test.false) in
    rw (take_all c.loop-place.place c.args.fresh.now fresh_end) at c.loop-place.invariant.like
