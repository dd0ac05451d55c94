use Rattle.std.proofs.Common.{Some, length-set, refl, ap, ◌∙◌}
use Rattle.std.proofs.lemmas.List.{take_all}
use Rattle.scan_steps.specs.Values.{is_true}
use Rattle.scan_gates.specs.Encoded.{bits_at, instance_at}
use Rattle.scan_gates.proofs.Marking.{mark_one, none_marked}
use Rattle.scan_gates.proofs.boxes.mark_rows.Goals as goal

pub loop-pin-init : goal.loop-pin-init
loop-pin-init c = record {
  long = refl;
  built = λ v agrees. (agrees, none_marked c.args.pins.now (instance_at v c.args.shown).outputs (bits_at v c.args.rows.now));
}

pub loop-pin-preserved : goal.loop-pin-preserved
loop-pin-preserved c =
    let lt = c.loop-pin-test.true in
    let here = c.requires c.loop-pin.pin-index _ lt in
    record {
      long = length-set c.loop-pin.rows _ c.in_ok-rows.field-0 ∙ c.loop-pin.invariant.long;
      built = λ v agrees.
          let or = c.in_ok-rows.ensures v agrees in
          let was = c.loop-pin.invariant.built v or.0 in (
            was.0,
            mark_one v c.args.pins.now (instance_at v c.args.shown).outputs c.loop-pin.pin-index _ (bits_at v c.args.rows.now) c.loop-pin.rows _ c.in_ok-rows.field-0 c.truth_of-on.result lt
                (rw c.loop-pin.invariant.long here) was.1 or.1 (c.truth_of-on.ensures v or.0 ∙ ap (λ x. is_true (Some x)) (c.output_of.ensures v or.0)),
          );
    }

pub returns : goal.returns
returns c = rw (take_all c.loop-pin.pin-index c.args.pins.now c.loop-pin-test.false) at c.loop-pin.invariant.built
