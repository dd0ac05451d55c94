use Rattle.std.proofs.Common.{◌<◌, inl, inr, ◌||◌, length, arith, sym, ap, ◌∙◌}
use Rattle.gates.specs.Signals.{signal_value}
use Rattle.scan_gates.specs.Encoded.{bits_at}
use Rattle.scan_gates.proofs.Bits.{any_more, any_none, any_all, bit_there}
use Rattle.scan_gates.proofs.joining.any_on.Goals as goal

pub loop-row-init : goal.loop-row-init
loop-row-init c = record {
  built = λ v agrees. (agrees, any_none (bits_at v c.args.rows.now) (signal_value v c.constant-on.result) c.args.first (c.constant-on.ensures v agrees));
  bound = inr (omega arith);
}

pub loop-row-preserved : goal.loop-row-preserved
loop-row-preserved c =
    let more : c.loop-row.row < length c.args.rows.now = let in' = c.loop-row-test.true in omega arith in
    record {
      built = λ v agrees.
          let or = c.in_ok-on.ensures v agrees in
          let was = c.loop-row.invariant.built v or.0 in
          let here = bit_there v c.args.rows.now c.loop-row.row _ more in (
            was.0,
            any_more (bits_at v c.args.rows.now) (signal_value v c.loop-row.on) (signal_value v c.in_ok-on.on) c.args.first c.loop-row.row c.loop-row.auto.row was.1
                (or.1 ∙ ap (λ on. signal_value v c.loop-row.on || on) (sym here)),
          );
      bound = inl (omega arith);
    }

pub returns : goal.returns
returns c = λ v agrees.
    let built = c.loop-row.invariant.built v agrees in
    (built.0, any_all (bits_at v c.args.rows.now) (signal_value v c.loop-row.on) c.args.first c.loop-row.row c.args.last built.1 c.loop-row-test.false c.loop-row.invariant.bound)
