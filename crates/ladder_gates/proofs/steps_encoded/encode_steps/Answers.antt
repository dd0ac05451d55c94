use Rattle.std.proofs.Common.{◌≡◌, length, ap, arith}
use Rattle.ladder_gates.proofs.steps_encoded.encode_steps.Goals as goal

pub returns : goal.returns
returns c =
    let long : length c.deref_mut.result.now ≡ c.args.rows = omega (arith, ap length c.deref_mut.ensures.value, c.in_ok-column.column.ok.0, c.in_ok-column.ensures.len) in
    rw long at c.scan_in.ensures
