use Rattle.scan_gates.proofs.Results.{on_ok}
use Rattle.scan_gates.proofs.joining.join_off.Goals as goal

pub returns : goal.returns
returns c = on_ok _ _ c.join_rows.result c.join_rows.ensures (λ built v agrees.
    let joined = built v agrees in
    (joined.0, rw (c.set_row.ensures v joined.0) at joined.1))
