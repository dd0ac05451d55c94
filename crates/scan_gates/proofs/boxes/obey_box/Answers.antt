use Rattle.std.proofs.Common.{subst}
use Rattle.scan_steps.specs.declared.slot.Instance.{Instance}
use Rattle.scan_steps.specs.Steps.Passing.{AreShown}
use Rattle.scan_gates.specs.Encoded.{bits_at}
use Rattle.scan_gates.proofs.boxes.obey_box.Goals as goal

pub returns : goal.returns
returns c = λ v agrees.
    let shown = c.in_ok-show_outputs.ensures v agrees in
    let made = c.in_ok-made.ensures v shown.0 in
    let Shows : Instance → Type 0 = λ i. AreShown c.args.bound.now i (bits_at v c.args.rows.now) (bits_at v c.show_outputs.new.rows) in
    (made.0, (made.1, subst Shows made.1 (rw c.deref.ensures.value at shown.1)))
