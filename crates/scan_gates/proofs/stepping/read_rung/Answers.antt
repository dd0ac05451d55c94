use Rattle.std.proofs.Common.{◌<◌, true, false, length, get_or-set_same, arith, sym, ap, ◌∙◌, set}
use Rattle.scan_steps.specs.Conducting.{bit_at}
use Rattle.scan_steps.specs.Steps.Passing.{behind_all}
use Rattle.scan_gates.specs.Encoded.{bits_at, slots_at}
use Rattle.scan_gates.proofs.Bits.{bits_long, bits_set}
use Rattle.scan_gates.proofs.stepping.read_rung.Goals as goal

pub returns : goal.returns
returns c = λ v agrees.
    let rows = bits_at v c.args.rows.now in
    let row = c.args.row in
    let behind = behind_all (slots_at v c.args.slots.now) true c.args.contacts.now in
    let on = c.in_ok-on.ensures v agrees in
    let is = on.1 ∙ ap (behind_all (slots_at v c.args.slots.now) true) c.contacts.ensures in
    let long = bits_long v c.args.rows.now in
    let within = c.requires.row in
    let lt : row < length rows = omega arith in (
      on.0,
      (
        bits_set v c.args.rows.now row c.in_ok-on.on behind is,
        bits_set v c.args.links.now c.args.coil c.in_ok-on.on (bit_at (set rows row behind) row) (is ∙ sym (get_or-set_same rows row behind false lt)),
      ),
    )
