use Rattle.scan_gates.proofs.Bits.{bits_set}
use Rattle.scan_gates.proofs.joining.set_row.Goals as goal

pub returns : goal.returns
returns c = λ v agrees. bits_set v c.args.rows.now c.args.row c.constant.result c.args.on (c.constant.ensures v agrees)
