use Rattle.std.proofs.Common.{subst}
use Rattle.drawings.specs.declared.drawn_box.DrawnPin.{DrawnPin}
use Rattle.std_blocks.specs.declared.pin.Field.TheVariants.{Bit}
use Rattle.power_flow.specs.Steps.BoxTable.{IsBitSource}
use Rattle.power_flow.proofs.Boxes.BoxesBinding.{same_drawn}
use Rattle.power_flow.proofs.binding.box_binding.bit_source.Goals as goal

pub returns-in-Some-clause-some : goal.returns-in-Some-clause-some
returns-in-Some-clause-some c = λ once pin is.
    let same = same_drawn c.args.drawn.now c.args.block (Bit c.args.k) c.in-Some.pin.now pin once c.in-Some.ensures is in
    let P : DrawnPin → Type 0 = λ p. IsBitSource c.args.declarations.now c.args.top p c.pin_bit_source.result in
    subst P same c.pin_bit_source.ensures
