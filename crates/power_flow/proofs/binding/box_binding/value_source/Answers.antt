use Rattle.std.proofs.Common.{◌∙◌, ap}
use Rattle.power_flow.specs.Steps.NameSources.{pin_source}
use Rattle.power_flow.proofs.Boxes.BoxesBinding.{same_drawn, in_range_of}
use Rattle.power_flow.proofs.binding.box_binding.value_source.Goals as goal

pub returns-in-Some-clause-some : goal.returns-in-Some-clause-some
returns-in-Some-clause-some c = λ once fine pin is.
    let b = c.args.drawn.now in
    let found = c.in-Some.pin.now in
    let same = same_drawn b c.args.block c.args.field found pin once c.in-Some.ensures is in
    c.pin_value_source.ensures (in_range_of b found fine c.in-Some.ensures.drawn) ∙ ap (pin_source c.args.declarations.now) same
