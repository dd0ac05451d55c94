use Rattle.std.proofs.Common.{◌∙◌, ap, sym, Some}
use Rattle.std_blocks.specs.Pins.{pin_of, output}
use Rattle.power_flow.proofs.binding.box_binding.bound_output.Goals as goal

pub returns-clause-bound : goal.returns-clause-bound
returns-clause-bound c = λ field named.
    let same = c.field_of.ensures (output field) (ap (pin_of c.args.block) c.as_str.ensures ∙ named) in
    record {
      named = named ∙ ap (λ f. Some (output f)) (sym same);
      row = c.saturating_sub.ensures;
      store = c.store_place.ensures;
    }
