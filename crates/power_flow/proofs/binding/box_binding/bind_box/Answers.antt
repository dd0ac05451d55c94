use Rattle.std.proofs.Common.{◌≡◌, ℕ, ◌∙◌, ap, sym, Some, unwrap_or, slice_get}
use Rattle.drawings.specs.declared.drawn_box.DrawnPin.{DrawnPin}
use Rattle.std_blocks.specs.declared.pin.Field.TheVariants.{Bit}
use Rattle.declared_names.specs.declared.declarations.Declared.TheVariants as declared
use Rattle.scan_steps.specs.declared.source.Source.{Source}
use Rattle.scan_steps.specs.declared.source.Source.TheVariants as source
use Rattle.declared_names.specs.Names.{place_of}
use Rattle.power_flow.specs.Meaning.{IsDrawn}
use Rattle.power_flow.specs.Steps.BoxTable.{IsBitSource}
use Rattle.power_flow.proofs.Boxes.BoxesBinding.{four, declared_place}
use Rattle.power_flow.proofs.binding.box_binding.bind_box.Goals as goal

pub returns-clause-bound : goal.returns-clause-bound
returns-clause-bound c = λ named.
    let ds = c.args.declarations.now in
    let b = c.args.drawn.now in
    let once = named.once in
    let at = declared_place ds b.instance (declared.Instance _) named.instance in
    let instance : c.unwrap_or.result ≡ at.0 = c.unwrap_or.ensures ∙ ap (λ o. unwrap_or o 0) (c.position_of.ensures ∙ ap (place_of ds) c.as_bytes.ensures ∙ at.2) in
    let Reads : ℕ → Source → Type 0 = λ k s. (pin : DrawnPin) → IsDrawn b b.block (Bit k) pin → IsBitSource ds c.args.top pin s in
    let Undrawn : ℕ → Source → Type 0 = λ k s. ((pin : DrawnPin) → IsDrawn b b.block (Bit k) pin → ⊥) → s ≡ source.Nothing in
    record {
      place = at.2 ∙ ap Some (sym instance);
      declared = record { entry = at.1; at = ap (λ k. slice_get ds k) instance ∙ at.3; is = at.4 };
      bits = λ k pin lt is. four Reads _ _ _ _ (c.bit_source.ensures.some once) (c.bit_source-2.ensures.some once) (c.bit_source-3.ensures.some once) (c.bit_source-4.ensures.some once) k lt pin is;
      no_bit = λ k lt none. four Undrawn _ _ _ _ c.bit_source.ensures.none c.bit_source-2.ensures.none c.bit_source-3.ensures.none c.bit_source-4.ensures.none k lt none;
      int = λ pin is. c.value_source.ensures.some once named.literals pin is;
      no_int = c.value_source.ensures.none;
      time = λ pin is. c.value_source-2.ensures.some once named.literals pin is;
      no_time = c.value_source-2.ensures.none;
      outputs = c.in_ok-outputs.ensures.bound named.outputs;
    }
