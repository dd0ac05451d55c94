use Rattle.std.proofs.Common.{◌≡◌, List, [], ◌∷◌, length, get_or, sym, ap, ◌∙◌}
use Rattle.std.proofs.lemmas.List.{append-nil}
use Rattle.std_blocks.specs.declared.pins.PinsOut.{PinsOut}
use Rattle.scan_steps.specs.declared.bound_box.BoundOutput.{BoundOutput}
use Rattle.power_flow.specs.Steps.BoxStores.{pin_store, pin_stores, kinds_stored}
use Rattle.power_flow.proofs.scan.boxes.store_one.Goals as goal

one_store : (values : PinsOut) (pins : List BoundOutput) (d : BoundOutput) → length pins ≡ 1
    → pin_stores values pins ≡ pin_store values (get_or pins 0 d) (get_or pins 0 d).store
one_store values [] d one = cc
one_store values (a ∷ []) d one = append-nil (pin_store values a a.store)
one_store values (a ∷ b ∷ rest) d one = cc

pub returns : goal.returns
returns c = c.store_pin.ensures ∙ ap (kinds_stored c.args.slots.now) (sym (one_store c.args.outputs.now c.args.pins.now _ c.requires))
