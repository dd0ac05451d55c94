use Rattle.std.proofs.Common.{◌≡◌, List, [], ◌∷◌, ◌++◌, length, get_or, sym, ap, ◌∙◌}
use Rattle.std.proofs.lemmas.List.{append-nil}
use Rattle.std_blocks.specs.declared.pins.PinsOut.{PinsOut}
use Rattle.scan_steps.specs.declared.bound_box.BoundOutput.{BoundOutput}
use Rattle.scan_steps.specs.declared.slot.Slot.{Slot}
use Rattle.power_flow.specs.Steps.BoxStores.{pin_store, pin_stores, kinds_stored}
use Rattle.power_flow.proofs.Boxes.KindsStored.{kinds_stored-append}
use Rattle.power_flow.proofs.scan.boxes.store_two.Goals as goal

two_stores : (values : PinsOut) (pins : List BoundOutput) (d : BoundOutput) → length pins ≡ 2
    → pin_stores values pins ≡ pin_store values (get_or pins 0 d) (get_or pins 0 d).store ++ pin_store values (get_or pins 1 d) (get_or pins 1 d).store
two_stores values [] d two = cc
two_stores values (a ∷ []) d two = cc
two_stores values (a ∷ b ∷ []) d two = ap (λ l. pin_store values a a.store ++ l) (append-nil (pin_store values b b.store))
two_stores values (a ∷ b ∷ e ∷ rest) d two = cc

two_stored : (values : PinsOut) (pins : List BoundOutput) (d : BoundOutput) (old mid new : List Slot) → length pins ≡ 2
    → mid ≡ kinds_stored old (pin_store values (get_or pins 0 d) (get_or pins 0 d).store) → new ≡ kinds_stored mid (pin_store values (get_or pins 1 d) (get_or pins 1 d).store)
    → new ≡ kinds_stored old (pin_stores values pins)
two_stored values pins d old mid new two first second =
    let one = pin_store values (get_or pins 0 d) (get_or pins 0 d).store in
    let other = pin_store values (get_or pins 1 d) (get_or pins 1 d).store in
    second ∙ ap (λ s. kinds_stored s other) first ∙ sym (kinds_stored-append old one other) ∙ ap (kinds_stored old) (sym (two_stores values pins d two))

pub returns : goal.returns
returns c = two_stored c.args.outputs.now c.args.pins.now _ c.args.slots.now c.store_pin.new.slots c.store_pin-2.new.slots c.requires c.store_pin.ensures c.store_pin-2.ensures
