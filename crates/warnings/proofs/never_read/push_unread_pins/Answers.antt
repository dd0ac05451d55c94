use Rattle.std.proofs.Common.{◌≡◌, ◌+◌, ◌++◌, [], ◌∷◌, List, take, ap, ◌∙◌, sym}
use Rattle.std.specs.List.{flat_map}
use Rattle.std.proofs.lemmas.List.{flat_map_more, take_more}
use Rattle.drawings.specs.declared.drawn_box.DrawnPin.{DrawnPin}
use Rattle.warnings.specs.declared.warning.Warning.{Warning}
use Rattle.warnings.specs.NeverRead.{unread_at_pin}
use Rattle.warnings.proofs.never_read.push_unread_pins.Goals as goal

pub loop-pin-preserved : goal.loop-pin-preserved
loop-pin-preserved c = λ xs are.
    let pins = c.args.pins.now in
    let k = c.loop-pin.pin-index in
    let pin = c.pin-item.result in
    let first = c.args.warnings.now.items in
    let told = unread_at_pin c.args.first_line c.args.declarations.now xs in
    let more : take (k + 1) pins ≡ take k pins ++ pin ∷ []
    = take_more pins k pin c.loop-pin-test.true ∙ ap (λ (x : DrawnPin). take k pins ++ x ∷ []) (sym c.pin-item.is) in
    c.in_ok-push_unread_pin.ensures xs are
    ∙ ap (λ (ws : List Warning). ws ++ told pin) (c.loop-pin.invariant xs are)
    ∙ flat_map_more told first (take k pins) pin
    ∙ ap (λ (ps : List DrawnPin). first ++ flat_map told ps) (sym more)
