use Rattle.std.proofs.Common.{rules, ◌≡◌, ◌∙◌, Some, slice_get, length, refl, sym}
use denote.Enum.Bare.{same_true, same_false}
use Rattle.std.proofs.lemmas.Option.{slice_get_read}
use Rattle.drawings.specs.contracts.drawn_box.Side.{the_type}
use Rattle.drawings.specs.declared.drawn_box.Side.TheVariants.{Left}
use Rattle.network.specs.Links.{place}
use Rattle.network.proofs.Joined.RowTables.{pin_here, pin_to_place, pin_to_all}
use Rattle.network.proofs.Joined.LinkedPairs.{adds_as, pins_pair, pins_skip}
use Rattle.network.proofs.joining.pairs.push_left_pins.Goals.{then-eq+in_ok-push_left, else-eq}
use Rattle.network.proofs.joining.pairs.push_left_pins.Goals as goal

pub push_left-requires : goal.push_left-requires
push_left-requires c =
    let items = c.as_slice-pin-items.ensures in
    let pin = c.pin-item.result in
    let n = c.loop-pin.pin-index in
    let b = c.args.drawn.now in
    let at : slice_get b.pins n ≡ Some pin = slice_get_read b.pins (length b.pins) n pin refl (rw items at c.loop-pin-test.true) (rw items at c.pin-item.is) in
    c.requires (place pin.row b.left) (pin_here Left b n pin at (same_true the_type (search rules) _ _ (sym c.eq.ensures ∙ c.if-eq.true)))

pub loop-pin-preserved : goal.loop-pin-preserved
loop-pin-preserved c =
    let items = c.as_slice-pin-items.ensures in
    let pin = c.pin-item.result in
    let n = c.loop-pin.pin-index in
    let b = c.args.drawn.now in
    let k = c.args.element in
    let last = c.args.last.now in
    let old = c.args.pairs.now.items in
    let at : slice_get b.pins n ≡ Some pin = slice_get_read b.pins (length b.pins) n pin refl (rw items at c.loop-pin-test.true) (rw items at c.pin-item.is) in
    record {
      adds = elim c.if-eq.branch [
        | then-eq+in_ok-push_left w ↦ rw w.pairs-is (pins_pair last b k n pin old c.loop-pin.pairs.items w.push_left.new.pairs.items at
            (same_true the_type (search rules) _ _ (sym c.eq.ensures ∙ w.if-eq.true)) w.in_ok-push_left.ensures c.loop-pin.invariant.adds)
        | else-eq w ↦ rw w.pairs-is (pins_skip last b k n pin old c.loop-pin.pairs.items at
            (same_false the_type _ _ (sym c.eq.ensures ∙ w.if-eq.false)) c.loop-pin.invariant.adds)
      ];
      column = refl;
      items = items;
    }

pub returns : goal.returns
returns c =
    let b = c.args.drawn.now in
    let n = c.loop-pin.pin-index in
    let last = c.args.last.now in
    let k = c.args.element in
    let all = rw c.as_slice-pin-items.ensures at c.loop-pin-test.false in
    adds_as _ _ c.args.pairs.now.items c.loop-pin.pairs.items
    (λ m h. (h.0, pin_to_place Left b n h.0 h.1, h.2)) (λ m h. (h.0, pin_to_all Left b n all h.0 h.1, h.2)) c.loop-pin.invariant.adds
