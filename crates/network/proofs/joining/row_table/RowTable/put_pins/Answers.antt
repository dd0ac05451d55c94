use Rattle.std.proofs.Common.{rules, ◌≡◌, ◌∙◌, Some, slice_get, length, length-set, refl, sym, arith}
use denote.Enum.Bare.{same_true, same_false}
use Rattle.std.proofs.lemmas.Option.{slice_get_read}
use Rattle.drawings.specs.contracts.drawn_box.Side.{the_type}
use Rattle.network.specs.Links.{place}
use Rattle.network.proofs.Joined.RowTables.{side_column}
use Rattle.network.proofs.Joined.RowTables.{pin_here, puts_pin, puts_skip, puts_all}
use Rattle.network.proofs.joining.row_table.RowTable.put_pins.Goals.{then-eq, else-eq}
use Rattle.network.proofs.joining.row_table.RowTable.put_pins.Goals as goal

pub put-requires : goal.put-requires
put-requires c =
    let items = c.as_slice-pin-items.ensures in
    let pin = c.pin-item.result in
    let n = c.loop-pin.pin-index in
    let b = c.args.drawn.now in
    let side = c.args.side in
    let at : slice_get b.pins n ≡ Some pin = slice_get_read b.pins (length b.pins) n pin refl (rw items at c.loop-pin-test.true) (rw items at c.pin-item.is) in
    let within = c.requires (place pin.row (side_column side b)) (pin_here side b n pin at (same_true the_type (search rules) _ _ (sym c.eq.ensures ∙ c.if-eq.true))) in
    let long = c.loop-pin.invariant.long in
    omega arith

pub loop-pin-preserved : goal.loop-pin-preserved
loop-pin-preserved c =
    let items = c.as_slice-pin-items.ensures in
    let pin = c.pin-item.result in
    let n = c.loop-pin.pin-index in
    let b = c.args.drawn.now in
    let side = c.args.side in
    let k = c.args.element in
    let old = c.args.self.now in
    let mid = c.loop-pin.self in
    let i = c.loop-pin.invariant in
    let at : slice_get b.pins n ≡ Some pin = slice_get_read b.pins (length b.pins) n pin refl (rw items at c.loop-pin-test.true) (rw items at c.pin-item.is) in
    elim c.if-eq.branch [
      | then-eq w ↦ (let is = same_true the_type (search rules) _ _ (sym c.eq.ensures ∙ w.if-eq.true) in
          let within = c.requires (place pin.row (side_column side b)) (pin_here side b n pin at is) in record {
            puts = rw (w.self-is, w.put.ensures) (puts_pin side b k n c.match-side.column pin old mid at is i.column (let l = i.long in omega arith) i.puts);
            long = rw (w.self-is, w.put.ensures) (length-set mid pin.row _ ∙ i.long);
            column = i.column;
            items = items;
          })
      | else-eq w ↦ record {
        puts = rw w.self-is (puts_skip side b k n pin old mid at (same_false the_type _ _ (sym c.eq.ensures ∙ w.if-eq.false)) i.puts);
        long = rw w.self-is i.long;
        column = i.column;
        items = items;
      }
    ]

pub returns-clause-puts : goal.returns-clause-puts
returns-clause-puts c =
    puts_all c.args.side c.args.drawn.now c.args.element c.loop-pin.pin-index c.args.self.now c.loop-pin.self (rw c.as_slice-pin-items.ensures at c.loop-pin-test.false) c.loop-pin.invariant.puts
