use Rattle.std.proofs.Common.{◌≡◌, ◌-◌, length, length-drop, take, drop, arith}
use Rattle.std.proofs.lemmas.List.{take_all}
use Rattle.ladder_rows.proofs.Outlines.RowPins.{pins_between}
use Rattle.ladder_rows.proofs.boxes.outline.pins_on.Goals as goal

pub returns : goal.returns
returns c =
    let pins = c.args.pins.now in
    let from = c.count_above.result in
    let rest : take (length pins - from) (drop from pins) ≡ drop from pins = take_all (length pins - from) (drop from pins) (omega (arith, length-drop from pins)) in
    rw rest (pins_between c.args.row from c.count_to.result pins c.count_above.ensures.above c.count_above.ensures.behind
    (rw rest at c.count_to.ensures.above) (rw rest at c.count_to.ensures.behind))
