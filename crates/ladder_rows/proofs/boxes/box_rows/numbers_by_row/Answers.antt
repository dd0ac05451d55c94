use Rattle.std.proofs.Common.{◌≡◌, ◌+◌, ◌<◌, ◌∙◌, [], length, get_or, refl, arith, Some}
use Rattle.std.specs.List.{slice_get}
use Rattle.std.proofs.lemmas.Option.{slice_get_read}
use Rattle.ladder_rows.proofs.Outlines.RowBoxes.{numbers-more}
use Rattle.ladder_rows.proofs.boxes.box_rows.numbers_by_row.Goals as goal

pub loop-number-preserved : goal.loop-number-preserved
loop-number-preserved c =
    let bs = c.args.boxes.now in
    let b = c.index-boxes-number.result in
    let old = c.loop-number.by_row.items in
    let new = c.add_box.new.by_row.items in
    let added = c.in_ok-add_box.ensures in
    let e : slice_get bs c.loop-number.number ≡ Some b = slice_get_read bs (length bs) c.loop-number.number b refl c.loop-number-test.true c.index-boxes-number.is in
    let long : length new ≡ length old = added.rows in (
      long ∙ c.loop-number.invariant.0,
      λ k h. let within : k < length old = omega arith in
          numbers-more bs c.loop-number.number (k + 1) b (get_or old k []) (get_or new k []) e (c.loop-number.invariant.1 k within) (added.here k within) (added.above k) (added.below k),
    )
