use Rattle.std.proofs.Common.{◌∙◌, List, length, sym, ap, refl, arith}
use Rattle.std.specs.List.{slice_get}
use Rattle.std.proofs.lemmas.Option.{slice_get_read}
use Rattle.ladder_rows.specs.declared.boxes.outline.Outline.{Outline}
use Rattle.ladder_rows.specs.Boxes.{outlines}
use Rattle.ladder_text.specs.Places.{layout_of}
use Rattle.ladder_text.proofs.Outlines.BoxOrder.{all_apart, not_apart, none_more, first_of_shared}
use Rattle.ladder_text.proofs.Outlines.RisingBoxes.{outlines_rising}
use Rattle.ladder_text.proofs.places.marked_grid.MarkedGrid.first_shared_box.Goals as goal

pub shares_before-requires : goal.shares_before-requires
shares_before-requires c =
    let xs = c.boxes-outline-items.result.now in
    let k = c.loop-number.number in
    sym (ap (λ (ys : List Outline). slice_get ys k) c.boxes-outline-items.ensures)
    ∙ slice_get_read xs (length xs) k c.outline-item.result refl c.loop-number-test.true c.outline-item.is

pub returns-then-shares_before-clause-none : goal.returns-then-shares_before-clause-none
unfolding layout_of
returns-then-shares_before-clause-none c =
    let xs = c.boxes-outline-items.result.now in
    let k = c.loop-number.number in
    let e = sym (ap (λ (ys : List Outline). slice_get ys k) c.boxes-outline-items.ensures)
    ∙ slice_get_read xs (length xs) k c.outline-item.result refl c.loop-number-test.true c.outline-item.is in
    let d = c.args.self.now in
    sym (not_apart (outlines d) (outlines_rising c.boxes_are_whole.ensures d) k c.outline-item.result e (sym c.shares_before.ensures ∙ c.if-shares_before.true))

pub returns-then-shares_before-clause-some : goal.returns-then-shares_before-clause-some
returns-then-shares_before-clause-some c =
    let xs = c.boxes-outline-items.result.now in
    let k = c.loop-number.number in
    let e = sym (ap (λ (ys : List Outline). slice_get ys k) c.boxes-outline-items.ensures)
    ∙ slice_get_read xs (length xs) k c.outline-item.result refl c.loop-number-test.true c.outline-item.is in
    record {
      number = k;
      outline = c.outline-item.result;
      listed = e;
      row = refl;
      column = refl;
      shares = sym c.shares_before.ensures ∙ c.if-shares_before.true;
      first = c.loop-number.invariant;
    }

pub returns-then-shares_before-clause-first : goal.returns-then-shares_before-clause-first
returns-then-shares_before-clause-first c =
    let xs = c.boxes-outline-items.result.now in
    let k = c.loop-number.number in
    let e = sym (ap (λ (ys : List Outline). slice_get ys k) c.boxes-outline-items.ensures)
    ∙ slice_get_read xs (length xs) k c.outline-item.result refl c.loop-number-test.true c.outline-item.is in
    let d = c.args.self.now in
    first_of_shared (outlines d) (outlines_rising c.boxes_are_whole.ensures d) (record { row = c.outline-item.result.top; column = c.outline-item.result.left }) (record {
      number = k;
      outline = c.outline-item.result;
      listed = e;
      row = refl;
      column = refl;
      shares = sym c.shares_before.ensures ∙ c.if-shares_before.true;
      first = c.loop-number.invariant;
    })

pub loop-number-preserved : goal.loop-number-preserved
loop-number-preserved c =
    let xs = c.boxes-outline-items.result.now in
    let k = c.loop-number.number in
    let e = sym (ap (λ (ys : List Outline). slice_get ys k) c.boxes-outline-items.ensures)
    ∙ slice_get_read xs (length xs) k c.outline-item.result refl c.loop-number-test.true c.outline-item.is in
    none_more (outlines c.args.self.now) k c.outline-item.result e (sym c.shares_before.ensures ∙ c.if-shares_before.false) c.loop-number.invariant

pub returns-clause-none : goal.returns-clause-none
unfolding layout_of
returns-clause-none c =
    let size = ap (λ (ys : List Outline). length ys) c.boxes-outline-items.ensures in
    sym (all_apart (outlines c.args.self.now) (λ k b h e. c.loop-number.invariant k b (omega arith) e))
