use Rattle.std.proofs.Common.{◌<◌, ◌≡◌, ◌∙◌, ap, refl, length, rules, arith}
use Rattle.std.proofs.lemmas.Iterator.{YieldsList-from_range}
use Rattle.std.proofs.lemmas.Iterator.Search.{all_from_yields_List}
use Rattle.ladder_rows.specs.Rows.{Rows, height, width}
use Rattle.ladder_rows.specs.Boxes.{left_column}
use Rattle.ladder_text.specs.Places.{layout_of, may_be_rail}
use Rattle.ladder_text.proofs.Marks.LaidPlaces.{has_right_rail-if_left}
use Rattle.ladder_text.proofs.places.marked_grid.MarkedGrid.find_right_rail.Goals as goal

pub returns-then-left-last : goal.returns-then-left-last
returns-then-left-last c =
    let d = c.args.self.now in
    let e = all_from_yields_List (may_be_rail (layout_of d)) _ _ _ c.all.ensures.ran (YieldsList-from_range 1 (length d) (height d) (cc) refl) (λ x b q k. search rules) in
    let left : c.left.result ≡ left_column d = c.left.ensures ∙ ap left_column c.self.view_is in
    let last : c.last.result ≡ width d = c.last.ensures.last ∙ ap (λ (d : Rows). width d) c.self.view_is in
    let h : left_column d < width d = omega arith in
    e ∙ has_right_rail-if_left d h
