use Rattle.std.proofs.Common.{◌≡◌, ◌||◌, ◌∙◌, sym, ap, rules}
use Rattle.drawings.specs.declared.mark.Mark.{Mark}
use Rattle.ladder_text.specs.Places.{layout_of, is_box_part, is_symbol, is_taken}
use Rattle.ladder_text.proofs.Marks.LaidMarks.{taken_by_mark}
use Rattle.ladder_text.proofs.places.marked_grid.MarkedGrid.bad_mark.Goals as goal

pub returns-then-not-has_meaning : goal.returns-then-not-has_meaning
unfolding layout_of
returns-then-not-has_meaning c =
    let p = layout_of c.args.self.now in
    let e : is_taken p c.args.row c.args.column ≡ c.is_taken.result
    = taken_by_mark p c.args.row c.args.column ∙ ap (λ (m : Mark). is_box_part m || is_symbol m) (sym c.requires.mark) ∙ sym c.is_taken.ensures in
    rw e (search rules)

pub returns-else-not-has_meaning : goal.returns-else-not-has_meaning
unfolding layout_of
returns-else-not-has_meaning c =
    let p = layout_of c.args.self.now in
    let e : is_taken p c.args.row c.args.column ≡ c.is_taken.result
    = taken_by_mark p c.args.row c.args.column ∙ ap (λ (m : Mark). is_box_part m || is_symbol m) (sym c.requires.mark) ∙ sym c.is_taken.ensures in
    rw e (search rules)
