use Rattle.std.proofs.Common.{◌∙◌, ◌∷◌, ◌++◌, [], List, ap, sym, arith}
use Rattle.drawings.specs.declared.mark.Mark.{Mark}
use Rattle.drawings.specs.declared.mark.Mark.TheVariants.{Blank, ContactPart, CoilPart}
use Rattle.ladder_rows.specs.Rows.{Rows, width}
use Rattle.ladder_text.specs.Places.{layout_of}
use Rattle.ladder_text.proofs.Marks.RowMarks.{contact_passed, coil_passed}
use Rattle.ladder_text.proofs.places.marked_grid.MarkedGrid.row_marks.Goals as goal

pub loop-column-preserved-then-begins_contact : goal.loop-column-preserved-then-begins_contact
unfolding layout_of
loop-column-preserved-then-begins_contact c =
    let done = contact_passed (layout_of c.args.self.now) c.args.row c.loop-column.column (sym c.begins_contact.ensures ∙ c.if-begins_contact.true) in
    record {
      within = omega (arith, done.inside, c.last-last.ensures.last, ap (λ (d : Rows). width d) c.self.view_is);
      marks = c.in_ok-push_symbol.ensures.added ∙ ap (λ (l : List Mark). l ++ ContactPart ∷ ContactPart ∷ ContactPart ∷ []) c.loop-column.invariant.marks ∙ ap (λ (l : List Mark). Blank ∷ l) (sym done.marks);
      quiet = done.quiet;
    }

pub loop-column-preserved-then-begins_coil : goal.loop-column-preserved-then-begins_coil
unfolding layout_of
loop-column-preserved-then-begins_coil c =
    let done = coil_passed (layout_of c.args.self.now) c.args.row c.loop-column.column (sym c.begins_coil.ensures ∙ c.if-begins_coil.true) in
    record {
      within = omega (arith, done.inside, c.last-last.ensures.last, ap (λ (d : Rows). width d) c.self.view_is);
      marks = c.in_ok-push_symbol-2.ensures.added ∙ ap (λ (l : List Mark). l ++ CoilPart ∷ CoilPart ∷ CoilPart ∷ []) c.loop-column.invariant.marks ∙ ap (λ (l : List Mark). Blank ∷ l) (sym done.marks);
      quiet = done.quiet;
    }
