use Rattle.std.proofs.Common.{not, sym, ◌∙◌, true, false, ◌≡◌, Bool, refl}
use Rattle.ladder_text.specs.Places.{layout_of}
use Rattle.ladder_rows.specs.declared.boxes.box_test.BoxTest.TheVariants.{Covers, Reaches}
use Rattle.ladder_text.proofs.Marks.RowMarks.{blank_mark, dash_mark}
use Rattle.ladder_text.proofs.places.marked_grid.MarkedGrid.mark_with.Goals as goal

not_false : (b : Bool) → not b ≡ true → b ≡ false
not_false false e = refl
not_false true e = absurd (cc)

pub returns-then-not-coil : goal.returns-then-not-coil
unfolding layout_of
returns-then-not-coil c =
    let a = c.args in
    let p = layout_of a.self.now in
    let bare = (c.requires.bare c.if-bare.true).none in
    sym (dash_mark p a.row a.column (bare Covers a.column) (sym c.requires.contact ∙ c.if-not-contact.true) (sym c.requires.coil ∙ c.if-not-coil.true)
    (bare Reaches a.column) (sym c.requires.char ∙ c.if-c-eq45.true))

pub returns-then-not-coil-2 : goal.returns-then-not-coil-2
unfolding layout_of
returns-then-not-coil-2 c =
    let a = c.args in
    let p = layout_of a.self.now in
    sym (blank_mark p a.row a.column ((c.requires.bare c.if-bare-2.true).none Covers a.column)
    (sym c.requires.contact ∙ c.if-not-contact-2.true) (sym c.requires.coil ∙ c.if-not-coil-2.true)
    (λ e. c.if-c-ne45.true (c.requires.char ∙ e)) (λ e. c.if-c-ne124.true (c.requires.char ∙ e)) (λ e. c.if-c-ne43.true (c.requires.char ∙ e)))
