use Rattle.std.proofs.Common.{◌≡◌, ◌-◌, ◌∙◌, ap, sym, refl, Bool, not, true, false, inl, inr}
use Rattle.ladder_rows.specs.Rows.{char_at}
use Rattle.ladder_text.specs.Places.{layout_of, gives}
use Rattle.ladder_text.specs.Faults.{has_meaning}
use Rattle.ladder_text.proofs.Marks.FinePlaces.{fine_wire, fine_contact, fine_coil, fine_blank, fine_rail, fine_upright}
use Rattle.ladder_text.proofs.places.marked_grid.MarkedGrid.is_fine.Goals as goal

pub returns-in-Wire : goal.returns-in-Wire
unfolding layout_of
returns-in-Wire c =
    let a = c.args in
    let p = layout_of a.self.now in
    let own = sym c.requires.mark in
    λ t.
    let g : gives p a.row (a.column - 1) ≡ true = rw c.saturating_sub.ensures at (c.mark_gives.ensures t) in
    elim c.in-Wire.is [
      | inl e ↦ fine_wire p a.row a.column c.requires.bare (own ∙ e) g
      | inr other ↦ elim other [
        | inl e ↦ fine_contact p a.row a.column c.requires.bare (own ∙ e) g
        | inr e ↦ fine_coil p a.row a.column c.requires.bare (own ∙ e) g
      ]
    ]

pub returns-in-Blank : goal.returns-in-Blank
unfolding layout_of
returns-in-Blank c =
    let a = c.args in
    let p = layout_of a.self.now in
    let own = sym c.requires.mark in
    λ t.
    let m : has_meaning (char_at a.self.now a.row a.column) ≡ true =
    rw (← c.self.view_is) (ap has_meaning (sym c.cell.ensures) ∙ sym c.has_meaning.ensures ∙ t) in
    elim c.in-Blank.is [
      | inl e ↦ fine_blank p a.row a.column (own ∙ e) m
      | inr e ↦ fine_rail p a.row a.column (own ∙ e) m
    ]

not_false : (b : Bool) → not b ≡ true → b ≡ false
not_false false e = refl
not_false true e = absurd (cc)

pub returns-in-Upright : goal.returns-in-Upright
unfolding layout_of
returns-in-Upright c =
    let a = c.args in
    let p = layout_of a.self.now in
    λ t. fine_upright p a.row a.column c.requires.bare (sym c.requires.mark ∙ c.in-Upright.is) (sym c.crossing.ensures ∙ not_false c.crossing.result t)
