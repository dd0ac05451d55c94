use Rattle.std.proofs.Common.{◌+◌, length, inl, inr, refl, arith}
use Rattle.network.specs.declared.element.Element.TheVariants.{Upright, Contact, Coil, Box}
use Rattle.network.specs.Links.{place}
use Rattle.network.specs.GraphValue.{diagram}
use Rattle.power_flow.proofs.Walks.Leading.{symbol_more, none_more, box_more, in_rows, pins_in}
use Rattle.power_flow.proofs.Networks.ElementSteps.{at_number, one_place}
use Rattle.power_flow.proofs.steps.row_ends.note_element.Goals as goal

pub overflow_add-contact : goal.overflow_add-contact
overflow_add-contact c =
    let there = at_number c.args.elements.now c.args.k c.index-elements-k.result (Contact c.in-Contact.contact) c.requires.within c.index-elements-k.is c.in-Contact.is in
    let page = c.requires.page c.args.k (Contact c.in-Contact.contact) (place c.in-Contact.contact.row c.in-Contact.contact.column) there (inl refl) in
    let column = page.1 in
    omega arith

pub note-requires-clause-row : goal.note-requires-clause-row
note-requires-clause-row c =
    let there = at_number c.args.elements.now c.args.k c.index-elements-k.result (Contact c.in-Contact.contact) c.requires.within c.index-elements-k.is c.in-Contact.is in
    (in_rows c.args.elements.now c.args.top (length c.args.ends.now) c.requires.rows c.args.k (Contact c.in-Contact.contact) (place c.in-Contact.contact.row c.in-Contact.contact.column) there (inl refl)).1

pub note-requires-clause-column : goal.note-requires-clause-column
note-requires-clause-column c =
    let there = at_number c.args.elements.now c.args.k c.index-elements-k.result (Contact c.in-Contact.contact) c.requires.within c.index-elements-k.is c.in-Contact.is in
    let page = c.requires.page c.args.k (Contact c.in-Contact.contact) (place c.in-Contact.contact.row c.in-Contact.contact.column) there (inl refl) in
    let column = page.1 in
    omega arith

pub returns-in-Contact-clause-ends : goal.returns-in-Contact-clause-ends
returns-in-Contact-clause-ends c = λ rails are.
    let contact = c.in-Contact.contact in
    let there = at_number c.args.elements.now c.args.k c.index-elements-k.result (Contact contact) c.requires.within c.index-elements-k.is c.in-Contact.is in
    let row = in_rows c.args.elements.now c.args.top (length c.args.ends.now) c.requires.rows c.args.k (Contact contact) (place contact.row contact.column) there (inl refl) in
    rw c.note.ensures (symbol_more (diagram rails c.args.elements.now) c.args.top c.args.k c.args.ends.now (Contact contact) (place contact.row (contact.column + 2)) there row.0 row.1
    (λ p gives. (gives.0, gives.2)) (refl, omega arith, omega arith) are)

pub overflow_add-coil : goal.overflow_add-coil
overflow_add-coil c =
    let there = at_number c.args.elements.now c.args.k c.index-elements-k.result (Coil c.in-Coil.coil) c.requires.within c.index-elements-k.is c.in-Coil.is in
    let page = c.requires.page c.args.k (Coil c.in-Coil.coil) (place c.in-Coil.coil.row c.in-Coil.coil.column) there (inl refl) in
    let column = page.1 in
    omega arith

pub note-requires-in-Coil-clause-row : goal.note-requires-in-Coil-clause-row
note-requires-in-Coil-clause-row c =
    let there = at_number c.args.elements.now c.args.k c.index-elements-k.result (Coil c.in-Coil.coil) c.requires.within c.index-elements-k.is c.in-Coil.is in
    (in_rows c.args.elements.now c.args.top (length c.args.ends.now) c.requires.rows c.args.k (Coil c.in-Coil.coil) (place c.in-Coil.coil.row c.in-Coil.coil.column) there (inl refl)).1

pub note-requires-in-Coil-clause-column : goal.note-requires-in-Coil-clause-column
note-requires-in-Coil-clause-column c =
    let there = at_number c.args.elements.now c.args.k c.index-elements-k.result (Coil c.in-Coil.coil) c.requires.within c.index-elements-k.is c.in-Coil.is in
    let page = c.requires.page c.args.k (Coil c.in-Coil.coil) (place c.in-Coil.coil.row c.in-Coil.coil.column) there (inl refl) in
    let column = page.1 in
    omega arith

pub returns-in-Coil-clause-ends : goal.returns-in-Coil-clause-ends
returns-in-Coil-clause-ends c = λ rails are.
    let coil = c.in-Coil.coil in
    let there = at_number c.args.elements.now c.args.k c.index-elements-k.result (Coil coil) c.requires.within c.index-elements-k.is c.in-Coil.is in
    let row = in_rows c.args.elements.now c.args.top (length c.args.ends.now) c.requires.rows c.args.k (Coil coil) (place coil.row coil.column) there (inl refl) in
    rw c.note-in-Coil.ensures (symbol_more (diagram rails c.args.elements.now) c.args.top c.args.k c.args.ends.now (Coil coil) (place coil.row (coil.column + 2)) there row.0 row.1
    (λ p gives. (gives.0, gives.2)) (refl, omega arith, omega arith) are)

pub note_pins-requires-clause-rows : goal.note_pins-requires-clause-rows
note_pins-requires-clause-rows c =
    let there = at_number c.args.elements.now c.args.k c.index-elements-k.result (Box c.in-Box.boxed) c.requires.within c.index-elements-k.is c.in-Box.is in
    rw c.drawn.ensures (pins_in c.args.elements.now c.args.top (length c.args.ends.now) c.requires.rows c.args.k c.in-Box.boxed there)

pub note_pins-requires-clause-column : goal.note_pins-requires-clause-column
note_pins-requires-clause-column c = rw c.drawn.ensures (λ pin in' side.
    let b = c.in-Box.boxed in
    let there = at_number c.args.elements.now c.args.k c.index-elements-k.result (Box b) c.requires.within c.index-elements-k.is c.in-Box.is in
    let page = c.requires.page c.args.k (Box b) (place pin.row b.right) there (inr (inl (refl, (in'.0, pin, in'.1, in'.2, (side, refl))))) in
    let column = page.1 in
    omega arith)

pub returns-in-Box-clause-ends : goal.returns-in-Box-clause-ends
returns-in-Box-clause-ends c = λ rails are.
    let b = c.in-Box.boxed in
    let there = at_number c.args.elements.now c.args.k c.index-elements-k.result (Box b) c.requires.within c.index-elements-k.is c.in-Box.is in
    let noted = rw c.drawn.ensures at c.note_pins.ensures.ends in
    box_more (diagram rails c.args.elements.now) c.args.top c.args.k c.note_pins.new.ends b there (noted (diagram rails c.args.elements.now) c.args.k are)

pub returns-in-Upright-clause-ends : goal.returns-in-Upright-clause-ends
returns-in-Upright-clause-ends c = λ rails are.
    let there = at_number c.args.elements.now c.args.k c.index-elements-k.result (Upright c.in-Upright.field-0) c.requires.within c.index-elements-k.is c.in-Upright.is in
    none_more (diagram rails c.args.elements.now) c.args.top c.args.k c.args.ends.now (Upright c.in-Upright.field-0) there (λ p gives. gives) are

pub note-requires-in-Wire-clause-row : goal.note-requires-in-Wire-clause-row
note-requires-in-Wire-clause-row c =
    let w = one_place c.args.elements.now c.args.k c.index-elements-k.result c.in-Wire.at c.requires.within c.index-elements-k.is c.in-Wire.is in
    (in_rows c.args.elements.now c.args.top (length c.args.ends.now) c.requires.rows c.args.k w.0 c.in-Wire.at w.1 (inl w.2)).1

pub note-requires-in-Wire-clause-column : goal.note-requires-in-Wire-clause-column
note-requires-in-Wire-clause-column c =
    let w = one_place c.args.elements.now c.args.k c.index-elements-k.result c.in-Wire.at c.requires.within c.index-elements-k.is c.in-Wire.is in
    let page = c.requires.page c.args.k w.0 c.in-Wire.at w.1 (inl w.2) in
    let column = page.1 in
    omega arith

pub returns-in-Wire-clause-ends : goal.returns-in-Wire-clause-ends
returns-in-Wire-clause-ends c = λ rails are.
    let w = one_place c.args.elements.now c.args.k c.index-elements-k.result c.in-Wire.at c.requires.within c.index-elements-k.is c.in-Wire.is in
    let row = in_rows c.args.elements.now c.args.top (length c.args.ends.now) c.requires.rows c.args.k w.0 c.in-Wire.at w.1 (inl w.2) in
    rw c.note-in-Wire.ensures (symbol_more (diagram rails c.args.elements.now) c.args.top c.args.k c.args.ends.now w.0 c.in-Wire.at w.1 row.0 row.1 w.4 w.3 are)
