use Rattle.std.proofs.Common.{length, take, ◌++◌, [], ◌∷◌, refl, sym, ap, ◌∙◌, arith}
use Rattle.std.proofs.lemmas.List.{length-take}
use Rattle.network.specs.declared.element.Element.TheVariants.{Wire, Join, Upright, Contact, Coil, Box}
use Rattle.network.specs.Apart.{first_place}
use Rattle.network.specs.GraphValue.{diagram}
use Rattle.power_flow.specs.Steps.NameSources.{name_source}
use Rattle.power_flow.specs.Steps.RowEnds.{listed}
use Rattle.power_flow.proofs.Walks.Leading.{pins_in}
use Rattle.power_flow.specs.Waiting.{coil_of, box_of}
use Rattle.power_flow.proofs.Networks.ElementSteps.{filtered_short, at_number, first_in_rows, tells_first, tells_pin, wire_pushed, join_pushed, upright_pushed, contact_pushed, coil_pushed, box_pushed}
use Rattle.power_flow.proofs.steps.steps.push_element.Goals as goal

pub row_below-row-requires : goal.row_below-row-requires
row_below-row-requires c =
    let low = c.requires.low in
    let row = (first_in_rows c.args.elements.now c.args.top (length c.args.ends.now) c.args.k c.index-elements-k.result c.first_place-at.result c.requires.rows c.requires.within c.index-elements-k.is c.first_place-at.ensures).1 in
    omega arith

pub overflow_cast-numbers : goal.overflow_cast-numbers
overflow_cast-numbers c =
    let short = filtered_short coil_of (take c.args.k c.args.elements.now) in
    let count = c.requires.coils in
    let long = length-take c.args.k c.args.elements.now in
    let lt = c.requires.within in
    let few = c.requires.few in
    omega arith

pub overflow_cast-numbers-in-Box : goal.overflow_cast-numbers-in-Box
overflow_cast-numbers-in-Box c =
    let short = filtered_short box_of (take c.args.k c.args.elements.now) in
    let count = c.requires.boxes in
    let long = length-take c.args.k c.args.elements.now in
    let lt = c.requires.within in
    let few = c.requires.few in
    omega arith

pub beginning-requires-clause-row : goal.beginning-requires-clause-row
beginning-requires-clause-row c = (first_in_rows c.args.elements.now c.args.top (length c.args.ends.now) c.args.k c.index-elements-k.result c.first_place-at.result c.requires.rows c.requires.within c.index-elements-k.is c.first_place-at.ensures).1

pub beginning-requires-in-Join-clause-row : goal.beginning-requires-in-Join-clause-row
beginning-requires-in-Join-clause-row c = (first_in_rows c.args.elements.now c.args.top (length c.args.ends.now) c.args.k c.index-elements-k.result c.first_place-at.result c.requires.rows c.requires.within c.index-elements-k.is c.first_place-at.ensures).1

pub beginning-requires-in-Contact-clause-row : goal.beginning-requires-in-Contact-clause-row
beginning-requires-in-Contact-clause-row c = (first_in_rows c.args.elements.now c.args.top (length c.args.ends.now) c.args.k c.index-elements-k.result c.first_place-at.result c.requires.rows c.requires.within c.index-elements-k.is c.first_place-at.ensures).1

pub beginning-requires-in-Coil-clause-row : goal.beginning-requires-in-Coil-clause-row
beginning-requires-in-Coil-clause-row c = (first_in_rows c.args.elements.now c.args.top (length c.args.ends.now) c.args.k c.index-elements-k.result c.first_place-at.result c.requires.rows c.requires.within c.index-elements-k.is c.first_place-at.ensures).1

pub joining-requires-clause-stands : goal.joining-requires-clause-stands
joining-requires-clause-stands c = (
  Join c.in-Join.field-0,
  at_number c.args.elements.now c.args.k c.index-elements-k.result (Join c.in-Join.field-0) c.requires.within c.index-elements-k.is c.in-Join.is,
  sym (c.first_place-at.ensures ∙ ap first_place c.in-Join.is),
)

pub joining-requires-in-Upright-clause-stands : goal.joining-requires-in-Upright-clause-stands
joining-requires-in-Upright-clause-stands c = (
  Upright c.in-Upright.field-0,
  at_number c.args.elements.now c.args.k c.index-elements-k.result (Upright c.in-Upright.field-0) c.requires.within c.index-elements-k.is c.in-Upright.is,
  sym (c.first_place-at.ensures ∙ ap first_place c.in-Upright.is),
)

pub push_pins-requires-clause-rows : goal.push_pins-requires-clause-rows
push_pins-requires-clause-rows c = rw c.drawn.ensures (λ pin in'.
    let there = at_number c.args.elements.now c.args.k c.index-elements-k.result (Box c.in-Box.boxed) c.requires.within c.index-elements-k.is c.in-Box.is in
    let row = pins_in c.args.elements.now c.args.top (length c.args.ends.now) c.requires.rows c.args.k c.in-Box.boxed there pin in' in
    let low = row.0 in let high = row.1 in
    omega arith)

pub returns-in_ok-push_step-in-Wire : goal.returns-in_ok-push_step-in-Wire
returns-in_ok-push_step-in-Wire c =
    let es = c.args.elements.now in
    let d = diagram c.args.rails.now es in
    let e = c.index-elements-k.result in
    let at = c.first_place-at.result in
    let there = at_number es c.args.k e (Wire c.in-Wire.field-0) c.requires.within c.index-elements-k.is c.in-Wire.is in
    let tells = tells_first d c.requires.sound c.args.top c.args.k e at c.args.ends.now c.requires.rows c.requires.within c.index-elements-k.is c.first_place-at.ensures c.requires.ends in
    let old = c.args.steps.now.items in
    wire_pushed c.args.declarations.now d c.args.top c.args.k at old old c.push_step.new.steps.items c.in-Wire.field-0 (listed c.beginning.result) there
    (c.first_place-at.ensures ∙ ap first_place c.in-Wire.is) (c.beginning.ensures es tells) c.in_ok-push_step-in-Wire.ensures

pub returns-in_ok-push_step-in-Join-2 : goal.returns-in_ok-push_step-in-Join-2
returns-in_ok-push_step-in-Join-2 c =
    let es = c.args.elements.now in
    let d = diagram c.args.rails.now es in
    let e = c.index-elements-k.result in
    let at = c.first_place-at.result in
    let there = at_number es c.args.k e (Join c.in-Join.field-0) c.requires.within c.index-elements-k.is c.in-Join.is in
    let tells = tells_first d c.requires.sound c.args.top c.args.k e at c.args.ends.now c.requires.rows c.requires.within c.index-elements-k.is c.first_place-at.ensures c.requires.ends in
    join_pushed c.args.declarations.now d c.args.top c.args.k at c.args.steps.now.items c.push_step-in-Join.new.steps.items c.push_step-in-Join-2.new.steps.items c.in-Join.field-0
    (listed c.beginning-in-Join.result) (listed c.joining.result) there (c.first_place-at.ensures ∙ ap first_place c.in-Join.is) (c.beginning-in-Join.ensures es tells) c.in_ok-push_step-in-Join.ensures
    (c.joining.ensures c.args.rails.now c.requires.sound) c.in_ok-push_step-in-Join-2.ensures

pub returns-in_ok-push_step-in-Upright : goal.returns-in_ok-push_step-in-Upright
returns-in_ok-push_step-in-Upright c =
    let es = c.args.elements.now in
    let d = diagram c.args.rails.now es in
    let e = c.index-elements-k.result in
    let at = c.first_place-at.result in
    let there = at_number es c.args.k e (Upright c.in-Upright.field-0) c.requires.within c.index-elements-k.is c.in-Upright.is in
    upright_pushed c.args.declarations.now d c.args.top c.args.k at c.args.steps.now.items c.push.new.self.items c.push_step-in-Upright.new.steps.items c.in-Upright.field-0
    c.row_below-row.result (listed c.joining-in-Upright.result) there (c.first_place-at.ensures ∙ ap first_place c.in-Upright.is) c.row_below-row.ensures c.in_ok-push-in-Upright.ensures.items
    (c.joining-in-Upright.ensures c.args.rails.now c.requires.sound) c.in_ok-push_step-in-Upright.ensures

pub returns-in_ok-push-in-Contact : goal.returns-in_ok-push-in-Contact
returns-in_ok-push-in-Contact c =
    let es = c.args.elements.now in
    let d = diagram c.args.rails.now es in
    let e = c.index-elements-k.result in
    let at = c.first_place-at.result in
    let there = at_number es c.args.k e (Contact c.in-Contact.contact) c.requires.within c.index-elements-k.is c.in-Contact.is in
    let tells = tells_first d c.requires.sound c.args.top c.args.k e at c.args.ends.now c.requires.rows c.requires.within c.index-elements-k.is c.first_place-at.ensures c.requires.ends in
    let mid = c.push_step-in-Contact.new.steps.items in
    contact_pushed c.args.declarations.now d c.args.top c.args.k at c.args.steps.now.items mid c.push-in-Contact.new.self.items c.in-Contact.contact
    c.row_below-row.result (name_source c.args.declarations.now c.in-Contact.contact.name) (listed c.beginning-in-Contact.result) there (c.first_place-at.ensures ∙ ap first_place c.in-Contact.is) c.row_below-row.ensures
    refl (c.beginning-in-Contact.ensures es tells) c.in_ok-push_step-in-Contact.ensures
    (c.in_ok-push-in-Contact.ensures.items ∙ ap (λ s. mid ++ s ∷ []) c.in_ok-step-in-Contact.ensures)

pub returns-in_ok-push-in-Coil : goal.returns-in_ok-push-in-Coil
returns-in_ok-push-in-Coil c =
    let es = c.args.elements.now in
    let d = diagram c.args.rails.now es in
    let e = c.index-elements-k.result in
    let at = c.first_place-at.result in
    let there = at_number es c.args.k e (Coil c.in-Coil.field-0) c.requires.within c.index-elements-k.is c.in-Coil.is in
    let tells = tells_first d c.requires.sound c.args.top c.args.k e at c.args.ends.now c.requires.rows c.requires.within c.index-elements-k.is c.first_place-at.ensures c.requires.ends in
    coil_pushed c.args.declarations.now d c.args.top c.args.k at c.args.steps.now.items c.push_step-in-Coil.new.steps.items c.push-in-Coil.new.self.items c.in-Coil.field-0
    c.row_below-row.result c.args.numbers.coils (listed c.beginning-in-Coil.result) there (c.first_place-at.ensures ∙ ap first_place c.in-Coil.is) c.row_below-row.ensures c.requires.coils
    (c.beginning-in-Coil.ensures es tells) c.in_ok-push_step-in-Coil.ensures c.in_ok-push-in-Coil.ensures.items

pub returns-in_ok-push-in-Box : goal.returns-in_ok-push-in-Box
returns-in_ok-push-in-Box c =
    let es = c.args.elements.now in
    let d = diagram c.args.rails.now es in
    let b = c.in-Box.boxed in
    let there = at_number es c.args.k c.index-elements-k.result (Box b) c.requires.within c.index-elements-k.is c.in-Box.is in
    let begun = (rw c.drawn.ensures at c.in_ok-push_pins-in-Box.ensures) es (tells_pin d c.requires.sound c.args.top c.args.k b c.args.ends.now c.requires.rows there c.requires.ends) in
    box_pushed c.args.declarations.now d c.args.top c.args.k c.first_place-at.result c.args.steps.now.items c.push_pins.new.steps.items c.push-in-Box.new.self.items b c.args.numbers.boxes begun.0 there
    c.requires.boxes begun.1 begun.2 c.in_ok-push-in-Box.ensures.items
