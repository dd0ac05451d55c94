use Rattle.std.proofs.Common.{◌≡◌, ◌∙◌, ◌+◌, ◌++◌, ◌∷◌, [], List, MatchOption, OnOk, Option, Result, Some, None, sym, ap}
use Rattle.std.proofs.lemmas.List.{map-append}
use Rattle.std.specs.declared.alloc.AllocError.{AllocError}
use Rattle.drawings.specs.Picture.{Picture, IsSound, mark_at}
use Rattle.drawings.specs.declared.place.Place.{Place}
use Rattle.network.specs.declared.listing.listed.Entry.{Entry}
use Rattle.network.specs.declared.listing.listed.Entry.TheVariants.{Wire as WireEntry, Join as JoinEntry, Upright as UprightEntry}
use Rattle.network.specs.Apart.{first_place}
use Rattle.network.specs.Links.{place}
use Rattle.network.specs.Networks.{IsElementOf}
use Rattle.network.specs.Steps.Listed.{element_of, stand_for}
use Rattle.network.specs.Steps.Listing.{AreElementsBefore, AddsFound, IsNoElementAt, IsEntryAt}
use Rattle.network.proofs.Basics.{on_ok}
use Rattle.network.proofs.Listed.ElementOrder.{elements_found}
use Rattle.network.proofs.Listed.Sharing.{the_element}
use Rattle.network.proofs.listing.elements.push_at.Goals as goal

-- an entry that is found is added
added : (g : Picture) (at : Place) (es new : List Entry) (found : Option Entry) → MatchOption found (IsNoElementAt g at) (IsEntryAt g at) → AddsFound found es new
    → AreElementsBefore g at (stand_for g es) → AreElementsBefore g (place (at.row + 1) at.column) (stand_for g new)
added g at es new None is made before = elements_found g at.row at.column (stand_for g es) (stand_for g new) None is (ap (stand_for g) made) before
added g at es new (Some entry) is made before =
    elements_found g at.row at.column (stand_for g es) (stand_for g new) (Some (element_of g entry)) is (ap (stand_for g) made ∙ map-append (element_of g) es (entry ∷ [])) before

-- the entry of one place is added
pushed : (g : Picture) (sound : IsSound g) (at : Place) (es new : List Entry) (entry : Entry) (r : Result (Unit {0}) AllocError) → IsElementOf g (element_of g entry) → first_place (element_of g entry) ≡ at
    → AreElementsBefore g at (stand_for g es) → OnOk r (new ≡ es ++ entry ∷ []) → OnOk r (AreElementsBefore g (place (at.row + 1) at.column) (stand_for g new))
pushed g sound at es new entry r is begins before =
    on_ok r _ _ (λ made. added g at es new (Some entry) (the_element g sound (element_of g entry) at is begins) made before)

pub returns-in-Wire-clause-elements : goal.returns-in-Wire-clause-elements
returns-in-Wire-clause-elements c = pushed c.args.drawing.now c.requires.sound c.args.at c.args.elements.now.items c.push.new.elements.items (WireEntry c.new.result) c.push.result
    (ap (λ (p : Place). mark_at c.args.drawing.now p.row p.column) (sym c.new.ensures) ∙ sym c.in-Wire.ensures) (sym c.new.ensures) c.requires.before c.push.ensures

pub returns-in-Join-clause-elements : goal.returns-in-Join-clause-elements
returns-in-Join-clause-elements c = pushed c.args.drawing.now c.requires.sound c.args.at c.args.elements.now.items c.push-in-Join.new.elements.items (JoinEntry c.new-in-Join.result) c.push-in-Join.result
    (ap (λ (p : Place). mark_at c.args.drawing.now p.row p.column) (sym c.new-in-Join.ensures) ∙ sym c.in-Join.ensures) (sym c.new-in-Join.ensures) c.requires.before c.push-in-Join.ensures

pub returns-in-Upright-clause-elements : goal.returns-in-Upright-clause-elements
returns-in-Upright-clause-elements c = pushed c.args.drawing.now c.requires.sound c.args.at c.args.elements.now.items c.push-in-Upright.new.elements.items (UprightEntry c.new-in-Upright.result) c.push-in-Upright.result
    (ap (λ (p : Place). mark_at c.args.drawing.now p.row p.column) (sym c.new-in-Upright.ensures) ∙ sym c.in-Upright.ensures) (sym c.new-in-Upright.ensures) c.requires.before c.push-in-Upright.ensures

pub returns-in_ok-contact-in-ContactPart-clause-elements : goal.returns-in_ok-contact-in-ContactPart-clause-elements
returns-in_ok-contact-in-ContactPart-clause-elements c =
    let found = c.in_ok-contact-in-ContactPart in
    on_ok c.push_found.result _ _ (λ made. added c.args.drawing.now c.args.at c.args.elements.now.items c.push_found.new.elements.items found.contact found.ensures.found made c.requires.before) c.push_found.ensures

pub returns-in_ok-coil-in-CoilPart-clause-elements : goal.returns-in_ok-coil-in-CoilPart-clause-elements
returns-in_ok-coil-in-CoilPart-clause-elements c =
    let found = c.in_ok-coil-in-CoilPart in
    let push = c.push_found-in-CoilPart in
    on_ok push.result _ _ (λ made. added c.args.drawing.now c.args.at c.args.elements.now.items push.new.elements.items found.coil found.ensures.found made c.requires.before) push.ensures

pub returns-in_ok-boxed-in-BoxPart-clause-elements : goal.returns-in_ok-boxed-in-BoxPart-clause-elements
returns-in_ok-boxed-in-BoxPart-clause-elements c =
    let found = c.in_ok-boxed-in-BoxPart in
    let push = c.push_found-in-BoxPart in
    on_ok push.result _ _ (λ made. added c.args.drawing.now c.args.at c.args.elements.now.items push.new.elements.items found.boxed found.ensures made c.requires.before) push.ensures
